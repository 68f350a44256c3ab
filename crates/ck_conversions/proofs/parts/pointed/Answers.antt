use Rattle.std.proofs.Common.{◌∙◌}
use Rattle.ck_types.specs.TypeTable.{entries_of}
use Rattle.std.specs.Prelude.{take}
use Rattle.ck_conversions.proofs.Looks.{looked, named_among}
use Rattle.ck_conversions.specs.Parts.{pointed}
use Rattle.ck_conversions.proofs.parts.pointed.Goals as goal

pub returns-clause-named : goal.returns-clause-named
returns-clause-named c =
    named_among c.args.types.now c.args.id.0 c.pointed.result
    (c.pointed.ensures.named (take c.args.id.0 c.args.types.now) c.node.ensures.smaller)

pub returns-clause-target : goal.returns-clause-target
returns-clause-target c = λ identity. c.pointed.ensures.target identity (entries_of identity c.args.types.now)
    ∙ looked pointed identity c.args.types.now c.args.id c.node.result c.node.ensures.table c.node.ensures.node
