use Rattle.std.proofs.Common.{◌∙◌}
use Rattle.ck_types.specs.TypeTable.{entries_of}
use Rattle.std.specs.Prelude.{take}
use Rattle.ck_conversions.proofs.Looks.{looked, signature_among}
use Rattle.ck_conversions.specs.Parts.{signature_in}
use Rattle.ck_conversions.proofs.parts.signature_of.Goals as goal

pub returns-clause-named : goal.returns-clause-named
returns-clause-named c =
    signature_among c.args.types.now c.args.id.0 c.signature_of.result
    (c.signature_of.ensures.named (take c.args.id.0 c.args.types.now) c.node.ensures.smaller)

pub returns-clause-signature : goal.returns-clause-signature
returns-clause-signature c = λ identity. c.signature_of.ensures.signature identity (entries_of identity c.args.types.now)
    ∙ looked signature_in identity c.args.types.now c.args.id c.node.result c.node.ensures.table c.node.ensures.node
