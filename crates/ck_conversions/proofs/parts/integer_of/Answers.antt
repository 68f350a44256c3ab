use Rattle.std.proofs.Common.{◌∙◌}
use Rattle.ck_types.specs.TypeTable.{entries_of}
use Rattle.ck_conversions.proofs.Looks.{looked}
use Rattle.ck_conversions.specs.Parts.{integer_in}
use Rattle.ck_conversions.proofs.parts.integer_of.Goals as goal

pub returns : goal.returns
returns c = λ identity. c.integer_of.ensures identity (entries_of identity c.args.types.now)
    ∙ looked integer_in identity c.args.types.now c.args.id c.node.result c.node.ensures.table c.node.ensures.node
