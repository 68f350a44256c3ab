use Rattle.std.proofs.Common.{◌∙◌}
use Rattle.ck_prog.specs.TypeClasses.{is_array}
use Rattle.ck_types.specs.TypeTable.{entries_of}
use Rattle.ck_conversions.proofs.Looks.{looked}
use Rattle.ck_conversions.proofs.classes.is_array.Goals as goal

pub returns : goal.returns
returns c = λ identity. c.is_array.ensures identity (entries_of identity c.args.types.now)
    ∙ looked is_array identity c.args.types.now c.args.id c.node.result c.node.ensures.table c.node.ensures.node
