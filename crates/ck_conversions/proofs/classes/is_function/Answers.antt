use Rattle.std.proofs.Common.{◌∙◌}
use Rattle.ck_prog.specs.TypeClasses.{is_function}
use Rattle.ck_types.specs.TypeTable.{entries_of}
use Rattle.ck_conversions.proofs.Looks.{looked}
use Rattle.ck_conversions.proofs.classes.is_function.Goals as goal

pub returns : goal.returns
returns c = λ identity. c.is_function.ensures identity (entries_of identity c.args.types.now)
    ∙ looked is_function identity c.args.types.now c.args.id c.node.result c.node.ensures.table c.node.ensures.node
