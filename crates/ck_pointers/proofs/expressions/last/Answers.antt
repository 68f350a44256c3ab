use Rattle.std.proofs.Common.{length, sym}
use Rattle.ck_pointers.proofs.RowLemmas.{last_below, last_operand_is}
use Rattle.ck_pointers.proofs.expressions.last.Goals as goal

pub last_operand-requires : goal.last_operand-requires
last_operand-requires c =
    last_below (length c.args.sources.now) c.args.links.now c.in-Some.link.now c.requires.links
    (sym c.in-Some.ensures.value)

pub returns-in-Some : goal.returns-in-Some
returns-in-Some c =
    last_operand_is c.args.sources.now c.args.first.0 c.args.links.now c.in-Some.link.now c.last_operand.result
    (sym c.in-Some.ensures.value) c.last_operand.ensures
