use Rattle.std.proofs.Common.{◌≡◌, rules}
use Rattle.ck_call_rows.proofs.AllFunctions.{added_none, added_more, added_all}
use Rattle.ck_call_rows.proofs.Elements.{row-of}
use Rattle.ck_tables.proofs.ProgramLemmas.{body_of_closed}
use Rattle.ck_call_rows.proofs.functions.call_rows.Goals as goal

pub each-init : goal.each-init
each-init c = added_none c.args.linked.now c.args.uses.now _ c.as_slice-bodies.result.now c.new-rows.ensures

pub function-requires : goal.function-requires
function-requires c =
    let l = c.args.linked.now in
    body_of_closed l c.each.number c.index-bodies-number.result c.requires.closed
    (row-of c.as_slice-bodies.result.now l.bodies.rows.items c.each.number c.index-bodies-number.result
    c.as_slice-bodies.ensures c.each-test.true c.index-bodies-number.is)

pub each-preserved : goal.each-preserved
each-preserved c =
    let own : c.in-Ok.function ≡ c.each.number = search rules in
    added_more _ _ _ c.each.number c.index-bodies-number.result c.as_slice-bodies.result.now c.each.invariant
    c.each-test.true c.index-bodies-number.is own c.in_ok-function.ensures

pub returns : goal.returns
returns c =
    added_all c.args.linked.now c.args.uses.now c.each.rows.rows.items c.each.number c.as_slice-bodies.result.now
    c.each.invariant c.each-test.false c.as_slice-bodies.ensures
