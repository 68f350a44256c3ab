use Rattle.std.proofs.Common.{◌∙◌, arith}
use Rattle.std.proofs.lemmas.List.Elements.{All-contains}
use Rattle.ck_reaching.specs.Rules.{IsCallWithin}
use Rattle.ck_reaching.proofs.WorkLemmas.{contains-at}
use Rattle.ck_reaching.proofs.IndexedRules.{calls-none, calls-more, calls-from_all}
use Rattle.ck_reaching.proofs.solving.calls_of.Goals as goal

pub loop-number-init : goal.loop-number-init
loop-number-init c =
    calls-none c.args.rules.now c.in_ok-calls.calls (c.in_ok-calls.ensures.size ∙ c.cells.ensures.count)
    c.in_ok-calls.ensures.empty

pub add-requires : goal.add-requires
add-requires c =
    let s = c.args.rules.now in
    let call = c.call.result.now in
    let within = All-contains (IsCallWithin s) s.calls call c.cells.ensures.in_range.calls
    (contains-at s.calls c.loop-number.number call c.call.ensures) in
    omega (arith, within.called, c.loop-number.invariant.size)

pub loop-number-preserved : goal.loop-number-preserved
loop-number-preserved c =
    calls-more c.args.rules.now c.loop-number.number c.call.result.now c.loop-number.calls c.add.new.self c.call.ensures
    c.in_ok-add.ensures c.loop-number.invariant

pub returns : goal.returns
returns c =
    calls-from_all c.args.rules.now c.loop-number.number c.loop-number.calls
    (omega (arith, c.loop-number-test.false, c.calls-number-end.ensures)) c.loop-number.invariant
