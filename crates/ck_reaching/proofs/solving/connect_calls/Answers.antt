use Rattle.std.proofs.Common.{◌≡◌, Some, get_or, sym, ◌∙◌, subst}
use Rattle.std.proofs.lemmas.List.Elements.{Contains-get_or}
use Rattle.std.proofs.lemmas.Option.{slice_get-get_or, slice_get_within}
use Rattle.ck_reaching.specs.declared.rules.Call.{Call}
use Rattle.ck_reaching.specs.Reaching.{Reaches}
use Rattle.ck_reaching.proofs.WorkLemmas.{contains-at}
use Rattle.ck_reaching.proofs.ConnectLemmas.{calls-more, calls-from_all}
use Rattle.ck_reaching.proofs.solving.connect_calls.Goals as goal

pub call-requires : goal.call-requires
call-requires c =
    let calls = c.args.calls.now in
    let n = c.loop-number.number-index in
    let number = get_or calls n 0 in
    let call = c.requires.calls number (Contains-get_or calls n 0 c.loop-number-test.true) in
    slice_get_within c.args.rules.now.calls number call.0 call.1

pub connect_if_target-requires-clause-call : goal.connect_if_target-requires-clause-call
connect_if_target-requires-clause-call c =
    contains-at c.args.rules.now.calls (get_or c.args.calls.now c.loop-number.number-index 0) c.call.result.now
    c.call.ensures

pub connect_if_target-requires-clause-reaches : goal.connect_if_target-requires-clause-reaches
connect_if_target-requires-clause-reaches c =
    let s = c.args.rules.now in
    let calls = c.args.calls.now in
    let n = c.loop-number.number-index in
    let call = c.requires.calls (get_or calls n 0) (Contains-get_or calls n 0 c.loop-number-test.true) in
    let read : Some call.0 ≡ Some c.call.result.now = sym call.1 ∙ c.call.ensures in
    let same : call.0 ≡ c.call.result.now = cc in
    subst (λ (k : Call). Reaches s k.called.0 c.args.function.0) same call.2

pub loop-number-preserved : goal.loop-number-preserved
loop-number-preserved c =
    let calls = c.args.calls.now in
    let n = c.loop-number.number-index in
    let e = c.in_ok-connect_if_target.ensures in
    calls-more c.args.rules.now calls c.args.function.0 n (get_or calls n 0) c.call.result.now c.args.work.now
    c.loop-number.work c.connect_if_target.new.work (slice_get-get_or calls n 0 c.loop-number-test.true) c.call.ensures
    e.connected e.advances c.loop-number.invariant

pub returns : goal.returns
returns c =
    calls-from_all c.args.rules.now c.args.calls.now c.args.function.0 c.loop-number.number-index c.args.work.now
    c.loop-number.work c.loop-number-test.false c.loop-number.invariant
