use Rattle.std.proofs.Common.{◌≡◌, ◌≤◌, Some, length, slice_get, get_or, subst}
use Rattle.std.proofs.lemmas.Option.{slice_get-get_or}
use Rattle.ck_reaching.specs.declared.rules.Names.{Names}
use Rattle.ck_reaching.proofs.StartLemmas.{entered-more, HasNames-from}
use Rattle.ck_reaching.proofs.solving.enter_names.Goals as goal

pub loop-name-preserved : goal.loop-name-preserved
loop-name-preserved c =
    let names = c.names-name-items.result.now in
    let n = c.loop-name.name-index in
    let none : Names = record { function = record { 0 = 0 }; to = record { 0 = 0 } } in
    let name : Names = get_or names n none in
    entered-more c.args.rules.now n name c.args.work.now c.loop-name.work c.insert.new.self c.put.new.self
    (subst (λ xs. slice_get xs n ≡ Some name) c.names-name-items.ensures
    (slice_get-get_or names n none c.loop-name-test.true)) c.insert.ensures.exactly c.insert.ensures.sizes
    c.in_ok-put.ensures c.loop-name.invariant

pub returns : goal.returns
returns c =
    HasNames-from c.args.rules.now c.loop-name.name-index c.args.work.now c.loop-name.work
    (subst (λ xs. length xs ≤ c.loop-name.name-index) c.names-name-items.ensures c.loop-name-test.false)
    c.loop-name.invariant
