use Rattle.std.proofs.Common.{◌≡◌, ◌≤◌, ◌∙◌, Some, length, slice_get, get_or, subst}
use Rattle.std.proofs.lemmas.Option.{slice_get-get_or}
use Rattle.ck_reaching.specs.declared.rules.Flows.{Flows}
use Rattle.ck_reaching.proofs.IndexedRules.{flows-none, flows-more, flows-from_all}
use Rattle.ck_reaching.proofs.solving.flows_of.Goals as goal

pub loop-flow-init : goal.loop-flow-init
loop-flow-init c =
    flows-none c.args.rules.now c.in_ok-edges.edges (c.in_ok-edges.ensures.size ∙ c.cells.ensures.count)
    c.in_ok-edges.ensures.empty

pub loop-flow-preserved : goal.loop-flow-preserved
loop-flow-preserved c =
    let flows = c.flows-flow-items.result.now in
    let n = c.loop-flow.flow-index in
    let none : Flows = record { from = record { 0 = 0 }; to = record { 0 = 0 } } in
    let flow : Flows = get_or flows n none in
    flows-more c.args.rules.now n flow c.loop-flow.edges c.add.new.self
    (subst (λ xs. slice_get xs n ≡ Some flow) c.flows-flow-items.ensures
    (slice_get-get_or flows n none c.loop-flow-test.true)) c.in_ok-add.ensures c.loop-flow.invariant

pub returns : goal.returns
returns c =
    flows-from_all c.args.rules.now c.loop-flow.flow-index c.loop-flow.edges
    (subst (λ xs. length xs ≤ c.loop-flow.flow-index) c.flows-flow-items.ensures c.loop-flow-test.false)
    c.loop-flow.invariant
