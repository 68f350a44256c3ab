use Rattle.std.proofs.Common.{◌≡◌, ◌-◌, length, ap, subst, sym}
use Rattle.std.specs.Prelude.{Some, slice_get}
use Rattle.ck_tables.specs.ExprFacts.{OwnFacts}
use Rattle.ck_tables.specs.ExprTable.{make}
use Rattle.ck_tables.proofs.FactsLemmas.{own_facts_of_postfix, own_facts_of_chain}
use Rattle.ck_tables.proofs.expr_facts.facts_of.Goals as goal

pub returns-in-Some : goal.returns-in-Some
returns-in-Some c =
    let last = subst (λ xs. slice_get xs (length xs - 1) ≡ Some c.in-Some.step.now) c.deref.ensures.value
    (sym c.in-Some.ensures.value) in
    subst (OwnFacts c.args.node.now) (sym c.facts.ensures)
    (own_facts_of_postfix c.args.node.now c.in-Postfix.primary.0 c.in-Some.step.now c.in-Postfix.steps.items
    (λ w f. ap (make w f) c.in-Postfix.is) last)

pub returns-in-Some-last : goal.returns-in-Some-last
returns-in-Some-last c =
    let last = subst (λ xs. slice_get xs (length xs - 1) ≡ Some c.in-Some-last.link.now) c.as_slice.ensures
    (sym c.in-Some-last.ensures.value) in
    own_facts_of_chain c.args.node.now c.in-Chain.first.0 c.in-Some-last.link.now c.in-Chain.links.items
    (λ w f. ap (make w f) c.in-Chain.is) last
