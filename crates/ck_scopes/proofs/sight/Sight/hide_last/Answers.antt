use Rattle.std.proofs.Common.{ap, set, subst, sym, ◌∙◌}
use Rattle.std.specs.Prelude.{reverse}
use Rattle.ck_scopes.specs.Indexed.{IsIndexed}
use Rattle.ck_scopes.proofs.IndexedLemmas.{popped_indexed}
use Rattle.ck_scopes.proofs.sight.Sight.hide_last.Goals as goal

pub invariant_of-self : goal.invariant_of-self
invariant_of-self c =
    let heads = c.self.inside.heads in
    let last = c.in-Some.last in
    subst (IsIndexed (reverse c.pop.new.self.items))
    (sym (c.put.ensures ∙ ap (λ place. set heads place last.hides) c.slot.ensures))
    (popped_indexed c.pop.new.self.items c.self.inside.shown.items heads last c.self.invariant c.in-Some.ensures.items)
