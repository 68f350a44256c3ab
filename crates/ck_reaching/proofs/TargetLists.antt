-- The targets of a call, as they are listed.
use Rattle.std.proofs.Common.{◌≡◌, ◌↔◌, ℕ, ◌+◌, ◌<◌, ◌≤◌, List, [], ◌∷◌, ◌++◌, get_or, sym, ap, ◌∙◌}
use Rattle.std.proofs.Common.{subst, inl, inr, arith}
use Rattle.std.specs.List.{AllPairs, Contains}
use Rattle.std.proofs.lemmas.Bool.{cases_eq, cases_lt}
use Rattle.std.proofs.lemmas.List.Elements.{Contains-get_or, Contains-push, Contains-push_cases, Contains-append_left}
use Rattle.std.proofs.lemmas.List.Quantifiers.{all_pairs_push}
use Rattle.ck_base.specs.declared.spans.FnId.{FnId}
use Rattle.ck_reaching.specs.declared.rules.Call.{Call}
use Rattle.ck_reaching.specs.Rules.{System, IsInRange, IsOfKind, function_count}
use Rattle.ck_reaching.specs.Reaching.{Reaches, IsTarget, Reached}
use Rattle.ck_reaching.specs.Reached.{AreTargets}
use Rattle.ck_reaching.proofs.RuleLemmas.{reaches-below}

pub reaches-target : (s : System) (call : Call) (f : ℕ) → IsTarget s call f → Reaches s call.called.0 f
reaches-target s call f (Reached kind r) = r

pub kind-target : (s : System) (call : Call) (f : ℕ) → IsTarget s call f → IsOfKind s call.kind.0 f
kind-target s call f (Reached kind r) = kind

-- the targets below n
pub record AreTargetsBelow (s : System) (call : Call) (n : ℕ) (targets : List FnId) : Type 0 where
  pub ordered : AllPairs (λ f g. f.0 < g.0) targets
  pub exactly : (f : FnId) → Contains targets f ↔ ((f.0 < n) × IsTarget s call f.0)

one : (f : FnId) (n : ℕ) → f.0 ≡ n → (g : FnId) → g.0 ≡ n → g ≡ f
one f n is g same = ap (λ k. let x : FnId = record { 0 = k } in x) (same ∙ sym is)

pub targets-more : (s : System) (call : Call) (n : ℕ) (f : FnId) (old new : List FnId) → f.0 ≡ n →
    new ≡ old ++ f ∷ [] → IsTarget s call f.0 → AreTargetsBelow s call n old → AreTargetsBelow s call (n + 1) new
targets-more s call n f old new is pushed target before = record {
  ordered = subst (AllPairs (λ f g. f.0 < g.0)) (sym pushed)
      (all_pairs_push (λ f g. f.0 < g.0) old f before.ordered
      (λ k d below. let there = (before.exactly (get_or old k d)).0 (Contains-get_or old k d below) in
      omega (arith, there.0, is)));
  exactly = λ g. (
    λ there. elim (Contains-push_cases old f g (subst (λ xs. Contains xs g) pushed there)) [
      | inl o ↦ let w = (before.exactly g).0 o in (omega (arith, w.0), w.1)
      | inr e ↦ subst (λ (x : FnId). (x.0 < n + 1) × IsTarget s call x.0) e (omega (arith, is), target)
    ],
    λ w. subst (λ xs. Contains xs g) (sym pushed) (elim (cases_eq g.0 n) [
      | inl e ↦ subst (Contains (old ++ f ∷ [])) (sym (one f n is g e)) (Contains-push old f)
      | inr ne ↦ Contains-append_left old (f ∷ []) g ((before.exactly g).1 (omega (arith, w.0, ne), w.1))
    ]),
  );
}

-- no target from a number on and before another
pub targets-gap : (s : System) (call : Call) (n m : ℕ) (targets : List FnId) → n ≤ m →
    ((f : ℕ) → n ≤ f → f < m → IsTarget s call f → ⊥) → AreTargetsBelow s call n targets →
    AreTargetsBelow s call m targets
targets-gap s call n m targets up other before = record {
  ordered = before.ordered;
  exactly = λ f. (
    λ there. let w = (before.exactly f).0 there in (omega (arith, w.0, up), w.1),
    λ w. elim (cases_lt f.0 n) [
      | inl lt ↦ (before.exactly f).1 (lt, w.1)
      | inr past ↦ absurd (other f.0 past w.0 w.1)
    ],
  );
}

pub targets-from_all : (s : System) (call : Call) (n : ℕ) (targets : List FnId) → IsInRange s →
    function_count s ≤ n → AreTargetsBelow s call n targets → AreTargets s call targets
targets-from_all s call n targets inside all is = record {
  ordered = is.ordered;
  exactly = λ f. (
    λ there. ((is.exactly f).0 there).1,
    λ target. (is.exactly f).1 (
      omega (arith, all, reaches-below s inside call.called.0 f.0 (reaches-target s call f.0 target)),
      target,
    ),
  );
}
