-- The indices of flows and calls, as they are filled.
use Rattle.std.proofs.Common.{◌≡◌, ℕ, ◌+◌, ◌<◌, ◌≤◌, List, Some, length, slice_get, ◌∙◌, inl, inr, arith, sym}
use Rattle.std.proofs.Common.{ap}
use Rattle.std.specs.List.{Contains}
use Rattle.std.proofs.lemmas.Bool.{cases_lt}
use Rattle.std.proofs.lemmas.Option.{slice_get_within, slice_get-get_or}
use Rattle.ck_reaching.specs.declared.rules.Flows.{Flows}
use Rattle.ck_reaching.specs.declared.rules.Call.{Call}
use Rattle.ck_reaching.specs.Rules.{System}
use Rattle.ck_reaching.specs.Indices.{numbers_at, AddsNumber}
use Rattle.ck_reaching.specs.Work.{HasEdge}
use Rattle.ck_reaching.specs.Solving.{AreFlows, AreCalls, IsCallAt}
use Rattle.ck_reaching.proofs.WorkLemmas.{contains-at}

-- the first n flows
pub record AreFlowsBelow (s : System) (n : ℕ) (edges : List (List ℕ)) : Type 0 where
  pub size : length edges ≡ s.cells
  pub all : (k : ℕ) (w : Flows) → k < n → slice_get s.flows k ≡ Some w → HasEdge edges w.from.0 w.to.0
  pub only : (from to : ℕ) → HasEdge edges from to →
      (w : Flows) × Contains s.flows w × (w.from.0 ≡ from) × (w.to.0 ≡ to)

pub flows-none : (s : System) (edges : List (List ℕ)) → length edges ≡ s.cells →
    ((from to : ℕ) → HasEdge edges from to → ⊥) → AreFlowsBelow s 0 edges
flows-none s edges size none = record {
  size = size;
  all = λ k w below. absurd (omega arith);
  only = λ from to e. absurd (none from to e);
}

pub flows-more : (s : System) (n : ℕ) (w : Flows) (old new : List (List ℕ)) → slice_get s.flows n ≡ Some w →
    AddsNumber w.from.0 w.to.0 old new → AreFlowsBelow s n old → AreFlowsBelow s (n + 1) new
flows-more s n w old new at adds before = record {
  size = adds.size ∙ before.size;
  all = λ k v below is. (adds.exactly v.from.0 v.to.0).1 (elim (cases_lt k n) [
    | inl lt ↦ inl (before.all k v lt is)
    | inr past ↦
        let e : k ≡ n = omega (arith, past, below) in
        let read : Some v ≡ Some w = sym is ∙ (ap (slice_get s.flows) e ∙ at) in
        let same : v ≡ w = cc in
        inr (ap (λ (x : Flows). x.from.0) same, ap (λ (x : Flows). x.to.0) same)
  ]);
  only = λ from to e. elim ((adds.exactly from to).0 e) [
    | inl o ↦ before.only from to o
    | inr x ↦ (w, contains-at s.flows n w at, sym x.0, sym x.1)
  ];
}

pub flows-from_all : (s : System) (n : ℕ) (edges : List (List ℕ)) → length s.flows ≤ n → AreFlowsBelow s n edges →
    AreFlows s edges
flows-from_all s n edges all is = record {
  size = is.size;
  all = λ w there. is.all there.0 w (omega (arith, all, there.1))
      (slice_get-get_or s.flows there.0 w there.1 ∙ ap Some there.2);
  only = is.only;
}

-- the first n calls
pub record AreCallsBelow (s : System) (n : ℕ) (calls : List (List ℕ)) : Type 0 where
  pub size : length calls ≡ s.cells
  pub all : (cell number : ℕ) → number < n → IsCallAt s cell number → Contains (numbers_at calls cell) number
  pub only : (cell number : ℕ) → Contains (numbers_at calls cell) number → IsCallAt s cell number

pub calls-none : (s : System) (calls : List (List ℕ)) → length calls ≡ s.cells →
    ((cell number : ℕ) → Contains (numbers_at calls cell) number → ⊥) → AreCallsBelow s 0 calls
calls-none s calls size none = record {
  size = size;
  all = λ cell number below. absurd (omega arith);
  only = λ cell number e. absurd (none cell number e);
}

pub calls-more : (s : System) (n : ℕ) (call : Call) (old new : List (List ℕ)) → slice_get s.calls n ≡ Some call →
    AddsNumber call.called.0 n old new → AreCallsBelow s n old → AreCallsBelow s (n + 1) new
calls-more s n call old new at adds before = record {
  size = adds.size ∙ before.size;
  all = λ cell number below is. (adds.exactly cell number).1 (elim (cases_lt number n) [
    | inl lt ↦ inl (before.all cell number lt is)
    | inr past ↦
        let e : number ≡ n = omega (arith, past, below) in
        let read : Some is.0 ≡ Some call = sym is.1 ∙ (ap (slice_get s.calls) e ∙ at) in
        let same : is.0 ≡ call = cc in
        inr (sym is.2 ∙ ap (λ (x : Call). x.called.0) same, e)
  ]);
  only = λ cell number e. elim ((adds.exactly cell number).0 e) [
    | inl o ↦ before.only cell number o
    | inr x ↦ (call, ap (slice_get s.calls) x.1 ∙ at, sym x.0)
  ];
}

pub calls-from_all : (s : System) (n : ℕ) (calls : List (List ℕ)) → length s.calls ≤ n → AreCallsBelow s n calls →
    AreCalls s calls
calls-from_all s n calls all is = record {
  size = is.size;
  all = λ cell number at. is.all cell number (omega (arith, all, slice_get_within s.calls number at.0 at.1)) at;
  only = is.only;
}
