-- Meanings with one more, and rules with one more.
use Rattle.std.proofs.Common.{◌≡◌, ℕ, zero, suc, ◌<◌, ◌≤◌, ◌⊎◌, List, [], ◌∷◌, ◌++◌, length, get_or, Option, Some, None}
use Rattle.std.proofs.Common.{refl, sym, ◌∙◌, subst, inl, inr, ⊎_elim, arith}
use Rattle.std.specs.List.{Contains}
use Rattle.std.proofs.lemmas.Bool.{cases_lt}
use Rattle.std.proofs.lemmas.List.Elements.{All-contains, Contains-append_left}
use Rattle.ck_reaching.specs.Rules.{System, IsInRange, IsNameWithin, IsFlowWithin, IsCallWithin, IsCellBelow}
use Rattle.ck_reaching.specs.Rules.{function_count}
use Rattle.ck_reaching.specs.declared.rules.Call.{Call}
use Rattle.ck_reaching.specs.declared.rules.CellId.{CellId}
use Rattle.ck_reaching.specs.declared.rules.Flows.{Flows}
use Rattle.ck_reaching.specs.declared.rules.Names.{Names}
use Rattle.ck_rows.specs.declared.rows.Rows.{Rows}
use Rattle.ck_slots.specs.Holders.{Holder}
use Rattle.ck_slots.specs.Origins.{Origin, Nowhere, Held}
use Rattle.ck_origins.specs.Meanings.{IsNoHolder, Meanings, origin_at}
use Rattle.ck_origins.specs.Steps.{Grow, with_call, with_cell, with_flow, with_kind, with_name, with_origin}
use Rattle.ck_origins.specs.Steps.{with_type}
use Rattle.ck_origins.proofs.Cells.{get_or_past}
use Rattle.ck_origins.proofs.Keeping.{Keeps}
use Rattle.ck_types.specs.Types.{CType}

-- lists --------------------------------------------------------------------------------------------------------------

pub get_or_left : {X : Type 0} (xs ys : List X) (i : ℕ) (d : X) → i < length xs → get_or (xs ++ ys) i d ≡ get_or xs i d
get_or_left [] ys i d below = absurd (omega arith)
get_or_left (x ∷ xs) ys zero d below = refl
get_or_left (x ∷ xs) ys (suc i) d below = get_or_left xs ys i d (omega (arith, below))

-- an element that isn't of the list before is the new one, or none
get_or_push : {X : Type 0} (xs : List X) (x : X) (i : ℕ) (d : X) → length xs ≤ i
    → (get_or (xs ++ (x ∷ [])) i d ≡ x) ⊎ (get_or (xs ++ (x ∷ [])) i d ≡ d)
get_or_push [] x zero d past = inl refl
get_or_push [] x (suc i) d past = inr refl
get_or_push (y ∷ xs) x zero d past = absurd (omega (arith, past))
get_or_push (y ∷ xs) x (suc i) d past = get_or_push xs x i d (omega (arith, past))

-- meanings -----------------------------------------------------------------------------------------------------------

not_nowhere : (o : Origin) (h : Holder) → o ≡ Nowhere → o ≡ Held h → ⊥
not_nowhere o h none held = absurd (cc)

-- a cell of a holder is there
pub held_within : (m : Meanings) (c : ℕ) (h : Holder) → origin_at m c ≡ Held h → c < length m.cells
held_within m c h is = elim (cases_lt c (length m.cells)) [
  | inl below ↦ below
  | inr past ↦ absurd (not_nowhere (origin_at m c) h (get_or_past m.cells c Nowhere past) is)
]

pub held_still : (m : Meanings) (o : Origin) (c : ℕ) (h : Holder) → origin_at m c ≡ Held h
    → origin_at (with_origin m o) c ≡ Held h
held_still m o c h is = get_or_left m.cells (o ∷ []) c Nowhere (held_within m c h is) ∙ is

held_before : (m : Meanings) (o : Origin) → IsNoHolder o → (c : ℕ) (h : Holder)
    → origin_at (with_origin m o) c ≡ Held h → origin_at m c ≡ Held h
held_before m o other c h is = elim (cases_lt c (length m.cells)) [
  | inl below ↦ sym (get_or_left m.cells (o ∷ []) c Nowhere below) ∙ is
  | inr past ↦ absurd (⊎_elim (λ new. other h (sym new ∙ is))
      (λ none. not_nowhere (origin_at (with_origin m o) c) h none is) (get_or_push m.cells o c Nowhere past))
]

-- rules in range keep their meanings ----------------------------------------------------------------------------------

module _ (m : Meanings) (s : System) (inside : IsInRange s) where
  name_within : (name : Names) → Contains s.names name → IsNameWithin s.cells (function_count s) name
  name_within name there = All-contains (IsNameWithin s.cells (function_count s)) s.names name inside.names there

  flow_within : (w : Flows) → Contains s.flows w → IsFlowWithin s.cells w
  flow_within w there = All-contains (IsFlowWithin s.cells) s.flows w inside.flows there

  call_within : (call : Call) → Contains s.calls call → IsCallWithin s call
  call_within call there = All-contains (IsCallWithin s) s.calls call inside.calls there

  argument_within : (call : Call) → Contains s.calls call → (cell : CellId) → Contains call.arguments.items (Some cell)
      → cell.0 < s.cells
  argument_within call there cell at =
      All-contains (IsCellBelow s.cells) call.arguments.items (Some cell) (call_within call there).arguments at cell
      refl

  pub keeps_origin : (o : Origin) → IsNoHolder o → s.cells ≡ length m.cells → Keeps m (with_origin m o) s
  keeps_origin o other count =
      let same : (c : ℕ) → c < s.cells → origin_at (with_origin m o) c ≡ origin_at m c =
      λ c below. get_or_left m.cells (o ∷ []) c Nowhere (subst (λ k. c < k) count below) in
      record {
        named = λ name there. same name.to.0 (name_within name there).to;
        from = λ w there. same w.from.0 (flow_within w there).from;
        to = λ w there. same w.to.0 (flow_within w there).to;
        called = λ call there. same call.called.0 (call_within call there).called;
        kind = λ call there. refl;
        arguments = λ call there cell at. same cell.0 (argument_within call there cell at);
        outcome = λ call there cell at. same cell.0 ((call_within call there).outcome cell at);
        held = held_still m o;
        held_before = held_before m o other;
      }

  pub keeps_type : (type : Option CType) → length s.kinds ≡ length m.kinds → Keeps m (with_type m type) s
  keeps_type type count = record {
    named = λ name there. refl;
    from = λ w there. refl;
    to = λ w there. refl;
    called = λ call there. refl;
    kind = λ call there. get_or_left m.kinds (type ∷ []) call.kind.0 None
        (subst (λ k. call.kind.0 < k) count (call_within call there).kind);
    arguments = λ call there cell at. refl;
    outcome = λ call there cell at. refl;
    held = λ c h is. is;
    held_before = λ c h is. is;
  }

-- rules with one more -------------------------------------------------------------------------------------------------

pub grow_name : (s : System) (name : Names) → Grow s (with_name s name)
grow_name s name = record {
  names = λ x there. Contains-append_left s.names (name ∷ []) x there;
  flows = λ x there. there;
  calls = λ x there. there;
}

pub grow_flow : (s : System) (flow : Flows) → Grow s (with_flow s flow)
grow_flow s flow = record {
  names = λ x there. there;
  flows = λ x there. Contains-append_left s.flows (flow ∷ []) x there;
  calls = λ x there. there;
}

pub grow_call : (s : System) (call : Call) → Grow s (with_call s call)
grow_call s call = record {
  names = λ x there. there;
  flows = λ x there. there;
  calls = λ x there. Contains-append_left s.calls (call ∷ []) x there;
}

pub grow_cell : (s : System) → Grow s (with_cell s)
grow_cell s = record { names = λ x there. there; flows = λ x there. there; calls = λ x there. there }

pub grow_kind : (s : System) (functions : List Rows) → Grow s (with_kind s functions)
grow_kind s functions = record { names = λ x there. there; flows = λ x there. there; calls = λ x there. there }
