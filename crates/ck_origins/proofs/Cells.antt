-- What a cell, a kind and a callee say, given what they stand for.
use Rattle.std.proofs.Common.{◌≡◌, ℕ, zero, suc, ◌≤◌, true, List, [], ◌∷◌, length, get_or, slice_get, Option}
use Rattle.std.proofs.Common.{Some, None}
use Rattle.std.proofs.Common.{refl, sym, ap, ◌∙◌, subst, inl, inr, arith}
use Rattle.std.specs.List.{AllZip}
use Rattle.std.proofs.lemmas.Option.{same_Some, none-some, slice_get-get_or, get_or_from_slice_get}
use Rattle.std.proofs.lemmas.Bool.{cases_lt}
use Rattle.ck_prog.specs.Calls.{function_number}
use Rattle.ck_prog.specs.Declarations.{Entry}
use Rattle.ck_prog.specs.TypedBodies.{TypedFunction}
use Rattle.ck_reaching.specs.Rules.{System, IsOfKind}
use Rattle.ck_reaching.specs.declared.rules.CellId.{CellId}
use Rattle.ck_slots.specs.Givens.{TypedProject, functions, has_type, may_be_called}
use Rattle.ck_slots.specs.Holders.{Holder}
use Rattle.ck_slots.specs.Origins.{Origin, Nowhere, Named, Held}
use Rattle.ck_slots.specs.Reaching.{ComesFrom, Reaches, ByName, ByRead, ByFirst, BySecond, ByResult}
use Rattle.ck_origins.specs.CalleeRules.{AreCallable, HasCell}
use Rattle.ck_origins.specs.Meanings.{Meanings, IsEmpty, origin_at, type_at}
use Rattle.ck_origins.proofs.Zips.{zip_left, zip_right}
use Rattle.ck_types.specs.Types.{CType}

-- past the end -------------------------------------------------------------------------------------------------------

pub get_or_past : {X : Type 0} (xs : List X) (i : ℕ) (d : X) → length xs ≤ i → get_or xs i d ≡ d
get_or_past [] i d past = refl
get_or_past (x ∷ xs) zero d past = absurd (omega (arith, past))
get_or_past (x ∷ xs) (suc i) d past = get_or_past xs i d (omega (arith, past))

-- where values come from ---------------------------------------------------------------------------------------------

module _ (p : TypedProject) where
  pub nowhere_empty : IsEmpty p Nowhere
  nowhere_empty f from = by f Nowhere from refl
    where
      by : (f : ℕ) (o : Origin) → ComesFrom p f o → o ≡ Nowhere → ⊥
      by f o (ByName e number) is = absurd (cc)
      by f o (ByRead reaches) is = absurd (cc)
      by f o (ByFirst from) is = absurd (cc)
      by f o (BySecond from) is = absurd (cc)
      by f o (ByResult target holder reaches) is = absurd (cc)

  pub named_number : (f : ℕ) (e : Entry) → ComesFrom p f (Named e) → function_number (functions p) e ≡ Some f
  named_number f e (ByName d number) = number

  pub held_reaches : (f : ℕ) (h : Holder) → ComesFrom p f (Held h) → Reaches p f h
  held_reaches f h (ByRead reaches) = reaches

-- holders with cells -------------------------------------------------------------------------------------------------

pub cell_of_holder : (m : Meanings) (to : Option Holder) (c : Option CellId) (h : Holder) → HasCell m to c
    → to ≡ Some h → (cell : CellId) × (c ≡ Some cell) × (origin_at m cell.0 ≡ Held h)
cell_of_holder m None c h has is = absurd (none-some h is)
cell_of_holder m (Some g) None h has is = absurd has
cell_of_holder m (Some g) (Some cell) h has is = (cell, refl, has ∙ ap Held (same_Some g h is))

pub holder_of_cell : (m : Meanings) (to : Option Holder) (c : Option CellId) (cell : CellId) → HasCell m to c
    → c ≡ Some cell → (h : Holder) × (to ≡ Some h) × (origin_at m cell.0 ≡ Held h)
holder_of_cell m to None cell has is = absurd (none-some cell is)
holder_of_cell m None (Some c) cell has is = absurd has
holder_of_cell m (Some h) (Some c) cell has is =
    (h, refl, ap (λ (x : CellId). origin_at m x.0) (sym (same_Some c cell is)) ∙ has)

-- kinds --------------------------------------------------------------------------------------------------------------

untyped : (p : TypedProject) (f : Option TypedFunction) → has_type p None f ≡ true → ⊥
untyped p None is = absurd (cc)
untyped p (Some f) is = absurd (cc)

pub needs_type : (p : TypedProject) (type : Option CType) (f : ℕ) → may_be_called p type f ≡ true → type ≡ None → ⊥
needs_type p type f is none =
    untyped p (slice_get (functions p) f) (subst (λ t. may_be_called p t f ≡ true) none is)

module _ (p : TypedProject) (m : Meanings) (s : System) (kinds : AllZip (AreCallable p) m.kinds s.kinds) where
  pub kind_callable : (kind f : ℕ) → IsOfKind s kind f → may_be_called p (type_at m kind) f ≡ true
  kind_callable kind f is =
      let at = zip_left (AreCallable p) m.kinds s.kinds kinds kind is.functions is.there in
      subst (λ t. may_be_called p t f ≡ true) (sym (get_or_from_slice_get m.kinds kind at.0 None at.1))
      ((at.2 f).0 is.has)

  pub callable_kind : (kind f : ℕ) → may_be_called p (type_at m kind) f ≡ true → IsOfKind s kind f
  callable_kind kind f is = elim (cases_lt kind (length m.kinds)) [
    | inl below ↦
        let type : Option CType = type_at m kind in
        let at = zip_right (AreCallable p) m.kinds s.kinds kinds kind type
        (slice_get-get_or m.kinds kind None below) in
        record { functions = at.0; there = at.1; has = (at.2 f).1 is }
    | inr past ↦ absurd (needs_type p (type_at m kind) f is (get_or_past m.kinds kind None past))
  ]
