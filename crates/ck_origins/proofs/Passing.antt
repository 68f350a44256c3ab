-- What a call passes to a function: to the holder of each parameter what comes from the argument of its place.
use Rattle.std.proofs.Common.{◌≡◌, ℕ, zero, suc, List, [], ◌∷◌, map, slice_get, Option, Some, None}
use Rattle.std.proofs.Common.{refl, sym, ap, subst, arith, ⊎_elim}
use Rattle.std.specs.List.{Contains}
use Rattle.std.proofs.lemmas.List.Elements.{Contains-append_left, Contains-append_right, Contains-append_cases}
use Rattle.std.proofs.lemmas.Option.{same_Some, none-some}
use Rattle.ck_prog.specs.Declarations.{Entry}
use Rattle.ck_prog.specs.TypedBodies.{TypedFunction}
use Rattle.ck_prog.specs.TypedTrees.{Typed}
use Rattle.ck_slots.specs.Givens.{Given, given, parameters, passed, passed_to, result_of}
use Rattle.ck_slots.specs.Holders.{Holder}
use Rattle.ck_slots.specs.Origins.{Origin, origin}
use Rattle.ck_origins.specs.CalleeRules.{holder_of_result, holder_of_variable}

abbrev pub gift : Holder → Origin → Given
gift h o = record { to = h; from = o }

-- if there is a holder -----------------------------------------------------------------------------------------------

pub given_there : (to : Option Holder) (o : Origin) (h : Holder) → to ≡ Some h → Contains (given to o) (gift h o)
given_there to o h is = subst (λ t. Contains (given t o) (gift h o)) (sym is) (0, omega arith, refl)

pub given_only : (to : Option Holder) (o : Origin) (g : Given) → Contains (given to o) g
    → (to ≡ Some g.to) × (g.from ≡ o)
given_only None o g at = let below = at.1 in absurd (omega arith)
given_only (Some h) o g (zero, below, is) = (ap (λ (x : Given). Some x.to) is, ap (λ (x : Given). x.from) (sym is))
given_only (Some h) o g (suc k, below, is) = absurd (omega arith)

-- place by place -----------------------------------------------------------------------------------------------------

module _ (all : List Entry) where
  pub passed_there : (es : List Entry) (xs : List Typed) (place : ℕ) (h : Holder) (x : Typed)
      → slice_get (map (holder_of_variable all) es) place ≡ Some (Some h) → slice_get xs place ≡ Some x
      → Contains (passed all es xs) (gift h (origin all x))
  passed_there [] xs place h x parameter argument = absurd (none-some (Some h) parameter)
  passed_there (e ∷ es) [] place h x parameter argument = absurd (none-some x argument)
  passed_there (e ∷ es) (y ∷ ys) zero h x parameter argument =
      let to : holder_of_variable all e ≡ Some h = same_Some (holder_of_variable all e) (Some h) parameter in
      let at = Contains-append_left (given (holder_of_variable all e) (origin all y)) (passed all es ys)
      (gift h (origin all y)) (given_there (holder_of_variable all e) (origin all y) h to) in
      subst (λ z. Contains (passed all (e ∷ es) (y ∷ ys)) (gift h (origin all z))) (same_Some y x argument) at
  passed_there (e ∷ es) (y ∷ ys) (suc place) h x parameter argument =
      Contains-append_right (given (holder_of_variable all e) (origin all y)) (passed all es ys) (gift h (origin all x))
      (passed_there es ys place h x parameter argument)

  -- where a parameter and an argument are that something is passed by
  pub record IsPassed (es : List Entry) (xs : List Typed) (g : Given) : Type 0 where
    pub place : ℕ
    pub argument : Typed
    pub to : slice_get (map (holder_of_variable all) es) place ≡ Some (Some g.to)
    pub at : slice_get xs place ≡ Some argument
    pub from : g.from ≡ origin all argument

  pub passed_only : (es : List Entry) (xs : List Typed) (g : Given) → Contains (passed all es xs) g → IsPassed es xs g
  passed_only [] xs g at = let below = at.1 in absurd (omega arith)
  passed_only (e ∷ es) [] g at = let below = at.1 in absurd (omega arith)
  passed_only (e ∷ es) (y ∷ ys) g at =
      ⊎_elim (λ h. first (given_only (holder_of_variable all e) (origin all y) g h))
      (λ h. later (passed_only es ys g h))
      (Contains-append_cases (given (holder_of_variable all e) (origin all y)) (passed all es ys) g at)
    where
      first : (holder_of_variable all e ≡ Some g.to) × (g.from ≡ origin all y) → IsPassed (e ∷ es) (y ∷ ys) g
      first is = record { place = 0; argument = y; to = ap Some is.0; at = refl; from = is.1 }

      later : IsPassed es ys g → IsPassed (e ∷ es) (y ∷ ys) g
      later is =
          record { place = suc is.place; argument = is.argument; to = is.to; at = is.at; from = is.from }

  -- of a function that is there ---------------------------------------------------------------------------------------

  pub passed_to_one : (f : Option TypedFunction) (xs : List Typed) (g : Given) → Contains (passed_to all f xs) g
      → (one : TypedFunction) × (f ≡ Some one) × IsPassed (parameters all one) xs g
  passed_to_one None xs g at = let below = at.1 in absurd (omega arith)
  passed_to_one (Some f) xs g at = (f, refl, passed_only (parameters all f) xs g at)

  pub result_of_one : (f : Option TypedFunction) (h : Holder) → result_of all f ≡ Some h
      → (one : TypedFunction) × (f ≡ Some one) × (holder_of_result all one ≡ Some h)
  result_of_one None h is = absurd (none-some h is)
  result_of_one (Some f) h is = (f, refl, is)
