-- The drafts of the functions of smaller numbers.
use Rattle.std.proofs.Common.{◌≡◌, ℕ, zero, suc, List, [], ◌∷◌, ◌++◌, length, Some, sym, subst}
use Rattle.std.proofs.lemmas.Option.{same_Some}
use Rattle.std.specs.Prelude.{slice_get, Vec}
use Rattle.ck_drafts.specs.Drafts.{AreDraftsOf}
use Rattle.ck_drafts.specs.declared.drafts.Draft.{Draft}
use Rattle.ck_points.specs.Graphs.{Program}
use Rattle.ck_prog.specs.TypedBodies.{TypedFunction}

-- what holds of each element, and of one more
pushed : {X : Type 0} (P : ℕ → X → Type 0) (xs : List X) (y : X) →
    ((i : ℕ) (x : X) → slice_get xs i ≡ Some x → P i x) → P (length xs) y →
    (i : ℕ) (x : X) → slice_get (xs ++ y ∷ []) i ≡ Some x → P i x
pushed P [] y old new zero x e = subst (P zero) (same_Some y x e) new
pushed P [] y old new (suc i) x e = absurd (cc)
pushed P (z ∷ zs) y old new zero x e = old zero x e
pushed P (z ∷ zs) y old new (suc i) x e = pushed (λ j. P (suc j)) zs y (λ j w h. old (suc j) w h) new i x e

module _ (p : Program) where
  -- these are the drafts of the function of this number
  abbrev AreOf : {A : Type 0} → ℕ → Vec Draft A → Type 0
  AreOf i ds = (f : TypedFunction) → slice_get p.functions i ≡ Some f → AreDraftsOf p i f ds.items

  pub record AreSoFar {A : Type 0} (all : List (Vec Draft A)) : Type 0 where
    pub each :
        (i : ℕ) (ds : Vec Draft A) → slice_get all i ≡ Some ds → (f : TypedFunction) →
        slice_get p.functions i ≡ Some f → AreDraftsOf p i f ds.items

  pub none-yet : {A : Type 0} (all : List (Vec Draft A)) → all ≡ [] → AreSoFar all
  none-yet all none =
      subst AreSoFar (sym none) (record { each = λ i ds there. absurd (cc) })

  pub one-more : {A : Type 0} (all : List (Vec Draft A)) (ds : Vec Draft A) → AreSoFar all →
      ((f : TypedFunction) → slice_get p.functions (length all) ≡ Some f → AreDraftsOf p (length all) f ds.items) →
      AreSoFar (all ++ ds ∷ [])
  one-more {A = A} all ds old new =
      record { each = pushed (λ i (es : Vec Draft A). AreOf i es) all ds old.each new }
