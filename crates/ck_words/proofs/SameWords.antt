-- Two lists of words, place by place.
use Rattle.std.proofs.Common.{◌≡◌, ◌<◌, ◌≢◌, ℕ, zero, suc, Bool, true, false, List, [], ◌∷◌}
use Rattle.std.proofs.Common.{map, length, refl, ap₂, arith}
use Rattle.std.specs.Prelude.{IsTrue}
use Rattle.std.specs.Bool.{MatchBool}
use Rattle.std.specs.List.{AllWithin, HoldsAt, zip}

module _ {S T A : Type 0} (f : S → A) (g : T → A) where
  abbrev pub AreSame : S × T → Type 0
  AreSame p = f p.0 ≡ g p.1

  abbrev pub Differ : S × T → Type 0
  Differ p = f p.0 ≢ g p.1

  map-AllWithin : (xs : List S) (ys : List T) → length xs ≡ length ys
      → AllWithin AreSame (zip xs ys) 0 (length (zip xs ys)) → map f xs ≡ map g ys
  map-AllWithin [] [] size same = refl
  map-AllWithin [] (y ∷ ys) size same = absurd (omega (arith, size))
  map-AllWithin (x ∷ xs) [] size same = absurd (omega (arith, size))
  map-AllWithin (x ∷ xs) (y ∷ ys) size same =
      ap₂ (λ a rest. a ∷ rest) (same 0 (x, y) (omega arith) (omega arith))
      (map-AllWithin xs ys (omega (arith, size)) (λ k d low high. same (suc k) d (omega arith) (omega arith)))

  HoldsAt-map : (xs : List S) (ys : List T) (k : ℕ) → k < length (zip xs ys) → HoldsAt Differ (zip xs ys) k
      → map f xs ≡ map g ys → ⊥
  HoldsAt-map [] ys k below differ same = absurd (omega arith)
  HoldsAt-map (x ∷ xs) [] k below differ same = absurd (omega arith)
  HoldsAt-map (x ∷ xs) (y ∷ ys) zero below differ same = differ (x, y) cc
  HoldsAt-map (x ∷ xs) (y ∷ ys) (suc k) below differ same =
      HoldsAt-map xs ys k (omega arith) (λ d. differ d) cc

  -- a look at every place tells whether the lists are the same
  pub same_by_places : (xs : List S) (ys : List T) (r : Bool) → length xs ≡ length ys
      → MatchBool r (AllWithin AreSame (zip xs ys) 0 (length (zip xs ys)))
      ((k : ℕ) × (k < length (zip xs ys)) × HoldsAt Differ (zip xs ys) k)
      → (IsTrue r → map f xs ≡ map g ys) × (map f xs ≡ map g ys → IsTrue r)
  same_by_places xs ys true size places = (λ _. map-AllWithin xs ys size places, λ _. refl)
  same_by_places xs ys false size places =
      (λ yes. absurd cc, λ same. absurd (HoldsAt-map xs ys places.0 places.1 places.2 same))
