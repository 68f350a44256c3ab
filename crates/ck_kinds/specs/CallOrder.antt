-- The order of a project's calls that are no acts: by function, and then by path, a path before those that begin with
-- it. Where a place comes in this order.
use Rattle.std.specs.Prelude.{◌≡◌, ℕ, zero, suc, Bool, false, List, [], ◌∷◌}
use Rattle.std.specs.Cmp.Lexicographic.{slice_cmp}
use Rattle.std.specs.List.{AllByRecursion}
use Rattle.std.specs.Ordering.{nat_cmp, ordering_then, is_lt, is_eq}
use Rattle.std.specs.declared.cmp.Ordering.{Ordering}
use Rattle.std.specs.declared.cmp.Ordering.TheVariants.{Less, Greater}
use Rattle.ck_prog.specs.Paths.{Path}
use Rattle.ck_call_rows.specs.TypedRows.{CallPlace}

abbrev pub call_place : ℕ → Path → CallPlace
call_place i π = record { function = i; path = π }

-- how a place is ordered against another
abbrev pub against : CallPlace → CallPlace → Ordering
against at a = ordering_then (nat_cmp a.function at.function) (slice_cmp nat_cmp a.path at.path)

-- all of these are ordered so
abbrev pub AllAre : {X : Type 0} → Ordering → (X → Ordering) → List X → Type 0
AllAre order compare xs = AllByRecursion (λ x. compare x ≡ order) xs

-- so many are less, and all others are greater, but that the next one may be equal: whether it is
abbrev pub IsRank : {X : Type 0} → (X → Ordering) → List X → ℕ → Bool → Type 0
IsRank compare [] number found = (number ≡ 0) × (found ≡ false)
IsRank compare (x ∷ xs) zero found =
    (is_lt (compare x) ≡ false) × (found ≡ is_eq (compare x)) × AllAre Greater compare xs
IsRank compare (x ∷ xs) (suc number) found = (compare x ≡ Less) × IsRank compare xs number found
