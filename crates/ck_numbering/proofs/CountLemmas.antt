-- The limit of points, from counts.
use Rattle.std.proofs.Common.{◌≡◌, inl, inr, refl, sym, ◌∙◌, ap, arith}
use Rattle.std.specs.Prelude.{◌<◌, ◌≤◌, ◌+◌, ◌-◌, ℕ, suc, zero, List, ◌∷◌, [], length, drop}
use Rattle.std.specs.Prelude.{slice_get, slice_index_or}
use Rattle.std.specs.Prelude.{Option, Some, Bool, true, false, if◌then◌else◌}
use Rattle.ck_points.specs.Functions.{points}
use Rattle.ck_points.specs.Graphs.{most_points, passing_from}
use Rattle.ck_prog.specs.TypedBodies.{TypedFunction}
use Rattle.std.proofs.lemmas.Bool.{lt-ltb, le-ltb}
use Rattle.ck_numbering.specs.Counts.{IsCount, AreCounts}

pub as_many : (fs : List TypedFunction) (counts : List ℕ) → AreCounts fs counts → length fs ≡ length counts
as_many [] [] are = refl
as_many [] (n ∷ counts) are = absurd are
as_many (f ∷ fs) [] are = absurd are
as_many (f ∷ fs) (n ∷ counts) are = let rest = as_many fs counts are.1 in omega (arith, rest)

-- the function of a count, and those after it
pub counted : (fs : List TypedFunction) (counts : List ℕ) (k : ℕ) → AreCounts fs counts → k < length counts
    → (f : TypedFunction) × (slice_get fs k ≡ Some f) × (drop k fs ≡ f ∷ drop (suc k) fs)
    × IsCount f (slice_index_or counts k 0)
counted [] [] k are low = absurd (omega arith)
counted [] (n ∷ counts) k are low = absurd are
counted (f ∷ fs) [] k are low = absurd are
counted (f ∷ fs) (n ∷ counts) zero are low = (f, refl, refl, are.0)
counted (f ∷ fs) (n ∷ counts) (suc k) are low = counted fs counts k are.1 (omega arith)

if_true : (b : Bool) (f : TypedFunction) (rest : Option TypedFunction) → b ≡ true
    → (if b then Some f else rest) ≡ Some f
if_true b f rest e = rw e refl

if_false : (b : Bool) (f : TypedFunction) (rest : Option TypedFunction) → b ≡ false
    → (if b then Some f else rest) ≡ rest
if_false b f rest e = rw e refl

many : (f : TypedFunction) (n sum : ℕ) → IsCount f n → most_points - sum < n
    → most_points < sum + length (points f)
many f n sum (inl same) high = omega (arith, same, high)
many f n sum (inr above) high = omega (arith, above.1)

exact : (f : TypedFunction) (n sum : ℕ) → IsCount f n → n ≤ most_points - sum → n ≡ length (points f)
exact f n sum (inl same) low = same
exact f n sum (inr above) low = absurd (omega (arith, above.0, low))

-- a count that is too much
pub passes : (f : TypedFunction) (rest : List TypedFunction) (n sum : ℕ) → IsCount f n → most_points - sum < n
    → passing_from sum (f ∷ rest) ≡ Some f
passes f rest n sum is high =
    if_true _ f _ (lt-ltb most_points (sum + length (points f)) (many f n sum is high))

-- a count with which the limit is kept
pub goes_on : (f : TypedFunction) (rest : List TypedFunction) (n sum : ℕ) → sum ≤ most_points → IsCount f n
    → n ≤ most_points - sum → passing_from sum (f ∷ rest) ≡ passing_from (sum + n) rest
goes_on f rest n sum kept is low =
    let same = exact f n sum is low in
    if_false _ f _ (le-ltb most_points (sum + length (points f)) (omega (arith, kept, low, same)))
    ∙ ap (λ m. passing_from (sum + m) rest) (sym same)
