-- Counts from weights.
use Rattle.std.proofs.Common.{◌≡◌, ◌<◌, ◌≤◌, ◌+◌, ℕ, zero, suc, List, [], ◌∷◌, ◌++◌, length, take, get_or, inl, inr}
use Rattle.std.proofs.Common.{sym, ap, subst, ◌∙◌, arith}
use Rattle.std.specs.Prelude.{◌⊎◌}
use Rattle.std.proofs.lemmas.Bool.{cases_lt}
use Rattle.std.proofs.lemmas.List.{take_more}
use Rattle.ck_points.specs.Functions.{points}
use Rattle.ck_points.specs.Graphs.{most_points}
use Rattle.ck_prog.specs.TypedBodies.{TypedFunction}
use Rattle.ck_numbering.specs.Counts.{IsCount, AreCounts}
use Rattle.ck_tables.specs.Rows.{IsRow}
use Rattle.ck_counts.specs.BodyPoints.{function_points}
use Rattle.ck_counts.specs.Weights.{Weighs}
use Rattle.ck_counts.proofs.BodyLengths.{length-points}

count-by : (f : TypedFunction) (w : ℕ) → Weighs w (length (points f)) →
    (most_points < length (points f)) ⊎ (length (points f) ≤ most_points) → IsCount f w
count-by f w known (inl above) = inr (omega (arith, known, above), above)
count-by f w known (inr below) = inl (omega (arith, known, below))

is-count : (f : TypedFunction) (w : ℕ) → Weighs w (function_points f) → IsCount f w
is-count f w known =
    count-by f w (subst (Weighs w) (sym (length-points f)) known) (cases_lt most_points (length (points f)))

counts-push : (fs : List TypedFunction) (counts : List ℕ) (f : TypedFunction) (w : ℕ) → AreCounts fs counts →
    IsCount f w → AreCounts (fs ++ (f ∷ [])) (counts ++ (w ∷ []))
counts-push [] [] f w are is = (is, tt)
counts-push [] (n ∷ counts) f w are is = absurd are
counts-push (g ∷ fs) [] f w are is = absurd are
counts-push (g ∷ fs) (n ∷ counts) f w are is = (are.0, counts-push fs counts f w are.1 is)

-- the functions up to this one
pub counts-next : (fs : List TypedFunction) (i : ℕ) (f : TypedFunction) (counts : List ℕ) (w : ℕ) →
    AreCounts (take i fs) counts → IsRow fs i f → Weighs w (function_points f) →
    AreCounts (take (i + 1) fs) (counts ++ (w ∷ []))
counts-next fs i f counts w are row known =
    let more = take_more fs i f row.within ∙ ap (λ g. take i fs ++ (g ∷ [])) (row.is f) in
    subst (λ gs. AreCounts gs (counts ++ (w ∷ []))) (sym more)
    (counts-push (take i fs) counts f w are (is-count f w known))
