-- How many points and functions there are, against the limit.
use Rattle.std.proofs.Common.{◌≡◌, refl, ap, arith}
use Rattle.std.specs.Prelude.{◌≤◌, ◌+◌, ℕ, suc, Bool, true, false, List, ◌∷◌, [], ◌++◌, length}
use Rattle.std.specs.Prelude.{nat_lt}
use Rattle.std.specs.Prelude.{slice_get, Option, Some, None, if◌then◌else◌}
use Rattle.std.specs.List.{sum_by}
use Rattle.std.proofs.lemmas.Bool.{ltb-false}
use Rattle.std.proofs.lemmas.List.Sorted.{length_permutation}
use Rattle.std.proofs.lemmas.List.Sums.{sum_by-append, sum_by-cons}
use Rattle.ck_drafts.specs.Drafts.{PlainDraft}
use Rattle.ck_graph.specs.Flow.{Flow, point_count, function_count}
use Rattle.ck_points.specs.Functions.{points}
use Rattle.ck_points.specs.Graphs.{most_points, passing_from}
use Rattle.ck_prog.specs.TypedBodies.{TypedFunction}
use Rattle.ck_numbering.specs.Numbered.{IsBuilt, None_yet, Added}
use Rattle.ck_numbering.proofs.FunctionPoints.{made-length}
use Rattle.ck_numbering.proofs.LongerGraphs.{point_count-longer, function_count-longer}

-- graphs that are built ----------------------------------------------------------------------------------------------

pub point_count-built : (all : List (List PlainDraft)) (flow : Flow) → IsBuilt all flow
    → (point_count flow ≡ sum_by length all) × (function_count flow ≤ point_count flow)
point_count-built all flow (None_yet f no_points no_functions) =
    let none = ap length no_points in let no_function = ap length no_functions in
    (none, omega (arith, none, no_function))
point_count-built all flow (Added earlier ds old new built adds) =
    let before = point_count-built earlier old built in
    let more = point_count-longer old new adds.made adds.points in
    let one_more = function_count-longer old new adds.made adds.points adds.ends adds.functions in
    let made = made-length ds old new adds in
    let sorted = length_permutation ds adds.sorted adds.same in
    let some = adds.entered.at_index.there in
    let sum : sum_by length (earlier ++ ds ∷ []) ≡ sum_by length earlier + length ds =
    omega (arith, sum_by-append length earlier (ds ∷ [])) in
    (omega (arith, before.0, more, made, sorted, sum), omega (arith, before.1, more, one_more, made, some))

-- the limit ----------------------------------------------------------------------------------------------------------

pub kept_on : (b : Bool) (f : TypedFunction) (rest : Option TypedFunction) → (if b then Some f else rest) ≡ None
    → (b ≡ false) × (rest ≡ None)
kept_on true f rest e = absurd (cc)
kept_on false f rest e = (refl, e)

pub kept_sum : (sum : ℕ) (fs : List TypedFunction) → sum ≤ most_points → passing_from sum fs ≡ None
    → sum + sum_by (λ f. length (points f)) fs ≤ most_points
kept_sum sum [] low kept = omega (arith, low)
kept_sum sum (f ∷ fs) low kept =
    let more = sum + length (points f) in
    let on = kept_on (nat_lt most_points more) f (passing_from more fs) kept in
    let within : more ≤ most_points = ltb-false most_points more on.0 in
    let rest = kept_sum more fs within on.1 in
    omega (arith, rest, sum_by-cons (λ g. length (points g)) f fs)

pub same_sums : (fs : List TypedFunction) (all : List (List PlainDraft)) → length all ≡ length fs
    → ((i : ℕ) (f : TypedFunction) (ds : List PlainDraft) → slice_get fs i ≡ Some f
    → slice_get all i ≡ Some ds
    → length ds ≡ length (points f))
    → sum_by length all ≡ sum_by (λ f. length (points f)) fs
same_sums [] [] long each = refl
same_sums [] (ds ∷ all) long each = absurd (omega (arith, long))
same_sums (f ∷ fs) [] long each = absurd (omega (arith, long))
same_sums (f ∷ fs) (ds ∷ all) long each =
    let here = each 0 f ds refl refl in
    let rest = same_sums fs all (omega (arith, long)) (λ i g es is there. each (suc i) g es is there) in
    omega (arith, here, rest, sum_by-cons length ds all, sum_by-cons (λ g. length (points g)) f fs)

-- the sum of those that are done and of the next
pub sum_at : (before : List (List PlainDraft)) (ds : List PlainDraft) (after : List (List PlainDraft))
    → sum_by length before + length ds ≤ sum_by length (before ++ ds ∷ after)
sum_at before ds after =
    omega (arith, sum_by-append length before (ds ∷ after), sum_by-cons length ds after)
