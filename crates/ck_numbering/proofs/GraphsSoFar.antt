-- A graph of the first functions of a program, and one function more.
use Rattle.std.proofs.Common.{◌≡◌, inl, inr, sym, ◌∙◌, ap, subst, arith}
use Rattle.std.specs.Prelude.{◌<◌, ◌≤◌, ◌+◌, ◌⊎◌, ℕ, List, ◌∷◌, [], ◌++◌, length, map}
use Rattle.std.specs.Prelude.{Contains, AllPairs}
use Rattle.std.specs.Prelude.{slice_get, slice_index_or, Some}
use Rattle.std.specs.List.Sorted.{IsPermutation}
use Rattle.std.proofs.lemmas.List.{length-append}
use Rattle.std.proofs.lemmas.List.Elements.{Contains-get_or, Contains-append_cases}
use Rattle.ck_drafts.specs.Drafts.{PlainDraft, point_drafted}
use Rattle.ck_graph.specs.Flow as graph
use Rattle.ck_graph.specs.Flow.{Flow, point_count, function_count, function_at}
use Rattle.ck_points.specs.Functions.{points, entry, exit}
use Rattle.ck_points.specs.Graphs.{Program, IsSomePoint, HasPointAt, ComesBefore, ByFunction, HasEnds}
use Rattle.ck_points.specs.Places.{Point}
use Rattle.ck_prog.specs.TypedBodies.{TypedFunction}
use Rattle.ck_numbering.specs.Numbered.{AddsFunction, IsBuilt, None_yet, Added}
use Rattle.ck_numbering.proofs.FunctionPoints.{number_there, number_is_at, own_points, all_there, made_in_order}
use Rattle.ck_numbering.proofs.FunctionPoints.{made_of_function}
use Rattle.ck_numbering.proofs.ListLemmas.{AllPairs-append, slice_get-below, slice_get-append}
use Rattle.ck_numbering.proofs.ListLemmas.{slice_get-middle}
use Rattle.ck_numbering.proofs.LongerGraphs.{some_point_still, has_point_still, ends_still, function_count-longer}
use Rattle.ck_numbering.proofs.LongerGraphs.{function_at-new}

-- all that a graph has, of the functions that it has
pub record IsGraphSoFar (p : Program) (flow : Flow) : Type 0 where
  pub ordered : AllPairs ComesBefore flow.points
  pub below : (m : graph.Point) → Contains flow.points m → m.function.0 < function_count flow
  pub own : (m : graph.Point) → Contains flow.points m → IsSomePoint p flow m
  pub whole :
      (i : ℕ) (f : TypedFunction) → i < function_count flow → slice_get p.functions i ≡ Some f →
      (d : Point) → Contains (points f) d → HasPointAt flow i d.place
  pub ends : (i : ℕ) → i < function_count flow → HasEnds flow i

-- one function more --------------------------------------------------------------------------------------------------

last_or_before : (i n : ℕ) → i < n + 1 → (i < n) ⊎ (i ≡ n)
last_or_before i n low = grind arith

module _ (p : Program) (f : TypedFunction) (ds : List PlainDraft) (old new : Flow) (adds : AddsFunction ds old new)
    (numbered : slice_get p.functions (function_count old) ≡ Some f)
    (drafted : IsPermutation (map (point_drafted p (function_count old) f) (points f)) ds) (before : IsGraphSoFar p old)
  where
    count : function_count new ≡ function_count old + 1
    count = function_count-longer old new adds.made adds.points adds.ends adds.functions

    across : (i j : ℕ) (d : graph.Point) → i < length old.points → j < length adds.made
        → ComesBefore (slice_index_or old.points i d) (slice_index_or adds.made j d)
    across i j d low high =
        let less = before.below (slice_index_or old.points i d) (Contains-get_or old.points i d low) in
        let is = made_of_function ds old new adds j d high in ByFunction (omega (arith, less, is))

    ordered_still : AllPairs ComesBefore new.points
    ordered_still =
        subst (λ ps. AllPairs ComesBefore ps) (sym adds.points)
        (AllPairs-append ComesBefore old.points adds.made before.ordered (made_in_order ds old new adds) across)

    -- a point is an old one or one of the function's
    each_point : (P : graph.Point → Type 0) → ((m : graph.Point) → Contains old.points m → P m)
        → ((m : graph.Point) → Contains adds.made m → P m) → (m : graph.Point) → Contains new.points m → P m
    each_point P left right m listed =
        elim (Contains-append_cases old.points adds.made m (subst (λ ps. Contains ps m) adds.points listed)) [
          | inl there ↦ left m there
          | inr there ↦ right m there
        ]

    of_function : (m : graph.Point) → Contains adds.made m → m.function.0 < function_count new
    of_function m (k, low, is) =
        let at = made_of_function ds old new adds k m low in
        let same : m.function.0 ≡ function_count old = subst (λ x. x.function.0 ≡ function_count old) is at in
        omega (arith, same, count)

    whole_still : (i : ℕ) (g : TypedFunction) → i < function_count new → slice_get p.functions i ≡ Some g
        → (d : Point) → Contains (points g) d → HasPointAt new i d.place
    whole_still i g low is d listed =
        elim (last_or_before i (function_count old) (omega (arith, low, count))) [
          | inl earlier ↦
              has_point_still old new adds.made adds.points i d.place (before.whole i g earlier is d listed)
          | inr last ↦
              let same : f ≡ g = let e = sym numbered ∙ ap (slice_get p.functions) (sym last) ∙ is in cc in
              subst (λ k. HasPointAt new k d.place) (sym last)
              (all_there ds old new adds p f numbered drafted d (subst (λ h. Contains (points h) d) (sym same) listed))
        ]

    own_ends : HasEnds new (function_count old)
    own_ends =
        let e = function_at-new old new adds.made adds.points adds.ends adds.functions in
        record {
          first_there = rw e (number_there ds old new adds entry adds.ends.first.0 adds.entered);
          first = rw e (number_is_at ds old new adds entry adds.ends.first.0 adds.entered);
          exit_there = rw e (number_there ds old new adds exit adds.ends.exit.0 adds.left);
          exit = rw e (number_is_at ds old new adds exit adds.ends.exit.0 adds.left);
        }

    each_end : (i : ℕ) → i < function_count new → HasEnds new i
    each_end i low =
        elim (last_or_before i (function_count old) (omega (arith, low, count))) [
          | inl earlier ↦
              ends_still old new adds.made adds.points adds.ends adds.functions i earlier (before.ends i earlier)
          | inr last ↦ subst (HasEnds new) (sym last) own_ends
        ]

    pub one_more : IsGraphSoFar p new
    one_more =
        record {
          ordered = ordered_still;
          below =
              each_point (λ m. m.function.0 < function_count new)
              (λ m listed. let less = before.below m listed in omega (arith, less, count)) of_function;
          own =
              each_point (IsSomePoint p new)
              (λ m listed. some_point_still old new adds.made adds.points p m (before.own m listed))
              (own_points ds old new adds p f numbered drafted);
          whole = whole_still;
          ends = each_end;
        }

-- all functions ------------------------------------------------------------------------------------------------------

-- these are the drafts of the program's first functions
pub record AreFirstDrafts (p : Program) (all : List (List PlainDraft)) : Type 0 where
  pub few : length all ≤ length p.functions
  pub each :
      (i : ℕ) (f : TypedFunction) (ds : List PlainDraft) → slice_get p.functions i ≡ Some f →
      slice_get all i ≡ Some ds → IsPermutation (map (point_drafted p i f) (points f)) ds

no_graph : (p : Program) (flow : Flow) → flow.points ≡ [] → flow.functions ≡ [] → IsGraphSoFar p flow
no_graph p flow no_points no_functions =
    let none : point_count flow ≡ 0 = ap length no_points in
    let no_function : function_count flow ≡ 0 = ap length no_functions in
    record {
      ordered = λ i j d less within. absurd (omega (arith, less, within, none));
      below = λ m (k, low, is). absurd (omega (arith, low, none));
      own = λ m (k, low, is). absurd (omega (arith, low, none));
      whole = λ i f low is d listed. absurd (omega (arith, low, no_function));
      ends = λ i low. absurd (omega (arith, low, no_function));
    }

pub graph_so_far : (p : Program) (all : List (List PlainDraft)) (flow : Flow) → IsBuilt all flow
    → AreFirstDrafts p all → (function_count flow ≡ length all) × IsGraphSoFar p flow
graph_so_far p all flow (None_yet f no_points no_functions) drafts =
    (ap length no_functions, no_graph p flow no_points no_functions)
graph_so_far p all flow (Added earlier ds old new built adds) drafts =
    let long : length (earlier ++ ds ∷ []) ≡ length earlier + 1 = length-append earlier (ds ∷ []) in
    let few = drafts.few in
    let first : AreFirstDrafts p earlier = record {
      few = omega (arith, few, long);
      each = λ i f es is there. drafts.each i f es is (slice_get-append earlier (ds ∷ []) i es there);
    } in
    let so_far = graph_so_far p earlier old built first in
    let count = so_far.0 in
    let (f, is) = slice_get-below p.functions (length earlier) (omega (arith, few, long)) in
    let numbered = subst (λ k. slice_get p.functions k ≡ Some f) (sym count) is in
    let own = drafts.each (length earlier) f ds is (slice_get-middle earlier ds []) in
    let drafted = subst (λ k. IsPermutation (map (point_drafted p k f) (points f)) ds) (sym count) own in (
      omega (arith, long, count, function_count-longer old new adds.made adds.points adds.ends adds.functions),
      one_more p f ds old new adds numbered drafted so_far.1,
    )
