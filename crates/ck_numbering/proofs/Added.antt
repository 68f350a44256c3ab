-- A function's points, made of sorted drafts and their edges.
use Rattle.std.proofs.Common.{◌≡◌, refl}
use Rattle.std.specs.Prelude.{ℕ, List, ◌∷◌, [], ◌++◌, map, Vec}
use Rattle.std.specs.List.{AllZip, zip}
use Rattle.std.specs.List.Sorted.{IsPermutation}
use Rattle.std.proofs.lemmas.List.Sorted.{Contains-permutation, IsPermutation-sym}
use Rattle.ck_base.specs.declared.spans.FnId.{FnId}
use Rattle.ck_drafts.specs.Drafts.{PlainDraft, plain_draft}
use Rattle.ck_drafts.specs.declared.drafts.Draft.{Draft}
use Rattle.ck_graph.specs.Flow.{Flow, point_count, function_count}
use Rattle.ck_graph.specs.declared.points.Edge.{Edge}
use Rattle.ck_graph.specs.declared.points.FunctionPart.{FunctionPart}
use Rattle.ck_points.specs.Functions.{entry, exit}
use Rattle.ck_points.specs.Places.{Place}
use Rattle.ck_numbering.specs.Closed.{HasDraftAt, AllLeadInto}
use Rattle.ck_numbering.specs.Numbered.{IsNumberOf, IsPointOf, AreEdgesOfEach, point_made, AddsFunction}
use Rattle.ck_numbering.specs.PlaceOrder.{AreAscending}

-- drafts in another order --------------------------------------------------------------------------------------------

pub has_still : (ds es : List PlainDraft) (at : Place) → IsPermutation ds es → HasDraftAt ds at → HasDraftAt es at
has_still ds es at same has =
    record { draft = has.draft; listed = Contains-permutation ds es has.draft same has.listed; is = has.is }

pub lead_still : (ds es : List PlainDraft) → IsPermutation ds es → AllLeadInto ds ds → AllLeadInto es es
lead_still ds es same lead =
    record {
      there = λ d listed e of.
          has_still ds es e.to same
          (lead.there d (Contains-permutation es ds d (IsPermutation-sym ds es same) listed) e of);
    }

-- points -------------------------------------------------------------------------------------------------------------

points_made : {A : Type 0} (function : FnId) (first : ℕ) (ds : List PlainDraft) (xs : List Draft)
    (all : List (Vec Edge A)) → AreEdgesOfEach first ds (map plain_draft xs) all
    → AllZip (IsPointOf function first ds) (map plain_draft xs) (map (point_made function) (zip xs all))
points_made function first ds [] [] each = tt
points_made function first ds [] (es ∷ all) each = absurd each
points_made function first ds (x ∷ xs) [] each = absurd each
points_made function first ds (x ∷ xs) (es ∷ all) each = (
  record {
    kind = refl;
    function_is = refl;
    site = refl;
    path = refl;
    orders = refl;
    side = refl;
    edges = each.0;
    targets = refl;
  },
  points_made function first ds xs all each.1,
)

pub added : {A : Type 0} (old new : Flow) (ds : List PlainDraft) (xs : List Draft) (all : List (Vec Edge A))
    (first n : ℕ) (ends : FunctionPart) → first ≡ point_count old → n ≡ function_count old
    → IsPermutation ds (map plain_draft xs) → AreAscending (map plain_draft xs)
    → AreEdgesOfEach first (map plain_draft xs) (map plain_draft xs) all
    → IsNumberOf first (map plain_draft xs) entry ends.first.0
    → IsNumberOf first (map plain_draft xs) exit ends.exit.0
    → new.points ≡ old.points ++ map (point_made (record { 0 = n })) (zip xs all)
    → new.functions ≡ old.functions ++ ends ∷ [] → AddsFunction ds old new
added old new ds xs all first n ends is_first is_n same ascending edges entered left points functions =
    let made = points_made (record { 0 = n }) first (map plain_draft xs) xs all edges in
    record {
      sorted = map plain_draft xs;
      same = same;
      ascending = ascending;
      made = map (point_made (record { 0 = n })) (zip xs all);
      are = rw (← is_first, ← is_n) made;
      points = points;
      ends = ends;
      functions = functions;
      entered = rw (← is_first) entered;
      left = rw (← is_first) left;
    }
