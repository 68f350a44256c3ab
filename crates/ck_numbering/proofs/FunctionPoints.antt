-- The points that are made of a function's drafts.
use Rattle.std.proofs.Common.{◌≡◌, sym, ap, subst, arith}
use Rattle.std.specs.Prelude.{◌<◌, ◌+◌, ℕ, List, [], length, map, Contains, AllPairs, slice_get}
use Rattle.std.specs.Prelude.{slice_index_or}
use Rattle.std.specs.Prelude.{Some}
use Rattle.std.specs.List.Sorted.{IsPermutation}
use Rattle.std.proofs.lemmas.Slice.Zip.{AllZip-long}
use Rattle.std.proofs.lemmas.List.Sorted.{Contains-permutation, IsPermutation-sym, IsPermutation-trans}
use Rattle.std.proofs.lemmas.List.Elements.{Contains-get_or}
use Rattle.ck_base.specs.declared.spans.FnId.{FnId}
use Rattle.ck_drafts.specs.Drafts.{PlainDraft, point_drafted, edge_drafted}
use Rattle.ck_graph.specs.Flow as graph
use Rattle.ck_graph.specs.Flow.{Flow, point_at, point_count, function_count, no_point}
use Rattle.ck_graph.specs.declared.points.Edge.{Edge as MadeEdge}
use Rattle.ck_graph.specs.declared.points.PointKind.TheVariants.{Plain}
use Rattle.ck_points.specs.Functions.{points, entry}
use Rattle.ck_points.specs.Graphs.{Program, IsAt, IsEdge, IsPoint, IsSomePoint, HasPointAt, ComesBefore}
use Rattle.ck_points.specs.Places.{Place, Point, Edge}
use Rattle.ck_prog.specs.TypedBodies.{TypedFunction}
use Rattle.ck_numbering.specs.Numbered.{IsNumberOf, IsEdgeOf, IsPointOf, AddsFunction}
use Rattle.ck_numbering.proofs.ListLemmas.{AllZip-at, AllZip-from_map, Contains-map, Contains-from_map}
use Rattle.ck_numbering.proofs.LongerGraphs.{point_count-longer, point_at-new}
use Rattle.ck_numbering.proofs.PlaceOrderLaws.{place_cmp-Less}

-- what an index that no draft has is read as
no_draft : PlainDraft
no_draft = record { at = entry; kind = Plain; site = record { file = 0; start = 0; «end» = 0 }; edges = [] }

at_place : (i first : ℕ) (ds : List PlainDraft) (d : PlainDraft) (m : graph.Point)
    → IsPointOf (record { 0 = i }) first ds d m → IsAt i d.at m
at_place i first ds d m is =
    record {
      function = ap (λ (f : FnId). f.0) is.function_is;
      path = is.path;
      orders = is.orders;
      side = is.side;
    }

module _ (ds : List PlainDraft) (old new : Flow) (adds : AddsFunction ds old new) where
  abbrev pub n : ℕ
  n = function_count old

  abbrev pub first : ℕ
  first = point_count old

  pub made-length : length adds.made ≡ length adds.sorted
  made-length = AllZip-long (IsPointOf (record { 0 = n }) first adds.sorted) adds.sorted adds.made adds.are

  made_at : (k : ℕ) (d : PlainDraft) (m : graph.Point) → k < length adds.sorted
      → IsPointOf (record { 0 = n }) first adds.sorted (slice_index_or adds.sorted k d) (slice_index_or adds.made k m)
  made_at k d m low =
      AllZip-at (IsPointOf (record { 0 = n }) first adds.sorted) adds.sorted adds.made k d m adds.are low

  -- the point of an index
  point_of_index : (k : ℕ) (d : PlainDraft) → k < length adds.sorted
      → IsAt n (slice_index_or adds.sorted k d).at (point_at new (first + k))
  point_of_index k d low =
      subst (IsAt n (slice_index_or adds.sorted k d).at) (sym (point_at-new old new adds.made adds.points k))
      (at_place n first adds.sorted (slice_index_or adds.sorted k d) (slice_index_or adds.made k no_point)
      (made_at k d no_point low))

  index_there : (k : ℕ) → k < length adds.sorted → first + k < point_count new
  index_there k low = omega (arith, low, made-length, point_count-longer old new adds.made adds.points)

  pub number_there : (at : Place) (number : ℕ) → IsNumberOf first adds.sorted at number → number < point_count new
  number_there at number is = rw is.is (index_there is.index is.at_index.there)

  pub number_is_at : (at : Place) (number : ℕ) → IsNumberOf first adds.sorted at number
      → IsAt n at (point_at new number)
  number_is_at at number is =
      let here = point_of_index is.index no_draft is.at_index.there in
      rw is.is (subst (λ a. IsAt n a (point_at new (first + is.index))) (is.at_index.is no_draft) here)

  edge_made : (e : Edge) (m : MadeEdge) → IsEdgeOf first adds.sorted (edge_drafted e) m → IsEdge new n e m
  edge_made e m is =
      record {
        label = is.label;
        there = number_there e.way.to m.to.0 is.to;
        to = number_is_at e.way.to m.to.0 is.to;
      }

  point_made : (p : Program) (f : TypedFunction) (q : Point) (m : graph.Point)
      → IsPointOf (record { 0 = n }) first adds.sorted (point_drafted p n f q) m → IsPoint p new n f q m
  point_made p f q m is =
      record {
        at = at_place n first adds.sorted (point_drafted p n f q) m is;
        kind = is.kind;
        site = is.site;
        edges =
            AllZip-from_map (IsEdgeOf first adds.sorted) (IsEdge new n) edge_drafted edge_made q.edges m.edges is.edges;
        targets = is.targets;
      }

  -- of a function whose points these are
  module _ (p : Program) (f : TypedFunction) (numbered : slice_get p.functions n ≡ Some f)
      (drafted : IsPermutation (map (point_drafted p n f) (points f)) ds) where
    all_sorted : IsPermutation (map (point_drafted p n f) (points f)) adds.sorted
    all_sorted = IsPermutation-trans _ ds adds.sorted drafted adds.same

    pub own_points : (m : graph.Point) → Contains adds.made m → IsSomePoint p new m
    own_points m (k, low, is) =
        let inside : k < length adds.sorted = omega (arith, low, made-length) in
        let d = slice_index_or adds.sorted k no_draft in
        let listed = Contains-permutation adds.sorted (map (point_drafted p n f) (points f)) d
        (IsPermutation-sym _ _ all_sorted) (Contains-get_or adds.sorted k no_draft inside) in
        let (q, there, drafted_is) = Contains-from_map (point_drafted p n f) (points f) d listed in
        let made = subst (λ x. IsPointOf (record { 0 = n }) first adds.sorted d x) is (made_at k no_draft m inside) in
        let own = subst (λ x. IsPointOf (record { 0 = n }) first adds.sorted x m) (sym drafted_is) made in
        record {
          number = n;
          function = f;
          numbered = numbered;
          point = q;
          listed = there;
          is = point_made p f q m own;
        }

    pub all_there : (q : Point) → Contains (points f) q → HasPointAt new n q.place
    all_there q listed =
        let d = point_drafted p n f q in
        let (k, low, is) = Contains-permutation _ adds.sorted d all_sorted
        (Contains-map (point_drafted p n f) (points f) q listed) in
        record {
          number = first + k;
          there = index_there k low;
          is = subst (λ x. IsAt n x.at (point_at new (first + k))) is (point_of_index k d low);
        }

  pub made_in_order : AllPairs ComesBefore adds.made
  made_in_order i j m less within =
      let high : j < length adds.sorted = omega (arith, within, made-length) in
      let low : i < length adds.sorted = omega (arith, less, high) in
      place_cmp-Less n _ _ _ _ (at_place n first adds.sorted _ _ (made_at i no_draft m low))
      (at_place n first adds.sorted _ _ (made_at j no_draft m high)) (adds.ascending.less i j no_draft less high)

  pub made_of_function : (k : ℕ) (m : graph.Point) → k < length adds.made
      → (slice_index_or adds.made k m).function.0 ≡ n
  made_of_function k m low =
      ap (λ (f : FnId). f.0) (made_at k no_draft m (omega (arith, low, made-length))).function_is
