-- What was in a graph is in a longer one.
use Rattle.std.proofs.Common.{◌≡◌, sym, ◌∙◌, ap, subst, arith}
use Rattle.std.specs.Prelude.{◌<◌, ◌+◌, ℕ, List, ◌∷◌, [], ◌++◌, length, slice_index_or}
use Rattle.std.proofs.lemmas.List.{get_or_append_left, get_or-append-add, length-append}
use Rattle.std.proofs.Math.Seq.{get_or-append_seam}
use Rattle.ck_graph.specs.Flow as graph
use Rattle.ck_graph.specs.Flow.{Flow, point_at, function_at, point_count, function_count, no_point, no_function}
use Rattle.ck_graph.specs.declared.points.Edge.{Edge as MadeEdge}
use Rattle.ck_graph.specs.declared.points.FunctionPart.{FunctionPart}
use Rattle.ck_points.specs.Graphs.{Program, IsAt, IsEdge, IsPoint, IsSomePoint, HasPointAt, HasEnds}
use Rattle.ck_points.specs.Places.{Place, Point, Edge}
use Rattle.ck_prog.specs.TypedBodies.{TypedFunction}
use Rattle.ck_numbering.proofs.ListLemmas.{AllZip-weaker}

module _ (old new : Flow) (made : List graph.Point) (more : new.points ≡ old.points ++ made) where
  pub point_count-longer : point_count new ≡ point_count old + length made
  point_count-longer = ap length more ∙ length-append old.points made

  pub point_at-old : (k : ℕ) → k < point_count old → point_at new k ≡ point_at old k
  unfolding point_at
  point_at-old k low =
      ap (λ ps. slice_index_or ps k no_point) more ∙ get_or_append_left old.points made no_point k low

  pub point_at-new : (k : ℕ) → point_at new (point_count old + k) ≡ slice_index_or made k no_point
  unfolding point_at
  point_at-new k =
      ap (λ ps. slice_index_or ps (length old.points + k) no_point) more
      ∙ get_or-append-add old.points made k no_point

  there : (k : ℕ) → k < point_count old → k < point_count new
  there k low = omega (arith, low, point_count-longer)

  stays_at : (i : ℕ) (at : Place) (k : ℕ) → k < point_count old → IsAt i at (point_at old k)
      → IsAt i at (point_at new k)
  stays_at i at k low is = subst (IsAt i at) (sym (point_at-old k low)) is

  pub has_point_still : (i : ℕ) (at : Place) → HasPointAt old i at → HasPointAt new i at
  has_point_still i at has =
      record {
        number = has.number;
        there = there has.number has.there;
        is = stays_at i at has.number has.there has.is;
      }

  edge_still : (i : ℕ) (e : Edge) (m : MadeEdge) → IsEdge old i e m → IsEdge new i e m
  edge_still i e m is =
      record { label = is.label; there = there m.to.0 is.there; to = stays_at i e.way.to m.to.0 is.there is.to }

  point_still : (p : Program) (i : ℕ) (f : TypedFunction) (d : Point) (m : graph.Point) → IsPoint p old i f d m
      → IsPoint p new i f d m
  point_still p i f d m is =
      record {
        at = is.at;
        kind = is.kind;
        site = is.site;
        edges = AllZip-weaker (IsEdge old i) (IsEdge new i) (edge_still i) d.edges m.edges is.edges;
        targets = is.targets;
      }

  pub some_point_still : (p : Program) (m : graph.Point) → IsSomePoint p old m → IsSomePoint p new m
  some_point_still p m some =
      record {
        number = some.number;
        function = some.function;
        numbered = some.numbered;
        point = some.point;
        listed = some.listed;
        is = point_still p some.number some.function some.point m some.is;
      }

  module _ (ends : FunctionPart) (one_more : new.functions ≡ old.functions ++ ends ∷ []) where
    pub function_count-longer : function_count new ≡ function_count old + 1
    function_count-longer = ap length one_more ∙ length-append old.functions (ends ∷ [])

    function_at-old : (k : ℕ) → k < function_count old → function_at new k ≡ function_at old k
    unfolding function_at
    function_at-old k low =
        ap (λ fs. slice_index_or fs k no_function) one_more
        ∙ get_or_append_left old.functions (ends ∷ []) no_function k low

    pub function_at-new : function_at new (function_count old) ≡ ends
    unfolding function_at
    function_at-new =
        ap (λ fs. slice_index_or fs (length old.functions) no_function) one_more
        ∙ get_or-append_seam old.functions ends [] no_function

    pub ends_still : (i : ℕ) → i < function_count old → HasEnds old i → HasEnds new i
    ends_still i low has =
        let e = function_at-old i low in
        record {
          first_there = rw e (there _ has.first_there);
          first = rw e (stays_at i _ _ has.first_there has.first);
          exit_there = rw e (there _ has.exit_there);
          exit = rw e (stays_at i _ _ has.exit_there has.exit);
        }
