-- The graph of a project's functions has no fault.
use Rattle.std.proofs.Common.{◌≡◌, sym, ◌∙◌, ap, subst, arith}
use Rattle.std.specs.Prelude.{◌<◌, ℕ, List, [], ◌∷◌, length, Contains, Option, Some, None, refl}
use Rattle.std.specs.List.{AllByRecursion as Each, All, AllZip}
use Rattle.std.proofs.lemmas.List.Elements.{All-from_recursion, Contains-get_or}
use Rattle.std.proofs.lemmas.Option.{slice_get_within}
use Rattle.ck_base.specs.declared.spans.FnId.{FnId}
use Rattle.ck_graph.specs.Faults.{IsPointOf, FitsKind, IsPointSound, IsFunctionSound}
use Rattle.ck_graph.specs.Flow as graph
use Rattle.ck_graph.specs.Flow.{Flow, point_at, function_at, point_count, function_count, no_point}
use Rattle.ck_graph.specs.declared.points.ActName.{ActName}
use Rattle.ck_graph.specs.declared.points.Edge.{Edge as MadeEdge}
use Rattle.ck_graph.specs.declared.points.PointKind.TheVariants.{Exit}
use Rattle.ck_prog.specs.Paths.{Path}
use Rattle.ck_prog.specs.TypedBodies.{TypedFunction}
use Rattle.ck_points.specs.Functions.{exit}
use Rattle.ck_points.specs.Graphs.{Program, kind_of, kind_of_call, IsAt, IsEdge, IsSomePoint, IsGraph}
use Rattle.ck_points.specs.Laws.{FitsHappening, GraphsAreSound}
use Rattle.ck_points.specs.Places.{side_number, Happening, Passes, Calls, EntersPair, LeavesPair, Ends, Point, Edge}
use Rattle.ck_points.proofs.EdgesFit.{Kind, Inner, First, Entered, Left, Last, kind_of_point, edges_fit}
use Rattle.ck_points.proofs.OneNumber.{only_one}
use Rattle.ck_points.proofs.OrdinaryPoints.{IsOrdinary}

-- kinds --------------------------------------------------------------------------------------------------------------

fits_call : (p : Program) (act : Option ActName) (k n : ℕ) → n ≡ 1 → FitsKind (kind_of_call p act k) n
fits_call p None k n one = one
fits_call p (Some act) k n one = one

fits : (p : Program) (i : ℕ) (f : TypedFunction) (π : Path) (h : Happening) (n : ℕ) → FitsHappening h n
    → FitsKind (kind_of p i f π h) n
fits p i f π Passes n is = tt
fits p i f π (Calls function) n is = fits_call p _ _ n is
fits p i f π EntersPair n is = is
fits p i f π LeavesPair n is = is
fits p i f π Ends n is = is

no_exit : (p : Program) (act : Option ActName) (k : ℕ) → kind_of_call p act k ≡ Exit → ⊥
no_exit p None k is = cc
no_exit p (Some act) k is = cc

ends : (p : Program) (i : ℕ) (f : TypedFunction) (π : Path) (h : Happening) → kind_of p i f π h ≡ Exit → h ≡ Ends
ends p i f π Passes is = absurd (cc)
ends p i f π (Calls function) is = absurd (no_exit p _ _ is)
ends p i f π EntersPair is = absurd (cc)
ends p i f π LeavesPair is = absurd (cc)
ends p i f π Ends is = refl

-- only the exit ends a function, and nothing else is after its body
at_exit : (d : Point) → Kind d → d.happening ≡ Ends → d.place ≡ exit
at_exit d (Inner f is) ends = absurd (subst (λ h. IsOrdinary h (length d.edges)) ends is)
at_exit d (First at is) ends = absurd (cc)
at_exit d (Entered at is one) ends = absurd (cc)
at_exit d (Left at is one) ends = absurd (cc)
at_exit d (Last at is none) ends = at

after_body : (d : Point) → Kind d → d.place.path ≡ [] → side_number d.place.side ≡ 5 → d.happening ≡ Ends
after_body d (Inner f is) path side = let e : [] ≡ f.step ∷ f.rest = sym path ∙ f.is in absurd (cc)
after_body d (First at is) path side =
    let e : side_number d.place.side ≡ 1 = ap (λ p. side_number p.side) at in absurd (omega (arith, e, side))
after_body d (Entered at is one) path side =
    let e : side_number d.place.side ≡ 2 = ap (λ p. side_number p.side) at in absurd (omega (arith, e, side))
after_body d (Left at is one) path side =
    let e : side_number d.place.side ≡ 4 = ap (λ p. side_number p.side) at in absurd (omega (arith, e, side))
after_body d (Last at is none) path side = is

-- edges --------------------------------------------------------------------------------------------------------------

edges_in : (flow : Flow) (i : ℕ) (es : List Edge) (ms : List MadeEdge) → AllZip (IsEdge flow i) es ms
    → Each (λ m. IsPointOf flow m.to.0 i) ms
edges_in flow i [] [] each = tt
edges_in flow i (e ∷ es) (m ∷ ms) each =
    (record { there = each.0.there; own = each.0.to.function }, edges_in flow i es ms each.1)
edges_in flow i [] (m ∷ ms) each = absurd each
edges_in flow i (e ∷ es) [] each = absurd each

as_many : (flow : Flow) (i : ℕ) (es : List Edge) (ms : List MadeEdge) → AllZip (IsEdge flow i) es ms
    → length ms ≡ length es
as_many flow i [] [] each = refl
as_many flow i (e ∷ es) (m ∷ ms) each = let rest = as_many flow i es ms each.1 in omega (arith, rest)
as_many flow i [] (m ∷ ms) each = absurd each
as_many flow i (e ∷ es) [] each = absurd each

no_targets : (flow : Flow) (ts : List FnId) → ts ≡ [] → All (λ t. t.0 < function_count flow) ts
no_targets flow ts none =
    subst (λ ts. All (λ t. t.0 < function_count flow) ts) (sym none)
    (All-from_recursion (λ t. t.0 < function_count flow) [] tt)

-- points and functions -----------------------------------------------------------------------------------------------

there : (flow : Flow) (n : ℕ) → n < point_count flow → Contains flow.points (point_at flow n)
unfolding point_at
there flow n low = Contains-get_or flow.points n no_point low

function_there : (p : Program) (flow : Flow) → IsGraph p flow → (made : graph.Point) → IsSomePoint p flow made
    → made.function.0 < function_count flow
function_there p flow g made s =
    let low = slice_get_within p.functions s.number s.function s.numbered in
    let e = s.is.at.function in
    let all = g.functions in
    omega (arith, low, e, all)

exit_named : (p : Program) (flow : Flow) → IsGraph p flow → (n : ℕ) → n < point_count flow
    → (s : IsSomePoint p flow (point_at flow n)) → (point_at flow n).kind ≡ Exit
    → (function_at flow (point_at flow n).function.0).exit.0 ≡ n
exit_named p flow g n low s is =
    let i = s.number in
    let made = point_at flow n in
    let d = s.point in
    let h = ends p i s.function d.place.path d.happening (sym s.is.kind ∙ is) in
    let at = at_exit d (kind_of_point s.function d s.listed) h in
    let here : IsAt i exit made = subst (λ place. IsAt i place made) at s.is.at in
    let e = g.ends i (slice_get_within p.functions i s.function s.numbered) in
    let own : (function_at flow i).exit.0 ≡ n =
    only_one p flow g i exit (function_at flow i).exit.0 n e.exit_there low e.exit here in
    subst (λ k. (function_at flow k).exit.0 ≡ n) (sym s.is.at.function) own

point_sound : (p : Program) (flow : Flow) → IsGraph p flow → (n : ℕ) → n < point_count flow
    → IsPointSound flow n (point_at flow n)
point_sound p flow g n low =
    let made = point_at flow n in
    let s = g.own made (there flow n low) in
    let d = s.point in
    let i = s.number in
    let edges = edges_in flow i d.edges made.edges s.is.edges in
    let count = as_many flow i d.edges made.edges s.is.edges in
    let one = edges_fit s.function d s.listed in
    record {
      function = function_there p flow g made s;
      targets = no_targets flow made.targets s.is.targets;
      edges =
          subst (λ k. All (λ m. IsPointOf flow m.to.0 k) made.edges) (sym s.is.at.function)
          (All-from_recursion (λ m. IsPointOf flow m.to.0 i) made.edges edges);
      fits =
          subst (λ k. FitsKind k (length made.edges)) (sym s.is.kind)
          (fits p i s.function d.place.path d.happening (length made.edges)
          (subst (λ k. FitsHappening d.happening k) (sym count) one));
      exit = exit_named p flow g n low s;
    }

function_sound : (p : Program) (flow : Flow) → IsGraph p flow → (i : ℕ) → i < function_count flow
    → IsFunctionSound flow i
function_sound p flow g i low =
    let all = g.functions in
    let e = g.ends i (omega (arith, low, all)) in
    let made = point_at flow (function_at flow i).exit.0 in
    let s = g.own made (there flow (function_at flow i).exit.0 e.exit_there) in
    let d = s.point in
    let path : d.place.path ≡ [] = sym s.is.at.path ∙ e.exit.path in
    let side : side_number d.place.side ≡ 5 = sym s.is.at.side ∙ e.exit.side in
    let h = after_body d (kind_of_point s.function d s.listed) path side in
    record {
      first = record { there = e.first_there; own = e.first.function };
      exit = record { there = e.exit_there; own = e.exit.function };
      ends = s.is.kind ∙ ap (kind_of p s.number s.function d.place.path) h;
    }

pub graphs_are_sound : GraphsAreSound
graphs_are_sound p flow g small =
    record {
      points = λ n low. point_sound p flow g n low;
      functions = λ i low. function_sound p flow g i low;
      small = small;
    }
