-- In a graph each place of a function has one number, since no point comes before itself.
use Rattle.std.specs.Prelude.{◌<◌, ℕ, [], ◌∷◌, slice_index_or}
use Rattle.std.proofs.Common.{◌≡◌, sym, ◌∙◌, ap, arith}
use Rattle.ck_graph.specs.Flow as graph
use Rattle.ck_graph.specs.Flow.{Flow, point_at, point_count, no_point}
use Rattle.ck_prog.specs.PathOrder.{IsBefore, Whole, Smaller, Deeper}
use Rattle.ck_prog.specs.Paths.{Path}
use Rattle.ck_points.specs.Graphs.{Program, IsAt, IsGraph, ComesBefore, ByFunction, ByPath, ByOrders, BySide}
use Rattle.ck_points.specs.Laws.{PlacesAreNumbered}
use Rattle.ck_points.specs.Places.{Place}

abbrev rest_of : Path → Path
rest_of [] = []
rest_of (k ∷ rest) = rest

never_itself : (π ρ : Path) → IsBefore π ρ → π ≡ ρ → ⊥
never_itself π ρ (Whole k rest) same = cc
never_itself π ρ (Smaller j k r s less) same =
    let e : j ≡ k = ap (λ l. slice_index_or l 0 0) same in omega (arith, less, e)
never_itself π ρ (Deeper k r s before) same = never_itself r s before (ap rest_of same)

-- two points at one place of a function, of which one comes before the other
never_before : (i : ℕ) (at : Place) (a b : graph.Point) → IsAt i at a → IsAt i at b → ComesBefore a b → ⊥
never_before i at a b here there (ByFunction less) =
    let e : a.function.0 ≡ b.function.0 = here.function ∙ sym there.function in omega (arith, less, e)
never_before i at a b here there (ByPath same before) =
    never_itself a.path b.path before (here.path ∙ sym there.path)
never_before i at a b here there (ByOrders same_function same before) =
    never_itself a.order b.order before (here.orders ∙ sym there.orders)
never_before i at a b here there (BySide same_function same_path same less) =
    let e : a.side ≡ b.side = here.side ∙ sym there.side in omega (arith, less, e)

neither_less : (m n : ℕ) → (m < n → ⊥) → (n < m → ⊥) → m ≡ n
neither_less m n left right = grind (arith, left, right)

pub only_one : (p : Program) (flow : Flow) → IsGraph p flow → (i : ℕ) (at : Place) (m n : ℕ) → m < point_count flow
    → n < point_count flow → IsAt i at (point_at flow m) → IsAt i at (point_at flow n) → m ≡ n
unfolding point_at
only_one p flow g i at m n low high here there =
    let a = slice_index_or flow.points m no_point in
    let b = slice_index_or flow.points n no_point in
    neither_less m n (λ less. never_before i at a b here there (g.ordered m n no_point less high))
    (λ less. never_before i at b a there here (g.ordered n m no_point less low))

pub places_are_numbered : PlacesAreNumbered
places_are_numbered p flow g i f numbered d listed =
    record {
      there = g.whole i f numbered d listed;
      only = λ m n low high here there. only_one p flow g i d.place m n low high here there;
    }
