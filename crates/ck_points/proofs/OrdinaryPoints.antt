-- What happens at the points of an evaluation: nothing, or a call, which has one edge.
use Rattle.std.specs.Prelude.{◌≡◌, ⊤, ℕ, suc, List, [], ◌∷◌, ◌++◌, length, refl}
use Rattle.std.specs.List.{AllByRecursion as Each}
use Rattle.ck_points.specs.Evaluations as form
use Rattle.ck_points.specs.Evaluations.{Evaluation, Orders}
use Rattle.ck_points.specs.Passages.{point, passing, either_way, order_edges, passage, each_order}
use Rattle.ck_points.specs.Places.{Split, Before, Test, After, place, Happening, Passes, Calls, Point, Way, leads}
use Rattle.ck_points.proofs.PassagesStay.{each_append}
use Rattle.ck_points.proofs.PointsApart.{each_part}

abbrev pub IsOrdinary : Happening → ℕ → Type 0
IsOrdinary Passes edges = ⊤
IsOrdinary (Calls function) edges = edges ≡ 1
IsOrdinary _ edges = ⊥

abbrev pub Ordinary : Point → Type 0
Ordinary q = IsOrdinary q.happening (length q.edges)

mutual
  pub evaluation_ordinary : (orders : List ℕ) (e : Evaluation) (next : Way)
      → Each Ordinary (passage orders e next).points
  evaluation_ordinary orders form.Nothing next = tt
  evaluation_ordinary orders (form.Does d) next = tt
  evaluation_ordinary orders (form.Then a b) next =
      let later = passage orders b next in
      each_append Ordinary (passage orders a later.enters).points later.points
      (evaluation_ordinary orders a later.enters) (evaluation_ordinary orders b next)
  evaluation_ordinary orders (form.Call n function e) next =
      let start = leads (place n.path orders Before) in
      each_append Ordinary (passage orders e start).points _ (evaluation_ordinary orders e start) (refl, (tt, tt))
  evaluation_ordinary orders (form.InAnyOrder n es) next =
      let ps = each_order orders 1 es next in
      each_part Ordinary (point (place n.path orders Split) Passes n.first (order_edges 1 ps)) ps (tt, tt)
      (orders_ordinary orders 1 es next)
  evaluation_ordinary orders (form.Choice t e a b meeting) next =
      let start = leads (place t.at.path orders Test) in
      let meet = leads (place meeting.path orders After) in
      let holds = passage orders a meet in
      let fails = passage orders b meet in
      each_part Ordinary (passage orders e start)
      (point start.to Passes t.at.first (either_way t.constancy holds.enters fails.enters) ∷ holds ∷ fails
      ∷ passing meet.to Passes meeting.first next ∷ []) (evaluation_ordinary orders e start)
      ((tt, tt), (evaluation_ordinary orders a meet, (evaluation_ordinary orders b meet, ((tt, tt), tt))))

  orders_ordinary : (orders : List ℕ) (k : ℕ) (es : Orders) (next : Way)
      → Each (λ p. Each Ordinary p.points) (each_order orders k es next)
  orders_ordinary orders k form.NoOrders next = tt
  orders_ordinary orders k (form.Order e es) next =
      (evaluation_ordinary (orders ++ (k ∷ [])) e next, orders_ordinary orders (suc k) es next)
