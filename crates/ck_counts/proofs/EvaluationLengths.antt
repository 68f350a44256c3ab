-- A passage has as many points as its evaluation.
use Rattle.std.proofs.Common.{◌≡◌, ℕ, suc, ◌+◌, List, [], ◌∷◌, ◌++◌, length, refl, ◌∙◌, arith, length-append}
use Rattle.ck_points.specs.Evaluations as form
use Rattle.ck_points.specs.Evaluations.{Evaluation, Orders}
use Rattle.ck_points.specs.Passages.{Passage, in_turn, all_in_turn, point, passing, either_way, order_edges}
use Rattle.ck_points.specs.Passages.{passage, each_order}
use Rattle.ck_points.specs.Places.{Split, Before, Test, After, place, Passes, Calls, Way, leads}
use Rattle.ck_counts.specs.EvaluationPoints.{evaluation_points, orders_points}

abbrev pub many : Passage → ℕ
many p = length p.points

abbrev pub many_of : List Passage → ℕ
many_of [] = 0
many_of (p ∷ ps) = many p + many_of ps

pub many-in_turn : (a b : Passage) → many (in_turn a b) ≡ many a + many b
many-in_turn a b = length-append a.points b.points

pub many-all_in_turn : (a : Passage) (ps : List Passage) → many (all_in_turn a ps) ≡ many a + many_of ps
many-all_in_turn a [] = omega arith
many-all_in_turn a (b ∷ bs) =
    many-in_turn a (all_in_turn b bs) ∙ (let rest = many-all_in_turn b bs in omega (arith, rest))

mutual
  pub passage_points : (orders : List ℕ) (e : Evaluation) (next : Way) →
      many (passage orders e next) ≡ evaluation_points e
  passage_points orders form.Nothing next = refl
  passage_points orders (form.Does d) next = refl
  passage_points orders (form.Then a b) next =
      let later = passage orders b next in
      let first = passage_points orders a later.enters in
      let second = passage_points orders b next in
      many-in_turn (passage orders a later.enters) later ∙ omega (arith, first, second)
  passage_points orders (form.Call n function e) next =
      let before = place n.path orders Before in
      let after = place n.path orders After in
      let inside = passage orders e (leads before) in
      let first = passage_points orders e (leads before) in
      let here = in_turn (passing before (Calls function) n.first (leads after)) (passing after Passes n.first next) in
      many-in_turn inside here ∙ omega (arith, first)
  passage_points orders (form.InAnyOrder n es) next =
      let ps = each_order orders 1 es next in
      let copies = orders_are orders 1 es next in
      many-all_in_turn (point (place n.path orders Split) Passes n.first (order_edges 1 ps)) ps
      ∙ omega (arith, copies)
  passage_points orders (form.Choice t e a b meeting) next =
      let start = leads (place t.at.path orders Test) in
      let meet = leads (place meeting.path orders After) in
      let tested = passage orders e start in
      let holds = passage orders a meet in
      let fails = passage orders b meet in
      let first = passage_points orders e start in
      let second = passage_points orders a meet in
      let third = passage_points orders b meet in
      many-all_in_turn tested
      (point start.to Passes t.at.first (either_way t.constancy holds.enters fails.enters) ∷ holds ∷ fails
      ∷ passing meet.to Passes meeting.first next ∷ [])
      ∙ omega (arith, first, second, third)

  orders_are : (orders : List ℕ) (k : ℕ) (es : Orders) (next : Way) →
      many_of (each_order orders k es next) ≡ orders_points es
  orders_are orders k form.NoOrders next = refl
  orders_are orders k (form.Order e es) next =
      let first = passage_points (orders ++ (k ∷ [])) e next in
      let rest = orders_are orders (suc k) es next in
      omega (arith, first, rest)
