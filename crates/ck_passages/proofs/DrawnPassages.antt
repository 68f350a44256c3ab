-- What is drawn for an evaluation is its passage.
use Rattle.std.proofs.Common.{◌≡◌, ℕ, suc, Bool, true, false, List, [], ◌∷◌, ◌++◌, map, refl, sym}
use Rattle.std.proofs.Common.{ap, ◌∙◌, append-nil}
use Rattle.std.specs.Prelude.{if◌then◌else◌}
use Rattle.ck_drafts.specs.Drafts.{PlainEdge, edge_drafted}
use Rattle.ck_passages.specs.Drawing.{edge_to, test_edges, put_test, put_split, going_to, Copies, draw, draw_orders}
use Rattle.ck_passages.specs.Drawing.{with_copy}
use Rattle.ck_passages.specs.Points.{PlainPoint, Drawn, without_deeds, added, before_drawn}
use Rattle.ck_graph.specs.declared.points.Label.TheVariants.{Plain, Order as OrderLabel}
use Rattle.ck_points.specs.Evaluations as form
use Rattle.ck_points.specs.Evaluations.{Evaluation, Orders}
use Rattle.ck_points.specs.Passages.{Passage, in_turn, all_in_turn, point, passing, either_way, order_edges, passage}
use Rattle.ck_points.specs.Passages.{each_order}
use Rattle.ck_points.specs.Places.{Split, Before, Test, After, Place, place, Passes, Calls, Point}
use Rattle.ck_points.specs.Places.{Way, leads}
use Rattle.ck_prog.specs.Senses.{Constancy, Varying, Valueless, Known, is_zero}

pub added-append : (ps : List PlainPoint) (xs ys : List Point) → added ps (xs ++ ys) ≡ added (added ps ys) xs
added-append ps [] ys = refl
added-append ps (x ∷ xs) ys = ap (λ qs. qs ++ (without_deeds x ∷ [])) (added-append ps xs ys)

abbrev entering : Place → List PlainPoint → Drawn
entering to ps = record { to = to; points = ps }

-- passages in turn ----------------------------------------------------------------------------------------------------

abbrev points_of : List Passage → List Point
points_of [] = []
points_of (p ∷ ps) = p.points ++ points_of ps

all_in_turn-enters : (a : Passage) (bs : List Passage) → (all_in_turn a bs).enters ≡ a.enters
all_in_turn-enters a [] = refl
all_in_turn-enters a (b ∷ bs) = refl

all_in_turn-points : (a : Passage) (bs : List Passage) → (all_in_turn a bs).points ≡ a.points ++ points_of bs
all_in_turn-points a [] = sym (append-nil a.points)
all_in_turn-points a (b ∷ bs) = ap (λ ds. a.points ++ ds) (all_in_turn-points b bs)

-- tests ---------------------------------------------------------------------------------------------------------------

one_way-to : (b : Bool) (p q : Way) → (if b then p.to else q.to) ≡ (if b then p else q).to
one_way-to true p q = refl
one_way-to false p q = refl

pub test_edges-drafted : (c : Constancy) (holds fails : Way) →
    test_edges c holds.to fails.to ≡ map edge_drafted (either_way c holds fails)
test_edges-drafted (Known v) holds fails =
    ap (λ to. edge_to Plain to ∷ []) (one_way-to (is_zero (Known v)) fails holds)
test_edges-drafted Varying holds fails = refl
test_edges-drafted Valueless holds fails = refl

abbrev tested : List ℕ → form.Test → List PlainEdge → PlainPoint
tested orders t es =
    record { at = place t.at.path orders Test; happening = Passes; site = t.at.first.span; edges = es }

abbrev put_held : List ℕ → form.Test → Drawn → Drawn → Drawn
put_held orders t failed held =
    put_test t.at.path orders t.at.first.span t.constancy held.to failed.to held.points

-- the parts of a choice, from the last to the first
choice-points : (ps : List PlainPoint) (first test holds fails met : List Point) →
    added ps (first ++ (test ++ (holds ++ (fails ++ met))))
    ≡ added (added (added (added (added ps met) fails) holds) test) first
choice-points ps first test holds fails met =
    added-append ps first (test ++ (holds ++ (fails ++ met)))
    ∙ ap (λ qs. added qs first)
    (added-append ps test (holds ++ (fails ++ met))
    ∙ ap (λ qs. added qs test)
    (added-append ps holds (fails ++ met) ∙ ap (λ qs. added qs holds) (added-append ps fails met)))

-- copies --------------------------------------------------------------------------------------------------------------

abbrev copies_of : ℕ → List Passage → List PlainPoint → Copies
copies_of k passages ps =
    record { edges = map edge_drafted (order_edges k passages); points = added ps (points_of passages) }

-- evaluations ---------------------------------------------------------------------------------------------------------

mutual
  pub draw-passage : (orders : List ℕ) (e : Evaluation) (next : Way) (ps : List PlainPoint) →
      draw orders e (entering next.to ps) ≡ before_drawn (passage orders e next) ps
  draw-passage orders form.Nothing next ps = refl
  draw-passage orders (form.Does d) next ps = refl
  draw-passage orders (form.Then a b) next ps =
      let later = passage orders b next in
      let earlier = passage orders a later.enters in
      ap (draw orders a) (draw-passage orders b next ps)
      ∙ draw-passage orders a later.enters (added ps later.points)
      ∙ ap (entering earlier.enters.to) (sym (added-append ps earlier.points later.points))
  draw-passage orders (form.Call n function operands) next ps =
      let start = leads (place n.path orders Before) in
      let end = leads (place n.path orders After) in
      let first = passage orders operands start in
      let own = in_turn (passing start.to (Calls function) n.first end) (passing end.to Passes n.first next) in
      draw-passage orders operands start (added ps own.points)
      ∙ ap (entering first.enters.to) (sym (added-append ps first.points own.points))
  draw-passage orders (form.InAnyOrder n es) next ps =
      let copies = each_order orders 1 es next in
      let at = place n.path orders Split in
      let start = point at Passes n.first (order_edges 1 copies) in
      ap (put_split n.path orders n.first.span) (draw_orders-passages orders 1 es next ps)
      ∙ ap (λ ds. entering at (added ps ds)) (sym (all_in_turn-points start copies))
      ∙ ap (λ way. entering way.to (added ps (all_in_turn start copies).points))
      (sym (all_in_turn-enters start copies))
  draw-passage orders (form.Choice t e a b meeting) next ps =
      let at = place t.at.path orders Test in
      let meet = leads (place meeting.path orders After) in
      let met = passing meet.to Passes meeting.first next in
      let fails = passage orders b meet in
      let holds = passage orders a meet in
      let test = point at Passes t.at.first (either_way t.constancy holds.enters fails.enters) in
      let first = passage orders e (leads at) in
      let third = added ps met.points in
      let second = added third fails.points in
      let failed = draw-passage orders b meet third in
      ap (λ d. draw orders e (put_held orders t d (draw orders a (going_to meet.to d)))) failed
      ∙ ap (λ d. draw orders e (put_held orders t (before_drawn fails third) d)) (draw-passage orders a meet second)
      ∙ ap (λ es. draw orders e (entering at (added second holds.points ++ (tested orders t es ∷ []))))
      (test_edges-drafted t.constancy holds.enters fails.enters)
      ∙ draw-passage orders e (leads at)
      (added second holds.points ++
      (tested orders t (map edge_drafted (either_way t.constancy holds.enters fails.enters)) ∷ []))
      ∙ ap (entering first.enters.to)
      (sym (choice-points ps first.points test.points holds.points fails.points met.points))

  pub draw_orders-passages : (orders : List ℕ) (k : ℕ) (es : Orders) (next : Way) (ps : List PlainPoint) →
      draw_orders orders k es (entering next.to ps) ≡ copies_of k (each_order orders k es next) ps
  draw_orders-passages orders k form.NoOrders next ps = refl
  draw_orders-passages orders k (form.Order e es) next ps =
      let inner = orders ++ (k ∷ []) in
      let rest = each_order orders (suc k) es next in
      let first = passage inner e next in
      let others = copies_of (suc k) rest ps in
      ap (λ later. with_copy k (draw inner e (entering next.to later.points)) later)
      (draw_orders-passages orders (suc k) es next ps)
      ∙ ap (λ d. with_copy k d others) (draw-passage inner e next others.points)
      ∙ ap (λ qs. record { edges = edge_to (OrderLabel k) first.enters.to ∷ others.edges; points = qs })
      (sym (added-append ps first.points (points_of rest)))
