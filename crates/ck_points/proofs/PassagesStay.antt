-- The edges of an evaluation lead to known places, where the places of its points and the way on are known.
use Rattle.std.specs.Prelude.{ℕ, suc, Bool, true, false, List, [], ◌∷◌, ◌++◌, if◌then◌else◌}
use Rattle.std.specs.List.{AllByRecursion as Each}
use Rattle.ck_prog.specs.Senses.{Constancy, Varying, Valueless, Known as KnownValue, is_zero}
use Rattle.ck_points.specs.Evaluations as form
use Rattle.ck_points.specs.Evaluations.{Evaluation, Orders}
use Rattle.ck_points.specs.Passages.{Passage, in_turn, all_in_turn, point, passing, either_way, order_edges, passage}
use Rattle.ck_points.specs.Passages.{each_order}
use Rattle.ck_points.specs.Places.{Split, Before, Test, After, Place, place, Passes, Way, Edge, leads}

-- lists ------------------------------------------------------------------------------------------------------------

pub each_append : {X : Type 0} (P : X → Type 0) (xs ys : List X) → Each P xs → Each P ys → Each P (xs ++ ys)
each_append P [] ys left right = right
each_append P (x ∷ xs) ys left right = (left.0, each_append P xs ys left.1 right)

pub each_left : {X : Type 0} (P : X → Type 0) (xs ys : List X) → Each P (xs ++ ys) → Each P xs
each_left P [] ys each = tt
each_left P (x ∷ xs) ys each = (each.0, each_left P xs ys each.1)

pub each_right : {X : Type 0} (P : X → Type 0) (xs ys : List X) → Each P (xs ++ ys) → Each P ys
each_right P [] ys each = each
each_right P (x ∷ xs) ys each = each_right P xs ys each.1

module _ (K : Place → Type 0) where
  -- the places of all points are known
  abbrev pub Known : Passage → Type 0
  Known p = Each (λ q. K q.place) p.points

  abbrev pub EdgesKnown : List Edge → Type 0
  EdgesKnown es = Each (λ e. K e.way.to) es

  -- it is entered at a known place, and its edges lead to known ones
  pub record Leads (p : Passage) : Type 0 where
    pub to : K p.enters.to
    pub edges : Each (λ q. EdgesKnown q.edges) p.points

  -- one after the other ----------------------------------------------------------------------------------------------

  pub known_first : (a b : Passage) → Known (in_turn a b) → Known a
  known_first a b known = each_left (λ q. K q.place) a.points b.points known

  pub known_second : (a b : Passage) → Known (in_turn a b) → Known b
  known_second a b known = each_right (λ q. K q.place) a.points b.points known

  pub both_lead : (a b : Passage) → Leads a → Leads b → Leads (in_turn a b)
  both_lead a b first second =
      record { to = first.to; edges = each_append (λ q. EdgesKnown q.edges) a.points b.points first.edges second.edges }

  pub known_of_all : (a : Passage) (bs : List Passage) → Known (all_in_turn a bs) → Known a
  known_of_all a [] known = known
  known_of_all a (b ∷ bs) known = known_first a (all_in_turn b bs) known

  pub known_in_all : (a : Passage) (bs : List Passage) → Known (all_in_turn a bs) → Each Known bs
  known_in_all a [] known = tt
  known_in_all a (b ∷ bs) known =
      let rest = known_second a (all_in_turn b bs) known in (known_of_all b bs rest, known_in_all b bs rest)

  pub all_lead : (a : Passage) (bs : List Passage) → Leads a → Each Leads bs → Leads (all_in_turn a bs)
  all_lead a [] first rest = first
  all_lead a (b ∷ bs) first rest = both_lead a (all_in_turn b bs) first (all_lead b bs rest.0 rest.1)

  -- edges ------------------------------------------------------------------------------------------------------------

  to_one_of : (b : Bool) (p q : Way) → K p.to → K q.to → K (if b then p else q).to
  to_one_of true p q left right = left
  to_one_of false p q left right = right

  pub two_ways : (c : Constancy) (holds fails : Way) → K holds.to → K fails.to → EdgesKnown (either_way c holds fails)
  two_ways (KnownValue v) holds fails left right =
      (to_one_of (is_zero (KnownValue v)) fails holds right left, tt)
  two_ways Varying holds fails left right = (left, (right, tt))
  two_ways Valueless holds fails left right = (left, (right, tt))

  order_edges_known : (k : ℕ) (ps : List Passage) → Each Leads ps → EdgesKnown (order_edges k ps)
  order_edges_known k [] each = tt
  order_edges_known k (p ∷ ps) each = (each.0.to, order_edges_known (suc k) ps each.1)

  -- evaluations ------------------------------------------------------------------------------------------------------

  mutual
    pub evaluation_leads : (orders : List ℕ) (e : Evaluation) (next : Way) → K next.to → Known (passage orders e next)
        → Leads (passage orders e next)
    evaluation_leads orders form.Nothing next on known = record { to = on; edges = tt }
    evaluation_leads orders (form.Does d) next on known = record { to = on; edges = tt }
    evaluation_leads orders (form.Then a b) next on known =
        let later = passage orders b next in
        let earlier = passage orders a later.enters in
        let second = evaluation_leads orders b next on (known_second earlier later known) in
        both_lead earlier later
        (evaluation_leads orders a later.enters second.to (known_first earlier later known)) second
    evaluation_leads orders (form.Call n function operands) next on known =
        let start = leads (place n.path orders Before) in
        let inside = passage orders operands start in
        let ends = each_right (λ q. K q.place) inside.points _ known in
        let first =
        evaluation_leads orders operands start ends.0 (each_left (λ q. K q.place) inside.points _ known) in
        record {
          to = first.to;
          edges =
              each_append (λ q. EdgesKnown q.edges) inside.points _ first.edges ((ends.1.0, tt), ((on, tt), tt));
        }
    evaluation_leads orders (form.InAnyOrder n es) next on known =
        let ps = each_order orders 1 es next in
        let start = point (place n.path orders Split) Passes n.first (order_edges 1 ps) in
        let each = orders_lead orders 1 es next on (known_in_all start ps known) in
        all_lead start ps
        (record { to = (known_of_all start ps known).0; edges = (order_edges_known 1 ps each, tt) }) each
    evaluation_leads orders (form.Choice t e a b meeting) next on known =
        let at = place t.at.path orders Test in
        let meet = leads (place meeting.path orders After) in
        let tested = passage orders e (leads at) in
        let holds = passage orders a meet in
        let fails = passage orders b meet in
        let parts =
        point at Passes t.at.first (either_way t.constancy holds.enters fails.enters) ∷ holds ∷ fails
        ∷ passing meet.to Passes meeting.first next ∷ [] in
        let rest = known_in_all tested parts known in
        let met = rest.1.1.1.0.0 in
        let first = evaluation_leads orders e (leads at) rest.0.0 (known_of_all tested parts known) in
        let left = evaluation_leads orders a meet met rest.1.0 in
        let right = evaluation_leads orders b meet met rest.1.1.0 in
        all_lead tested parts first (
          record { to = rest.0.0; edges = (two_ways t.constancy holds.enters fails.enters left.to right.to, tt) },
          (left, (right, (record { to = met; edges = ((on, tt), tt) }, tt))),
        )

    orders_lead : (orders : List ℕ) (k : ℕ) (es : Orders) (next : Way) → K next.to
        → Each Known (each_order orders k es next) → Each Leads (each_order orders k es next)
    orders_lead orders k form.NoOrders next on known = tt
    orders_lead orders k (form.Order e es) next on known =
        (evaluation_leads (orders ++ (k ∷ [])) e next on known.0, orders_lead orders (suc k) es next on known.1)
