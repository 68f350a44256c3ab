-- The points of an evaluation are at different places, where those of its parts are: also the copies for each order.
use Rattle.std.proofs.Common.{◌≡◌, sym, ◌∙◌, ap, arith}
use Rattle.std.specs.Prelude.{⊤, ◌≤◌, ℕ, suc, List, [], ◌∷◌, ◌++◌, refl}
use Rattle.std.specs.List.{AllByRecursion as Each}
use Rattle.ck_prog.specs.Paths.{Path}
use Rattle.ck_points.specs.Evaluations as form
use Rattle.ck_points.specs.Evaluations.{Evaluation, Orders}
use Rattle.ck_points.specs.Passages.{Passage, all_in_turn, point, passing, either_way, order_edges, passage, each_order}
use Rattle.ck_points.specs.Places.{Side, Split, Before, Test, After, place, Passes, Point, Way, leads}
use Rattle.ck_points.proofs.Apart.{Within, WithinAll, Differ, Misses, Disjoint, Apart, ApartAll}
use Rattle.ck_points.proofs.ExpressionsApart.{Between, From, deeper, steps_differ}
use Rattle.ck_points.proofs.PassagesStay.{each_append}

pub each_map : {X : Type 0} (P Q : X → Type 0) → ((x : X) → P x → Q x) → (xs : List X) → Each P xs → Each Q xs
each_map P Q f [] each = tt
each_map P Q f (x ∷ xs) each = (f x each.0, each_map P Q f xs each.1)

pub each_part : (P : Point → Type 0) (a : Passage) (bs : List Passage) → Each P a.points
    → Each (λ b. Each P b.points) bs → Each P (all_in_turn a bs).points
each_part P a [] first rest = first
each_part P a (b ∷ bs) first rest =
    each_append P a.points (all_in_turn b bs).points first (each_part P b bs rest.0 rest.1)

-- lists of points ----------------------------------------------------------------------------------------------------

abbrev pub Other : Point → Point → Type 0
Other q r = q.place ≡ r.place → ⊥

abbrev pub Distinct : List Point → Type 0
Distinct [] = ⊤
Distinct (q ∷ qs) = Each (Other q) qs × Distinct qs

-- no point of the second list is at a place of the first
abbrev pub Cross : List Point → List Point → Type 0
Cross ps qs = Each (λ r. Each (λ q. Other q r) ps) qs

pub distinct_append : (ps qs : List Point) → Distinct ps → Distinct qs → Cross ps qs → Distinct (ps ++ qs)
distinct_append [] qs left right cross = right
distinct_append (p ∷ ps) qs left right cross = (
  each_append (Other p) ps qs left.0
      (each_map (λ r. Each (λ q. Other q r) (p ∷ ps)) (Other p) (λ r each. each.0) qs cross),
  distinct_append ps qs left.1 right
      (each_map (λ r. Each (λ q. Other q r) (p ∷ ps)) (λ r. Each (λ q. Other q r) ps) (λ r each. each.1) qs cross),
)

abbrev CrossAll : Passage → List Passage → Type 0
CrossAll a bs = Each (λ b. Cross a.points b.points) bs

abbrev Pairs : List Passage → Type 0
Pairs [] = ⊤
Pairs (b ∷ bs) = CrossAll b bs × Pairs bs

all_distinct : (a : Passage) (bs : List Passage) → Distinct a.points → Each (λ b. Distinct b.points) bs → CrossAll a bs
    → Pairs bs → Distinct (all_in_turn a bs).points
all_distinct a [] first rest cross pairs = first
all_distinct a (b ∷ bs) first rest cross pairs =
    distinct_append a.points (all_in_turn b bs).points first (all_distinct b bs rest.0 rest.1 pairs.0 pairs.1)
    (each_part (λ r. Each (λ q. Other q r) a.points) b bs cross.0 cross.1)

-- paths, sides and orders --------------------------------------------------------------------------------------------

mutual
  pub points_within : (R : Path → Side → Type 0) (orders : List ℕ) (e : Evaluation) (next : Way) → Within R e
      → Each (λ q. R q.place.path q.place.side) (passage orders e next).points
  points_within R orders form.Nothing next h = tt
  points_within R orders (form.Does d) next h = tt
  points_within R orders (form.Then a b) next h =
      let later = passage orders b next in
      each_append (λ q. R q.place.path q.place.side) (passage orders a later.enters).points later.points
      (points_within R orders a later.enters h.0) (points_within R orders b next h.1)
  points_within R orders (form.Call n function e) next h =
      let start = leads (place n.path orders Before) in
      each_append (λ q. R q.place.path q.place.side) (passage orders e start).points _
      (points_within R orders e start h.2) (h.0, (h.1, tt))
  points_within R orders (form.InAnyOrder n es) next h =
      let ps = each_order orders 1 es next in
      each_part (λ q. R q.place.path q.place.side)
      (point (place n.path orders Split) Passes n.first (order_edges 1 ps)) ps (h.0, tt)
      (orders_within R orders 1 es next h.1)
  points_within R orders (form.Choice t e a b meeting) next h =
      let start = leads (place t.at.path orders Test) in
      let meet = leads (place meeting.path orders After) in
      let holds = passage orders a meet in
      let fails = passage orders b meet in
      each_part (λ q. R q.place.path q.place.side) (passage orders e start)
      (point start.to Passes t.at.first (either_way t.constancy holds.enters fails.enters) ∷ holds ∷ fails
      ∷ passing meet.to Passes meeting.first next ∷ []) (points_within R orders e start h.2) (
        (h.0, tt),
        (points_within R orders a meet h.3, (points_within R orders b meet h.4, ((h.1, tt), tt))),
      )

  orders_within : (R : Path → Side → Type 0) (orders : List ℕ) (k : ℕ) (es : Orders) (next : Way) → WithinAll R es
      → Each (λ p. Each (λ q. R q.place.path q.place.side) p.points) (each_order orders k es next)
  orders_within R orders k form.NoOrders next h = tt
  orders_within R orders k (form.Order e es) next h =
      (points_within R (orders ++ (k ∷ [])) e next h.0, orders_within R orders (suc k) es next h.1)

-- the orders of a point go on those of what it is in
record Extends (orders more : List ℕ) : Type 0 where
  rest : List ℕ
  is : more ≡ orders ++ rest

append_nil : (ns : List ℕ) → ns ≡ ns ++ []
append_nil [] = refl
append_nil (n ∷ ns) = ap (λ r. n ∷ r) (append_nil ns)

own_orders : (orders : List ℕ) → Extends orders orders
own_orders orders = record { rest = []; is = append_nil orders }

mutual
  points_extend : (orders : List ℕ) (e : Evaluation) (next : Way)
      → Each (λ q. Extends orders q.place.orders) (passage orders e next).points
  points_extend orders form.Nothing next = tt
  points_extend orders (form.Does d) next = tt
  points_extend orders (form.Then a b) next =
      let later = passage orders b next in
      each_append (λ q. Extends orders q.place.orders) (passage orders a later.enters).points later.points
      (points_extend orders a later.enters) (points_extend orders b next)
  points_extend orders (form.Call n function e) next =
      let start = leads (place n.path orders Before) in
      each_append (λ q. Extends orders q.place.orders) (passage orders e start).points _
      (points_extend orders e start) (own_orders orders, (own_orders orders, tt))
  points_extend orders (form.InAnyOrder n es) next =
      let ps = each_order orders 1 es next in
      each_part (λ q. Extends orders q.place.orders)
      (point (place n.path orders Split) Passes n.first (order_edges 1 ps)) ps (own_orders orders, tt)
      (copies_extend orders 1 es next)
  points_extend orders (form.Choice t e a b meeting) next =
      let start = leads (place t.at.path orders Test) in
      let meet = leads (place meeting.path orders After) in
      let holds = passage orders a meet in
      let fails = passage orders b meet in
      each_part (λ q. Extends orders q.place.orders) (passage orders e start)
      (point start.to Passes t.at.first (either_way t.constancy holds.enters fails.enters) ∷ holds ∷ fails
      ∷ passing meet.to Passes meeting.first next ∷ []) (points_extend orders e start) (
        (own_orders orders, tt),
        (points_extend orders a meet, (points_extend orders b meet, ((own_orders orders, tt), tt))),
      )

  copies_extend : (orders : List ℕ) (k : ℕ) (es : Orders) (next : Way)
      → Each (λ p. Each (λ q. Extends orders q.place.orders) p.points) (each_order orders k es next)
  copies_extend orders k form.NoOrders next = tt
  copies_extend orders k (form.Order e es) next = (
    each_map (λ q. Extends (orders ++ (k ∷ [])) q.place.orders) (λ q. Extends orders q.place.orders)
        (λ q x. record { rest = k ∷ x.rest; is = x.is ∙ deeper orders k x.rest })
        (passage (orders ++ (k ∷ [])) e next).points (points_extend (orders ++ (k ∷ [])) e next),
    copies_extend orders (suc k) es next,
  )

-- the copies for orders from one on
later_copies : (orders : List ℕ) (low k : ℕ) (es : Orders) (next : Way) → low ≤ k
    → Each (λ p. Each (λ q. From orders low q.place.orders) p.points) (each_order orders k es next)
later_copies orders low k form.NoOrders next le = tt
later_copies orders low k (form.Order e es) next le = (
  each_map (λ q. Extends (orders ++ (k ∷ [])) q.place.orders) (λ q. From orders low q.place.orders)
      (λ q x. record { step = k; rest = x.rest; at_least = le; is = x.is ∙ deeper orders k x.rest })
      (passage (orders ++ (k ∷ [])) e next).points (points_extend (orders ++ (k ∷ [])) e next),
  later_copies orders low (suc k) es next (omega (arith, le)),
)

-- different places ---------------------------------------------------------------------------------------------------

pub no_point_at : (orders : List ℕ) (e : Evaluation) (next : Way) (π : Path) (at : List ℕ) (r : Side) → Misses π r e
    → Each (λ q. q.place ≡ place π at r → ⊥) (passage orders e next).points
no_point_at orders e next π at r misses =
    each_map (λ q. Differ q.place.path q.place.side π r) (λ q. q.place ≡ place π at r → ⊥)
    (λ q d same. d (record { path = ap (λ p. p.path) same; side = ap (λ p. p.side) same }))
    (passage orders e next).points (points_within (λ ρ s. Differ ρ s π r) orders e next misses)

pub nor_there : (orders : List ℕ) (e : Evaluation) (next : Way) (π : Path) (at : List ℕ) (r : Side) → Misses π r e
    → Each (λ q. place π at r ≡ q.place → ⊥) (passage orders e next).points
nor_there orders e next π at r misses =
    each_map (λ q. q.place ≡ place π at r → ⊥) (λ q. place π at r ≡ q.place → ⊥) (λ q other same. other (sym same))
    (passage orders e next).points (no_point_at orders e next π at r misses)

-- a point, and those of an evaluation that misses it
after_point : (orders : List ℕ) (e : Evaluation) (next : Way) (q : Point) → Misses q.place.path q.place.side e
    → Cross (q ∷ []) (passage orders e next).points
after_point orders e next q misses =
    each_map (Other q) (λ r. Each (λ p. Other p r) (q ∷ [])) (λ r other. (other, tt)) (passage orders e next).points
    (nor_there orders e next q.place.path q.place.orders q.place.side misses)

disjoint_cross : (orders more : List ℕ) (a b : Evaluation) (next last : Way) → Disjoint a b
    → Cross (passage orders a next).points (passage more b last).points
disjoint_cross orders more a b next last disjoint =
    each_map (λ r. Misses r.place.path r.place.side a) (λ r. Each (λ q. Other q r) (passage orders a next).points)
    (λ r misses. no_point_at orders a next r.place.path r.place.orders r.place.side misses)
    (passage more b last).points (points_within (λ ρ s. Misses ρ s a) more b last disjoint)

before_after : (π ρ : Path) (orders more : List ℕ) → place π orders Before ≡ place ρ more After → ⊥
before_after π ρ orders more same = let e : Before ≡ After = ap (λ p. p.side) same in cc

test_after : (π ρ : Path) (orders more : List ℕ) → place π orders Test ≡ place ρ more After → ⊥
test_after π ρ orders more same = let e : Test ≡ After = ap (λ p. p.side) same in cc

copies_cross : (orders : List ℕ) (k : ℕ) (p : Passage) (bs : List Passage)
    → Each (λ q. Between orders k (suc k) q.place.orders) p.points
    → Each (λ b. Each (λ r. From orders (suc k) r.place.orders) b.points) bs → CrossAll p bs
copies_cross orders k p bs own later =
    each_map (λ b. Each (λ r. From orders (suc k) r.place.orders) b.points) (λ b. Cross p.points b.points)
    (λ b each.
    each_map (λ r. From orders (suc k) r.place.orders) (λ r. Each (λ q. Other q r) p.points)
    (λ r from.
    each_map (λ q. Between orders k (suc k) q.place.orders) (λ q. Other q r)
    (λ q between same.
    steps_differ orders k (suc k) (suc k) q.place.orders r.place.orders (omega arith) between from
    (ap (λ p. p.orders) same)) p.points own) b.points each) bs later

own_copy : (orders : List ℕ) (k : ℕ) (e : Evaluation) (next : Way)
    → Each (λ q. Between orders k (suc k) q.place.orders) (passage (orders ++ (k ∷ [])) e next).points
own_copy orders k e next =
    each_map (λ q. Extends (orders ++ (k ∷ [])) q.place.orders) (λ q. Between orders k (suc k) q.place.orders)
    (λ q x.
    record {
      step = k;
      rest = x.rest;
      at_least = omega arith;
      less = omega arith;
      is = x.is ∙ deeper orders k x.rest;
    }) (passage (orders ++ (k ∷ [])) e next).points (points_extend (orders ++ (k ∷ [])) e next)

mutual
  pub evaluation_distinct : (orders : List ℕ) (e : Evaluation) (next : Way) → Apart e
      → Distinct (passage orders e next).points
  evaluation_distinct orders form.Nothing next h = tt
  evaluation_distinct orders (form.Does d) next h = tt
  evaluation_distinct orders (form.Then a b) next h =
      let later = passage orders b next in
      distinct_append (passage orders a later.enters).points later.points
      (evaluation_distinct orders a later.enters h.0) (evaluation_distinct orders b next h.1)
      (disjoint_cross orders orders a b later.enters next h.2)
  evaluation_distinct orders (form.Call n function e) next h =
      let start = leads (place n.path orders Before) in
      distinct_append (passage orders e start).points _ (evaluation_distinct orders e start h.0)
      ((before_after n.path n.path orders orders, tt), (tt, tt))
      (no_point_at orders e start n.path orders Before h.1, (no_point_at orders e start n.path orders After h.2, tt))
  evaluation_distinct orders (form.InAnyOrder n es) next h =
      let ps = each_order orders 1 es next in
      let start = point (place n.path orders Split) Passes n.first (order_edges 1 ps) in
      all_distinct start ps (tt, tt) (copies_distinct n.path orders 1 es next h)
      (split_cross n.path orders 1 es next (record {
        place = place n.path orders Split;
        happening = Passes;
        site = n.first;
        edges = order_edges 1 ps;
      }) refl refl h)
      (copies_pairs orders 1 es next)
  evaluation_distinct orders (form.Choice t e a b meeting) next h =
      let start = leads (place t.at.path orders Test) in
      let meet = leads (place meeting.path orders After) in
      let holds = passage orders a meet in
      let fails = passage orders b meet in
      let es = either_way t.constancy holds.enters fails.enters in
      let test : Point = record { place = start.to; happening = Passes; site = t.at.first; edges = es } in
      let misses_test = h.2 in
      let misses_meet = h.3 in
      let disjoint = h.1 in
      all_distinct (passage orders e start)
      (point start.to Passes t.at.first es ∷ holds ∷ fails ∷ passing meet.to Passes meeting.first next ∷ [])
      (evaluation_distinct orders e start h.0.0) (
        (tt, tt),
        (evaluation_distinct orders a meet h.0.1, (evaluation_distinct orders b meet h.0.2, ((tt, tt), tt))),
      ) (
        (no_point_at orders e start t.at.path orders Test misses_test.0, tt),
        (
          disjoint_cross orders orders e a start meet disjoint.0,
          (
            disjoint_cross orders orders e b start meet disjoint.1,
            ((no_point_at orders e start meeting.path orders After misses_meet.0, tt), tt),
          ),
        ),
      ) (
        (
          after_point orders a meet test misses_test.1,
          (
            after_point orders b meet test misses_test.2,
            (((test_after t.at.path meeting.path orders orders, tt), tt), tt),
          ),
        ),
        (
          (
            disjoint_cross orders orders a b meet meet disjoint.2,
            ((no_point_at orders a meet meeting.path orders After misses_meet.1, tt), tt),
          ),
          (((no_point_at orders b meet meeting.path orders After misses_meet.2, tt), tt), (tt, tt)),
        ),
      )

  copies_distinct : (π : Path) (orders : List ℕ) (k : ℕ) (es : Orders) (next : Way) → ApartAll π es
      → Each (λ b. Distinct b.points) (each_order orders k es next)
  copies_distinct π orders k form.NoOrders next h = tt
  copies_distinct π orders k (form.Order e es) next h =
      (evaluation_distinct (orders ++ (k ∷ [])) e next h.0.0, copies_distinct π orders (suc k) es next h.1)

  split_cross : (π : Path) (orders : List ℕ) (k : ℕ) (es : Orders) (next : Way) (q : Point) → q.place.path ≡ π
      → q.place.side ≡ Split → ApartAll π es → Each (λ b. Cross (q ∷ []) b.points) (each_order orders k es next)
  split_cross π orders k form.NoOrders next q path side h = tt
  split_cross π orders k (form.Order e es) next q path side h = (
    each_map (λ r. Differ r.place.path r.place.side π Split) (λ r. Each (λ p. Other p r) (q ∷ []))
        (λ r d. (
          (λ same. d (record {
            path = sym (ap (λ p. p.path) same) ∙ path;
            side = sym (ap (λ p. p.side) same) ∙ side;
          })),
          tt,
        )) (passage (orders ++ (k ∷ [])) e next).points
        (points_within (λ ρ s. Differ ρ s π Split) (orders ++ (k ∷ [])) e next h.0.1),
    split_cross π orders (suc k) es next q path side h.1,
  )

  copies_pairs : (orders : List ℕ) (k : ℕ) (es : Orders) (next : Way) → Pairs (each_order orders k es next)
  copies_pairs orders k form.NoOrders next = tt
  copies_pairs orders k (form.Order e es) next = (
    copies_cross orders k (passage (orders ++ (k ∷ [])) e next) (each_order orders (suc k) es next)
        (own_copy orders k e next) (later_copies orders (suc k) (suc k) es next (omega arith)),
    copies_pairs orders (suc k) es next,
  )
