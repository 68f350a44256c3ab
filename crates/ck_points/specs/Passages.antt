-- The points of an evaluation, with their edges. What is evaluated goes on with a way; each form says how it is
-- entered, and which points are in it.
use Rattle.std.specs.Prelude.{ℕ, suc, List, [], ◌∷◌, ◌++◌, Option, if◌then◌else◌}
use Rattle.ck_base.specs.declared.tokens.Token.{Token}
use Rattle.ck_graph.specs.declared.points.Label.TheVariants.{Plain, True, False, Order as OrderLabel}
use Rattle.ck_prog.specs.Declarations.{Entry}
use Rattle.ck_prog.specs.Senses.{Constancy, Known, is_zero}
use Rattle.ck_points.specs.Evaluations as form
use Rattle.ck_points.specs.Evaluations.{Deed, Node, Evaluation, Orders}
use Rattle.ck_points.specs.Places.{Split, Before, Test, After, Place, place, Happening, Passes, Calls, Point}
use Rattle.ck_points.specs.Places.{Way, Edge, leads, edge}

pub record Passage : Type 0 where
  pub enters : Way
  pub points : List Point

-- parts of passages --------------------------------------------------------------------------------------------------

abbrev pub nothing : Way → Passage
nothing next = record { enters = next; points = [] }

-- a deed is work of the edge that comes to it
abbrev pub deed : Deed → Way → Passage
deed d next = nothing (record { work = d ∷ next.work; to = next.to })

-- it is entered by the first of two
abbrev pub in_turn : Passage → Passage → Passage
in_turn a b = record { enters = a.enters; points = a.points ++ b.points }

abbrev pub all_in_turn : Passage → List Passage → Passage
all_in_turn a [] = a
all_in_turn a (b ∷ bs) = in_turn a (all_in_turn b bs)

abbrev pub point : Place → Happening → Token → List Edge → Passage
point at happening site edges =
    record {
      enters = leads at;
      points = record { place = at; happening = happening; site = site; edges = edges } ∷ [];
    }

-- a point with one plain edge
abbrev pub passing : Place → Happening → Token → Way → Passage
passing at happening site next = point at happening site (edge Plain next ∷ [])

-- a test leads two ways, or one where its value is known
abbrev pub either_way : Constancy → Way → Way → List Edge
either_way (Known v) holds fails = edge Plain (if is_zero (Known v) then fails else holds) ∷ []
either_way _ holds fails = edge True holds ∷ edge False fails ∷ []

-- forms --------------------------------------------------------------------------------------------------------------

-- the operands lead to the point before the call, whose one edge is taken when it returns
abbrev pub call : Node → List ℕ → Option Entry → Passage → Way → Passage
call n orders function operands next =
    in_turn operands
    (in_turn (passing (place n.path orders Before) (Calls function) n.first (leads (place n.path orders After)))
    (passing (place n.path orders After) Passes n.first next))

-- one edge for each order, from this number on
abbrev pub order_edges : ℕ → List Passage → List Edge
order_edges k [] = []
order_edges k (p ∷ ps) = edge (OrderLabel k) p.enters ∷ order_edges (suc k) ps

abbrev pub split : Node → List ℕ → List Passage → Passage
split n orders ps = all_in_turn (point (place n.path orders Split) Passes n.first (order_edges 1 ps)) ps

-- what is tested leads to the test, which leads to one of two; these meet in a point
abbrev pub choice : form.Test → List ℕ → Passage → Passage → Passage → Node → Way → Passage
choice t orders tested holds fails meeting next =
    all_in_turn tested
    (point (place t.at.path orders Test) Passes t.at.first (either_way t.constancy holds.enters fails.enters) ∷ holds
    ∷ fails ∷ passing (place meeting.path orders After) Passes meeting.first next ∷ [])

-- evaluations --------------------------------------------------------------------------------------------------------

abbrev mutual
  -- under operators of these orders
  pub passage : List ℕ → Evaluation → Way → Passage
  passage orders form.Nothing next = nothing next
  passage orders (form.Does d) next = deed d next
  passage orders (form.Then a b) next =
      let later = passage orders b next in in_turn (passage orders a later.enters) later
  passage orders (form.Call n function operands) next =
      call n orders function (passage orders operands (leads (place n.path orders Before))) next
  passage orders (form.InAnyOrder n es) next = split n orders (each_order orders 1 es next)
  passage orders (form.Choice t e a b meeting) next =
      let meet = leads (place meeting.path orders After) in
      choice t orders (passage orders e (leads (place t.at.path orders Test))) (passage orders a meet)
      (passage orders b meet) meeting next

  -- each order has its own copy of the operands
  pub each_order : List ℕ → ℕ → Orders → Way → List Passage
  each_order orders k form.NoOrders next = []
  each_order orders k (form.Order e es) next =
      passage (orders ++ (k ∷ [])) e next ∷ each_order orders (suc k) es next
