-- The points of an evaluation, put from the last to the first before what is drawn.
use Rattle.std.specs.Prelude.{ℕ, suc, List, [], ◌∷◌, ◌++◌}
use Rattle.ck_base.specs.declared.spans.Span.{Span}
use Rattle.ck_drafts.specs.Drafts.{PlainEdge}
use Rattle.ck_graph.specs.declared.points.Label.{Label}
use Rattle.ck_graph.specs.declared.points.Label.TheVariants.{Plain, True, False, Order as OrderLabel}
use Rattle.ck_passages.specs.Points.{PlainPoint, Drawn}
use Rattle.ck_points.specs.Evaluations as form
use Rattle.ck_points.specs.Evaluations.{Evaluation, Orders}
use Rattle.ck_points.specs.Places.{Split, Before, Test, After, Place, place, Happening, Passes, Calls}
use Rattle.ck_prog.specs.Declarations.{Entry}
use Rattle.ck_prog.specs.Paths.{Path}
use Rattle.ck_prog.specs.Senses.{Constancy, Known, is_zero}
use Rattle.std.specs.Prelude.{Option, if◌then◌else◌}

abbrev pub edge_to : Label → Place → PlainEdge
edge_to label to = record { label = label; to = to }

-- a point, which is entered next
abbrev pub put : Place → Happening → Span → List PlainEdge → List PlainPoint → Drawn
put at happening site edges ps =
    record {
      to = at;
      points = ps ++ (record { at = at; happening = happening; site = site; edges = edges } ∷ []);
    }

-- a point that leads to what was next
abbrev pub put_passing : Place → Happening → Span → Drawn → Drawn
put_passing at happening site d = put at happening site (edge_to Plain d.to ∷ []) d.points

-- what was next is another place
abbrev pub going_to : Place → Drawn → Drawn
going_to to d = record { to = to; points = d.points }

abbrev pub put_call : Path → List ℕ → Option Entry → Span → Drawn → Drawn
put_call π orders function site d =
    put_passing (place π orders Before) (Calls function) site (put_passing (place π orders After) Passes site d)

abbrev pub put_meeting : Path → List ℕ → Span → Drawn → Drawn
put_meeting π orders site d = put_passing (place π orders After) Passes site d

abbrev pub test_edges : Constancy → Place → Place → List PlainEdge
test_edges (Known v) holds fails = edge_to Plain (if is_zero (Known v) then fails else holds) ∷ []
test_edges _ holds fails = edge_to True holds ∷ edge_to False fails ∷ []

abbrev pub put_test : Path → List ℕ → Span → Constancy → Place → Place → List PlainPoint → Drawn
put_test π orders site constancy holds fails ps =
    put (place π orders Test) Passes site (test_edges constancy holds fails) ps

-- the copies of operands in their orders, and the edges to them
pub record Copies : Type 0 where
  pub edges : List PlainEdge
  pub points : List PlainPoint

abbrev pub put_split : Path → List ℕ → Span → Copies → Drawn
put_split π orders site c = put (place π orders Split) Passes site c.edges c.points

-- the next copy, which comes before the others
abbrev pub with_copy : ℕ → Drawn → Copies → Copies
with_copy k d later = record { edges = edge_to (OrderLabel k) d.to ∷ later.edges; points = d.points }

abbrev mutual
  pub draw : List ℕ → Evaluation → Drawn → Drawn
  draw orders form.Nothing d = d
  draw orders (form.Does deed) d = d
  draw orders (form.Then a b) d = draw orders a (draw orders b d)
  draw orders (form.Call n function operands) d = draw orders operands (put_call n.path orders function n.first.span d)
  draw orders (form.InAnyOrder n es) d = put_split n.path orders n.first.span (draw_orders orders 1 es d)
  draw orders (form.Choice t e a b meeting) d =
      let met = put_meeting meeting.path orders meeting.first.span d in
      let failed = draw orders b met in
      let held = draw orders a (going_to met.to failed) in
      draw orders e (put_test t.at.path orders t.at.first.span t.constancy held.to failed.to held.points)

  -- from the order of this number on
  pub draw_orders : List ℕ → ℕ → Orders → Drawn → Copies
  draw_orders orders k form.NoOrders d = record { edges = []; points = d.points }
  draw_orders orders k (form.Order e es) d =
      let later = draw_orders orders (suc k) es d in
      with_copy k (draw (orders ++ (k ∷ [])) e (record { to = d.to; points = later.points })) later
