use Rattle.std.proofs.Common.{◌≡◌, ◌∷◌, [], map, sym, ap, subst, ◌∙◌}
use Rattle.ck_drafts.specs.Drafts.{plain_edge, plain_place, edge_drafted}
use Rattle.ck_graph.specs.declared.points.Label.TheVariants.{Plain}
use Rattle.ck_passages.specs.Drawing.{edge_to}
use Rattle.ck_points.specs.Labels.{default_way, switch_edges}
use Rattle.ck_points.specs.Places.{leads}
use Rattle.ck_tables.specs.Program.{value_of, readings}
use Rattle.ck_tables.specs.Readings.{plain_constancy}
use Rattle.ck_bodies.specs.Noting.{marked, plain_notes}
use Rattle.ck_bodies.specs.Walks.{tables}
use Rattle.ck_bodies.proofs.CaseEdges.{case_way-to}
use Rattle.ck_bodies.proofs.walk.BodyWalk.switch_edges.Goals as goal

pub returns-in_ok-one_edge-in-Known : goal.returns-in_ok-one_edge-in-Known
returns-in_ok-one_edge-in-Known c =
    let l = tables c.args.self.now in
    let ms = marked (plain_notes l c.args.marks.now) in
    let past = leads (plain_place c.args.past) in
    let otherwise = leads (plain_place c.in_ok-otherwise.otherwise) in
    subst (λ k. map plain_edge c.in_ok-one_edge-in-Known.field-0.items
    ≡ map edge_drafted (switch_edges (plain_constancy (readings l) k) ms past)) (sym c.in-Known.is)
    (c.in_ok-one_edge-in-Known.ensures
    ∙ ap (λ p. edge_to Plain p ∷ [])
    (c.in_ok-to-in-Known.ensures
    ∙ case_way-to (value_of l c.in-Known.value.0) ms otherwise (default_way ms past) c.in_ok-otherwise.ensures))
