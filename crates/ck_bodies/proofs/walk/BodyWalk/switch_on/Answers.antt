use Rattle.std.proofs.Common.{◌++◌, ◌∷◌, [], map, refl, ap, ◌∙◌}
use Rattle.std.specs.Prelude.{false}
use Rattle.ck_drafts.specs.Drafts.{plain_edge, plain_place, edge_drafted}
use Rattle.ck_passages.specs.Drawing.{draw}
use Rattle.ck_passages.specs.Operands.{tree}
use Rattle.ck_points.specs.Evaluations.{evaluation}
use Rattle.ck_points.specs.Labels.{marks, switch_edges}
use Rattle.ck_points.specs.Places.{Test, place, leads}
use Rattle.ck_prog.specs.TypedTrees.{facts}
use Rattle.ck_bodies.specs.Noting.{marked, notes, plain_notes}
use Rattle.ck_bodies.specs.Walks.{tables, made, statement}
use Rattle.ck_bodies.proofs.CaseEdges.{switched-drawn, switched_before-is}
use Rattle.ck_bodies.proofs.Noted.{marked-noted}
use Rattle.ck_bodies.proofs.walk.BodyWalk.switch_on.Goals as goal

pub returns : goal.returns
returns c =
    let w = c.args.self.now in
    let l = tables w in
    let π = c.args.path.now ++ (0 ∷ []) in
    let s_path = c.args.path.now ++ (1 ∷ []) in
    let x = tree l c.args.x.0 in
    let s = statement l c.args.body.0 in
    let past = plain_place c.args.past in
    let d = made w c.args.drawing.now in
    let here = c.as_slice-here.ensures.value ∙ c.in_ok-inside.ensures in
    let known = c.facts-known.ensures in
    let own = marked (plain_notes l c.as_slice-labels.result.now) in
    let found =
    ap (λ xs. marked (plain_notes l xs)) c.as_slice-labels.ensures.value
    ∙ ap marked
    (c.in_ok-note_part.ensures.notes ∙ ap (λ xs. plain_notes l xs ++ notes false s_path s) c.new-marks.ensures.items)
    ∙ marked-noted s_path s in
    switched_before-is π x (marks s_path s) past d.points d (made w c.evaluate.new.drawing) refl
    (switched-drawn π x (marks s_path s) past d.points (plain_place c.in_ok-at.at) c.facts-known.result.first.span
    (map plain_edge c.in_ok-edges.edges.items) (made w c.put.new.self) (made w c.evaluate.new.drawing)
    (c.in_ok-at.ensures ∙ ap (λ p. place p [] Test) here) (ap (λ f. f.first.span) known)
    (c.in_ok-edges.ensures
    ∙ ap (λ f. map edge_drafted (switch_edges f.sense.constancy own (leads past))) known
    ∙ ap (λ m. map edge_drafted (switch_edges (facts x).sense.constancy m (leads past))) found)
    (c.in_ok-put.ensures l)
    (c.in_ok-evaluate.ensures ∙ ap (λ p. draw [] (evaluation p x) (made w c.put.new.self)) here))
