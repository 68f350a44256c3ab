use Rattle.std.proofs.Common.{◌≡◌, [], ◌∷◌, ◌++◌, sym, ap, subst, ◌∙◌}
use Rattle.std.specs.Prelude.{Some, None}
use Rattle.ck_drafts.specs.Drafts.{plain_place}
use Rattle.ck_passages.specs.Drawing.{draw}
use Rattle.ck_passages.specs.Operands.{tree}
use Rattle.ck_points.specs.Evaluations.{evaluation}
use Rattle.ck_tables.specs.Program.{body_readings}
use Rattle.ck_tables.specs.StmtTable.{plain_expression}
use Rattle.ck_bodies.specs.DrawnStatements.{joined, turned, decided_before, maybe_decided_before, maybe_evaluation}
use Rattle.ck_bodies.specs.DrawnStatements.{alone, test_entry, step_entry}
use Rattle.ck_bodies.specs.Walks.{tables, made}
use Rattle.ck_bodies.proofs.Apart.{alone-joined, decided-joined, evaluated-joined, test_entry-none, test_entry-some}
use Rattle.ck_bodies.proofs.Apart.{step_entry-none, step_entry-some}
use Rattle.ck_bodies.proofs.walk.BodyWalk.step_apart.Goals as goal

pub returns-in-None-clause-entry : goal.returns-in-None-clause-entry
returns-in-None-clause-entry c =
    let w = c.args.self.now in
    let π = c.args.path.now ++ (2 ∷ []) in
    let to = plain_place c.args.next in
    subst (λ o. (made w c.apart-apart.result).to ≡ step_entry π (plain_expression (body_readings (tables w)) o) to)
    (sym c.in-None.is) (ap (λ d. d.to) c.apart-apart.ensures ∙ step_entry-none π to)

pub returns-in-None-clause-joined : goal.returns-in-None-clause-joined
returns-in-None-clause-joined c = λ d.
    let w = c.args.self.now in
    let π = c.args.path.now ++ (2 ∷ []) in
    let to = plain_place c.args.next in
    subst (λ o. joined (made w c.apart-apart.result) d
    ≡ draw [] (maybe_evaluation π (plain_expression (body_readings (tables w)) o)) (turned to d)) (sym c.in-None.is)
    (ap (λ a. joined a d) c.apart-apart.ensures ∙ alone-joined to d)

pub returns-in_ok-evaluate_part-in-Some-clause-entry : goal.returns-in_ok-evaluate_part-in-Some-clause-entry
returns-in_ok-evaluate_part-in-Some-clause-entry c =
    let w = c.args.self.now in
    let π = c.args.path.now ++ (2 ∷ []) in
    let to = plain_place c.args.next in
    let x = tree (tables w) c.in-Some.x.0 in
    subst (λ o. (made w c.evaluate_part.new.drawing).to
    ≡ step_entry π (plain_expression (body_readings (tables w)) o) to) (sym c.in-Some.is)
    (ap (λ d. d.to) (c.in_ok-evaluate_part-in-Some.ensures ∙ ap (draw [] (evaluation π x)) c.apart-apart.ensures)
    ∙ step_entry-some π x to)

pub returns-in_ok-evaluate_part-in-Some-clause-joined : goal.returns-in_ok-evaluate_part-in-Some-clause-joined
returns-in_ok-evaluate_part-in-Some-clause-joined c = λ d.
    let w = c.args.self.now in
    let π = c.args.path.now ++ (2 ∷ []) in
    let to = plain_place c.args.next in
    let x = tree (tables w) c.in-Some.x.0 in
    subst (λ o. joined (made w c.evaluate_part.new.drawing) d
    ≡ draw [] (maybe_evaluation π (plain_expression (body_readings (tables w)) o)) (turned to d)) (sym c.in-Some.is)
    (ap (λ a. joined a d) (c.in_ok-evaluate_part-in-Some.ensures ∙ ap (draw [] (evaluation π x)) c.apart-apart.ensures)
    ∙ evaluated-joined (evaluation π x) to d)
