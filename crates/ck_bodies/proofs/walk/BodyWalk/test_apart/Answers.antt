use Rattle.std.proofs.Common.{◌≡◌, [], ◌∷◌, ◌++◌, sym, ap, subst, ◌∙◌}
use Rattle.std.specs.Prelude.{Some, None}
use Rattle.ck_drafts.specs.Drafts.{plain_place}
use Rattle.ck_passages.specs.Drawing.{draw}
use Rattle.ck_passages.specs.Operands.{tree}
use Rattle.ck_points.specs.Evaluations.{evaluation}
use Rattle.ck_tables.specs.Program.{body_readings}
use Rattle.ck_tables.specs.StmtTable.{plain_expression}
use Rattle.ck_bodies.specs.DrawnStatements.{joined, turned, decided_before, maybe_decided_before, maybe_evaluation}
use Rattle.ck_bodies.specs.DrawnStatements.{alone, test_entry, step_entry}
use Rattle.ck_bodies.specs.Walks.{tables, made}
use Rattle.ck_bodies.proofs.Apart.{alone-joined, decided-joined, evaluated-joined, test_entry-none, test_entry-some}
use Rattle.ck_bodies.proofs.Apart.{step_entry-none, step_entry-some}
use Rattle.ck_bodies.proofs.walk.BodyWalk.test_apart.Goals as goal

pub returns-in-None-clause-entry : goal.returns-in-None-clause-entry
returns-in-None-clause-entry c =
    let w = c.args.self.now in
    let π = c.args.path.now ++ (c.args.step ∷ []) in
    let holds = plain_place c.args.holds in
    let fails = plain_place c.args.fails in
    subst (λ o. (made w c.apart-apart.result).to
    ≡ test_entry π (plain_expression (body_readings (tables w)) o) holds fails) (sym c.in-None.is)
    (ap (λ d. d.to) (c.apart-apart.ensures ∙ ap alone c.in_ok-next.ensures) ∙ test_entry-none π holds fails)

pub returns-in-None-clause-joined : goal.returns-in-None-clause-joined
returns-in-None-clause-joined c = λ d.
    let w = c.args.self.now in
    let π = c.args.path.now ++ (c.args.step ∷ []) in
    let holds = plain_place c.args.holds in
    let fails = plain_place c.args.fails in
    subst (λ o. joined (made w c.apart-apart.result) d
    ≡ maybe_decided_before π (plain_expression (body_readings (tables w)) o) holds fails d) (sym c.in-None.is)
    (ap (λ a. joined a d) (c.apart-apart.ensures ∙ ap alone c.in_ok-next.ensures) ∙ alone-joined holds d)

pub returns-in_ok-decide_part-in-Some-clause-entry : goal.returns-in_ok-decide_part-in-Some-clause-entry
returns-in_ok-decide_part-in-Some-clause-entry c =
    let w = c.args.self.now in
    let π = c.args.path.now ++ (c.args.step ∷ []) in
    let holds = plain_place c.args.holds in
    let fails = plain_place c.args.fails in
    let x = tree (tables w) c.in-Some.x.0 in
    subst (λ o. (made w c.decide_part.new.drawing).to
    ≡ test_entry π (plain_expression (body_readings (tables w)) o) holds fails) (sym c.in-Some.is)
    (ap (λ d. d.to)
    (c.in_ok-decide_part-in-Some.ensures
    ∙ ap (decided_before π x holds fails) (c.apart-apart.ensures ∙ ap alone c.in_ok-next.ensures))
    ∙ test_entry-some π x holds fails)

pub returns-in_ok-decide_part-in-Some-clause-joined : goal.returns-in_ok-decide_part-in-Some-clause-joined
returns-in_ok-decide_part-in-Some-clause-joined c = λ d.
    let w = c.args.self.now in
    let π = c.args.path.now ++ (c.args.step ∷ []) in
    let holds = plain_place c.args.holds in
    let fails = plain_place c.args.fails in
    let x = tree (tables w) c.in-Some.x.0 in
    subst (λ o. joined (made w c.decide_part.new.drawing) d
    ≡ maybe_decided_before π (plain_expression (body_readings (tables w)) o) holds fails d) (sym c.in-Some.is)
    (ap (λ a. joined a d)
    (c.in_ok-decide_part-in-Some.ensures
    ∙ ap (decided_before π x holds fails) (c.apart-apart.ensures ∙ ap alone c.in_ok-next.ensures))
    ∙ decided-joined π x holds fails holds d)
