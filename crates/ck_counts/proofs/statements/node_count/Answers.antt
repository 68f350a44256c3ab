use Rattle.std.proofs.Common.{◌+◌, refl, subst}
use Rattle.std.specs.Prelude.{◌||◌}
use Rattle.ck_points.specs.Functions.{status_in, status_in_start, status_in_statement}
use Rattle.ck_tables.specs.Program.{body_readings}
use Rattle.ck_tables.specs.StmtTable.{statement_at, items_of, plain_start, plain_expression}
use Rattle.ck_counts.specs.BodyPoints.{expression_points, statement_points, items_points, start_points}
use Rattle.ck_counts.specs.BodyPoints.{tested_points, stepped_points}
use Rattle.ck_counts.specs.Weights.{IsCounted, tree}
use Rattle.ck_counts.proofs.Outcomes.{counted_from}
use Rattle.ck_counts.proofs.TableWeights.{statement_node}
use Rattle.ck_counts.proofs.statements.node_count.Goals as goal

pub returns-in_ok-inside-in-Block-clause-is : goal.returns-in_ok-inside-in-Block-clause-is
returns-in_ok-inside-in-Block-clause-is c =
    let l = c.args.program.now.linked in
    let b = body_readings l in
    let f = statement_at b l.stmts in
    let are =
    subst (λ is. IsCounted c.in_ok-inside-in-Block.inside (items_points (items_of b f is))
    (status_in (items_of b f is)))
    c.as_slice.ensures.value c.in_ok-inside-in-Block.ensures.are in
    statement_node l c.after.result c.args.node.now _ c.in-Block.is
    (c.after.ensures 2 (items_points (items_of b f c.in-Block.row.items))
    (status_in (items_of b f c.in-Block.row.items))
    c.of.ensures are)

pub returns-in-Empty-clause-is : goal.returns-in-Empty-clause-is
returns-in-Empty-clause-is c =
    statement_node c.args.program.now.linked c.plain.result c.args.node.now _ c.in-Empty.is
    (c.plain.ensures 2 c.of-in-Empty.ensures)

pub returns-in-Goto-clause-is : goal.returns-in-Goto-clause-is
returns-in-Goto-clause-is c =
    statement_node c.args.program.now.linked c.plain-in-Goto.result c.args.node.now _ c.in-Goto.is
    (c.plain-in-Goto.ensures 2 c.of-in-Goto.ensures)

pub returns-in-Jump-clause-is : goal.returns-in-Jump-clause-is
returns-in-Jump-clause-is c =
    statement_node c.args.program.now.linked c.plain-in-Jump.result c.args.node.now _ c.in-Jump.is
    (c.plain-in-Jump.ensures 2 c.of-in-Jump.ensures)

pub returns-in-Return-clause-is : goal.returns-in-Return-clause-is
returns-in-Return-clause-is c =
    statement_node c.args.program.now.linked c.plain-in-Return.result c.args.node.now _ c.in-Return.is
    (c.plain-in-Return.ensures 2 c.of-in-Return.ensures)

pub returns-in-Case-clause-is : goal.returns-in-Case-clause-is
returns-in-Case-clause-is c =
    statement_node c.args.program.now.linked c.labelled.result c.args.node.now _ c.in-Case.is c.labelled.ensures

pub returns-in-Default-clause-is : goal.returns-in-Default-clause-is
returns-in-Default-clause-is c =
    statement_node c.args.program.now.linked c.labelled-in-Default.result c.args.node.now _ c.in-Default.is
    c.labelled-in-Default.ensures

pub returns-in-Label-clause-is : goal.returns-in-Label-clause-is
returns-in-Label-clause-is c =
    statement_node c.args.program.now.linked c.labelled-in-Label.result c.args.node.now _ c.in-Label.is
    c.labelled-in-Label.ensures

pub returns-in-If-clause-is : goal.returns-in-If-clause-is
returns-in-If-clause-is c =
    let l = c.args.program.now.linked in
    let s = statement_at (body_readings l) l.stmts c.in-If.s.0 in
    let own = 3 + expression_points (tree l c.in-If.test.0) in
    counted_from l c.controlled.result c.args.node.now _ c.part.result (λ n. own + n) (λ b. b) (statement_points s)
    (status_in_statement s) c.in-If.is c.part.ensures refl refl c.controlled.ensures.is

pub returns-in-Switch-clause-is : goal.returns-in-Switch-clause-is
returns-in-Switch-clause-is c =
    let l = c.args.program.now.linked in
    let s = statement_at (body_readings l) l.stmts c.in-Switch.body.0 in
    let own = 3 + expression_points (tree l c.in-Switch.value.0) in
    counted_from l c.controlled-in-Switch.result c.args.node.now _ c.part-in-Switch.result (λ n. own + n) (λ b. b)
    (statement_points s)
    (status_in_statement s) c.in-Switch.is c.part-in-Switch.ensures refl refl c.controlled-in-Switch.ensures.is

pub returns-in-While-clause-is : goal.returns-in-While-clause-is
returns-in-While-clause-is c =
    let l = c.args.program.now.linked in
    let s = statement_at (body_readings l) l.stmts c.in-While.body.0 in
    let own = 3 + expression_points (tree l c.in-While.test.0) in
    counted_from l c.controlled-in-While.result c.args.node.now _ c.part-in-While.result (λ n. own + n) (λ b. b)
    (statement_points s)
    (status_in_statement s) c.in-While.is c.part-in-While.ensures refl refl c.controlled-in-While.ensures.is

pub returns-in-Do-clause-is : goal.returns-in-Do-clause-is
returns-in-Do-clause-is c =
    let l = c.args.program.now.linked in
    let s = statement_at (body_readings l) l.stmts c.in-Do.body.0 in
    let own = 3 + expression_points (tree l c.in-Do.test.0) in
    counted_from l c.controlled-in-Do.result c.args.node.now _ c.part-in-Do.result (λ n. own + n) (λ b. b)
    (statement_points s)
    (status_in_statement s) c.in-Do.is c.part-in-Do.ensures refl refl c.controlled-in-Do.ensures.is

pub returns-in-IfElse-clause-is : goal.returns-in-IfElse-clause-is
returns-in-IfElse-clause-is c =
    let l = c.args.program.now.linked in
    let f = statement_at (body_readings l) l.stmts in
    let s = f c.in-IfElse.s.0 in
    let t = f c.in-IfElse.otherwise.0 in
    let own = 3 + expression_points (tree l c.in-IfElse.test.0) in
    let both =
    c.and.ensures (statement_points s) (statement_points t) (status_in_statement s) (status_in_statement t)
    c.part-first.ensures c.part-second.ensures in
    counted_from l c.controlled-in-IfElse.result c.args.node.now _ c.and.result (λ n. own + n) (λ b. b)
    (statement_points s + statement_points t) (status_in_statement s || status_in_statement t) c.in-IfElse.is both
    refl refl c.controlled-in-IfElse.ensures.is

pub returns-in-For-clause-is : goal.returns-in-For-clause-is
returns-in-For-clause-is c =
    let l = c.args.program.now.linked in
    let r = body_readings l in
    let s = statement_at r l.stmts c.in-For.body.0 in
    let begun = plain_start r c.in-For.first in
    let own =
    2 + (tested_points (plain_expression r c.in-For.test) + stepped_points (plain_expression r c.in-For.step)) in
    counted_from l c.iterated.result c.args.node.now _ c.part-in-For.result (λ n. start_points begun + (own + n))
    (λ b. status_in_start begun || b) (statement_points s) (status_in_statement s) c.in-For.is c.part-in-For.ensures
    refl refl c.iterated.ensures.is
