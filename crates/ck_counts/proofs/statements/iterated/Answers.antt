use Rattle.std.proofs.Common.{◌+◌}
use Rattle.ck_points.specs.Functions.{status_in_start}
use Rattle.ck_tables.specs.Program.{body_readings}
use Rattle.ck_tables.specs.StmtTable.{plain_start, plain_expression}
use Rattle.ck_counts.specs.BodyPoints.{start_points, tested_points, stepped_points}
use Rattle.ck_counts.proofs.statements.iterated.Goals as goal

pub returns-clause-is : goal.returns-clause-is
returns-clause-is c n b body =
    let r = body_readings c.args.program.now.linked in
    let begun = plain_start r c.args.first.now in
    let test = tested_points (plain_expression r c.args.test) in
    let step = stepped_points (plain_expression r c.args.step) in
    let framed = c.and-around.ensures 2 (test + step) c.of.ensures
    (c.and.ensures test step c.in_ok-tested.ensures.is c.in_ok-stepped.ensures.is) in
    c.and-2.ensures (start_points begun) ((2 + (test + step)) + n) (status_in_start begun) b
    c.in_ok-begun.ensures.is (c.after.ensures (2 + (test + step)) n b framed body)
