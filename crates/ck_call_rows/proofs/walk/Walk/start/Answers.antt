use Rattle.std.proofs.Common.{ap}
use Rattle.ck_call_rows.proofs.Added.{adds_nothing}
use Rattle.ck_call_rows.specs.Walks.{tables, path_of}
use Rattle.ck_prog.specs.Calls.{calls_in_start}
use Rattle.ck_tables.specs.Program.{body_readings}
use Rattle.ck_tables.specs.StmtTable.{plain_start}
use Rattle.ck_call_rows.proofs.walk.Walk.start.Goals as goal

pub returns-in-Empty : goal.returns-in-Empty
returns-in-Empty c =
    let w = c.args.self.now in
    adds_nothing w _ _
    (ap (λ s. calls_in_start (path_of c.args.path.now) (plain_start (body_readings (tables w)) s)) c.in-Empty.is)
