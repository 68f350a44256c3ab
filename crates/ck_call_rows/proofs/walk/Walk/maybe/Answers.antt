use Rattle.std.proofs.Common.{[], ◌∷◌, ◌++◌, ap}
use Rattle.ck_call_rows.proofs.Added.{adds_nothing}
use Rattle.ck_call_rows.specs.Walks.{tables, path_of}
use Rattle.ck_prog.specs.Calls.{calls_in_maybe}
use Rattle.ck_tables.specs.Program.{body_readings}
use Rattle.ck_tables.specs.StmtTable.{plain_expression}
use Rattle.ck_call_rows.proofs.walk.Walk.maybe.Goals as goal

pub returns-in-None : goal.returns-in-None
returns-in-None c =
    let w = c.args.self.now in
    let π = path_of c.args.path.now ++ (c.args.step ∷ []) in
    adds_nothing w _ _ (ap (λ o. calls_in_maybe π (plain_expression (body_readings (tables w)) o)) c.in-None.is)
