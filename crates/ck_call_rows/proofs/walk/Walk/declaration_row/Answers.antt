use Rattle.ck_call_rows.proofs.Elements.{read-row}
use Rattle.ck_prog.specs.TypedBodies as bodies
use Rattle.ck_prog.specs.TypedTrees.{NoParts}
use Rattle.ck_tables.proofs.ProgramLemmas.{declaration_of_closed}
use Rattle.ck_tables.specs.ExprTable.{no_token}
use Rattle.ck_tables.specs.Program.{with_initialisers}
use Rattle.ck_tables.specs.StmtTable.{plain_declaration}
use Rattle.ck_call_rows.proofs.walk.Walk.declaration_row.Goals as goal

pub returns-clause-is : goal.returns-clause-is
returns-clause-is c =
    let l = c.args.self.now.linked.now in
    read-row (bodies.Declaration no_token NoParts bodies.NoDeclared) (plain_declaration (with_initialisers l))
    l.declarations.rows.items c.args.d.0 c.row.result.now c.row.ensures

pub returns-clause-fits : goal.returns-clause-fits
returns-clause-fits c =
    let w = c.args.self.now in
    declaration_of_closed w.linked.now c.args.d.0 c.row.result.now w.closed c.row.ensures
