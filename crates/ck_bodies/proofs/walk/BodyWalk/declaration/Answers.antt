use Rattle.std.proofs.Common.{◌≡◌, OnOk, sym, subst}
use Rattle.ck_prog.specs.TypedBodies.{Declaration, NoDeclared}
use Rattle.ck_prog.specs.TypedTrees.{NoParts}
use Rattle.ck_tables.specs.ExprTable.{no_token}
use Rattle.ck_tables.specs.Numbers.{numbers}
use Rattle.ck_tables.specs.Program.{with_initialisers}
use Rattle.ck_tables.specs.StmtTable.{plain_declaration}
use Rattle.ck_bodies.specs.DrawnStatements.{draw_declaration}
use Rattle.ck_bodies.specs.Walks.{tables, made}
use Rattle.ck_bodies.proofs.Rows.{read-row, declarators-fit}
use Rattle.ck_bodies.proofs.walk.BodyWalk.declaration.Goals as goal

pub written-requires : goal.written-requires
written-requires c =
    declarators-fit (numbers (tables c.args.self.now)) c.declaration-written.result.now
    c.declaration-written.ensures.fits

pub returns : goal.returns
returns c =
    let w = c.args.self.now in
    let l = tables w in
    let e =
    read-row (Declaration no_token NoParts NoDeclared) (plain_declaration (with_initialisers l))
    l.declarations.rows.items c.args.id.0 c.declaration-written.result.now c.declaration-written.ensures.row in
    subst (λ s. OnOk c.written.result (made w c.written.new.drawing
    ≡ draw_declaration c.args.path.now s (made w c.args.drawing.now))) (sym e) c.written.ensures
