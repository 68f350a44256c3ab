use Rattle.std.proofs.Common.{◌≡◌, true, false, sym, ap, subst, ◌∙◌, append-nil}
use Rattle.ck_points.specs.Functions.{status_declared, status_in_declaration}
use Rattle.ck_prog.specs.TypedBodies.{Declaration, NoDeclared}
use Rattle.ck_prog.specs.TypedTrees.{NoParts}
use Rattle.ck_tables.specs.ExprTable.{no_token}
use Rattle.ck_tables.specs.Program.{with_initialisers, declaration_of}
use Rattle.ck_tables.specs.StmtTable.{declarators_of, plain_declaration}
use Rattle.ck_bodies.specs.Noting.{status_notes, plain_notes, AreNoted}
use Rattle.ck_bodies.specs.Walks.{tables}
use Rattle.ck_bodies.proofs.Rows.{read-row}
use Rattle.ck_bodies.proofs.walk.BodyWalk.note_declaration.Goals as goal

pub returns-in_ok-note-clause-notes : goal.returns-in_ok-note-clause-notes
returns-in_ok-note-clause-notes c =
    let l = tables c.args.self.now in
    let b = with_initialisers l in
    let e =
    read-row (Declaration no_token NoParts NoDeclared) (plain_declaration b) l.declarations.rows.items c.args.id.0
    c.declaration-written.result.now c.declaration-written.ensures.row in
    let flag : status_in_declaration (declaration_of l c.args.id.0) ≡ true =
    ap status_in_declaration e ∙ ap (λ ds. status_declared (declarators_of b ds)) (sym c.as_slice.ensures.value)
    ∙ sym (c.declares_status.ensures b) ∙ c.if-declares_status.true in
    subst (λ s. AreNoted l (status_notes s c.args.path.now) c.args.notes.now.items c.note.new.notes.items) (sym flag)
    c.in_ok-note.ensures.notes

pub returns-else-declares_status-clause-notes : goal.returns-else-declares_status-clause-notes
returns-else-declares_status-clause-notes c =
    let l = tables c.args.self.now in
    let b = with_initialisers l in
    let e =
    read-row (Declaration no_token NoParts NoDeclared) (plain_declaration b) l.declarations.rows.items c.args.id.0
    c.declaration-written.result.now c.declaration-written.ensures.row in
    let flag : status_in_declaration (declaration_of l c.args.id.0) ≡ false =
    ap status_in_declaration e ∙ ap (λ ds. status_declared (declarators_of b ds)) (sym c.as_slice.ensures.value)
    ∙ sym (c.declares_status.ensures b) ∙ c.if-declares_status.false in
    subst (λ s. AreNoted l (status_notes s c.args.path.now) c.args.notes.now.items c.args.notes.now.items) (sym flag)
    (sym (append-nil (plain_notes l c.args.notes.now.items)))
