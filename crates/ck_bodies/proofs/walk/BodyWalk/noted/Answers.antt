use Rattle.std.proofs.Common.{◌≡◌, ◌++◌, [], true, sym, ap, subst, ◌∙◌}
use Rattle.std.specs.List.{list_all}
use Rattle.ck_tables.specs.Numbers.{numbers, item_fits}
use Rattle.ck_tables.specs.Program.{body_readings}
use Rattle.ck_tables.specs.StmtTable.{items_of}
use Rattle.ck_bodies.specs.Noting.{notes_from, plain_notes}
use Rattle.ck_bodies.specs.Walks.{tables, statement}
use Rattle.ck_bodies.proofs.Rows.{body-items-fit}
use Rattle.ck_bodies.proofs.walk.BodyWalk.noted.Goals as goal

pub note_items-requires-clause-known : goal.note_items-requires-clause-known
note_items-requires-clause-known c =
    let n = numbers (tables c.args.self.now) in
    subst (λ xs. list_all (item_fits n) xs ≡ true) (sym c.as_slice.ensures.value)
    (body-items-fit n c.args.body.now c.requires)

pub returns-clause-notes : goal.returns-clause-notes
returns-clause-notes c =
    let l = tables c.args.self.now in
    c.in_ok-note_items.ensures.notes
    ∙ ap (λ xs. plain_notes l xs
    ++ notes_from true [] 0 (items_of (body_readings l) (statement l) c.as_slice.result.now))
    c.new-notes.ensures.items
    ∙ ap (λ xs. notes_from true [] 0 (items_of (body_readings l) (statement l) xs)) c.as_slice.ensures.value
