use Rattle.std.proofs.Common.{◌≡◌, [], true, sym, ap, subst, ◌∙◌}
use Rattle.std.specs.List.{list_all}
use Rattle.ck_tables.specs.Numbers.{numbers, item_fits}
use Rattle.ck_tables.specs.Program.{body_readings}
use Rattle.ck_tables.specs.StmtTable.{items_of}
use Rattle.ck_bodies.specs.DrawnFunctions.{out_of_body, inside}
use Rattle.ck_bodies.specs.DrawnStatements.{draw_items}
use Rattle.ck_bodies.specs.Noting.{named, plain_notes}
use Rattle.ck_bodies.specs.Walks.{tables, made, statement}
use Rattle.ck_bodies.proofs.Rows.{body-items-fit}
use Rattle.ck_bodies.proofs.walk.BodyWalk.inside.Goals as goal

pub items-requires-clause-known : goal.items-requires-clause-known
items-requires-clause-known c =
    let n = numbers (tables c.args.self.now) in
    subst (λ xs. list_all (item_fits n) xs ≡ true) (sym c.as_slice.ensures.value)
    (body-items-fit n c.args.body.now c.requires.fits)

pub returns : goal.returns
unfolding inside
returns c =
    let w = c.args.self.now in
    let l = tables w in
    let ls = named (plain_notes l c.args.labels.now.notes.items) in
    let d = made w c.args.drawing.now in
    c.in_ok-items.ensures
    ∙ ap (λ p. draw_items (out_of_body ls p) [] 0
    (items_of (body_readings l) (statement l) c.as_slice.result.now) d) c.in_ok-out.ensures
    ∙ ap (λ xs. draw_items (out_of_body ls d.to) [] 0 (items_of (body_readings l) (statement l) xs) d)
    c.as_slice.ensures.value
