use Rattle.std.proofs.Common.{◌≡◌, ◌<◌, ◌+◌, [], ◌∷◌, true, length, drop, sym, ap, subst, ◌∙◌, arith}
use Rattle.std.specs.Prelude.{nat_eq}
use Rattle.indexmap.specs.IndexMap.{get}
use Rattle.ck_tables.specs.NameList.{AreDistinct}
use Rattle.ck_tables.specs.Numbers.{numbers}
use Rattle.ck_bodies.specs.Noting.{noted_fits, note_fits, Finds}
use Rattle.ck_bodies.specs.declared.notes.Noted.TheVariants as made
use Rattle.ck_bodies.proofs.Names.{finds-label}
use Rattle.ck_bodies.proofs.Rows.{drop-next, get-next, fits-at}
use Rattle.ck_bodies.proofs.labels.put_note.Goals as goal

pub returns-in_ok-insert-in-Label : goal.returns-in_ok-insert-in-Label
returns-in_ok-insert-in-Label c =
    let l = c.args.program.now.linked in
    let all = c.args.notes.now in
    let at = c.args.at in
    let n = c.index-notes-at.result in
    let name = c.in-Label.name in
    let later = drop (at + 1) all in
    let e : drop at all ≡ n ∷ later = drop-next all at n c.requires.within c.index-notes-at.is in
    let label : n.noted ≡ made.Label name = ap (λ x. x.noted) c.index-notes-at.is ∙ c.in-Label.is in
    let fits : noted_fits (numbers l) n.noted ≡ true =
    fits-at (note_fits (numbers l)) all at n c.requires.fit c.requires.within c.index-notes-at.is in
    let own = subst (λ x. noted_fits (numbers l) x ≡ true) label fits in
    let known : name.0 < length l.names = grind (arith, own) in
    let distinct = subst (λ t. AreDistinct t.names) c.linked.ensures c.name-name.ensures.distinct in
    subst (λ ns. Finds l all ns (get nat_eq c.insert.new.self)) (sym e)
    (finds-label l all at n name later (get nat_eq c.args.first.now) (get nat_eq c.insert.new.self)
    (get-next all at n c.requires.within c.index-notes-at.is) label known distinct
    c.in_ok-insert-in-Label.ensures.updates.0 c.requires.later)
