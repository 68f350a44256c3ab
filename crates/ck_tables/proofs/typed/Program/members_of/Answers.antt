use Rattle.std.proofs.Common.{◌≡◌, ◌<◌, subst, sym}
use Rattle.std.specs.Prelude.{true}
use Rattle.ck_tables.specs.Numbers.{numbers}
use Rattle.ck_tables.specs.ProgramRows.{struct_members, members_fit}
use Rattle.ck_tables.specs.Rows.{IsRow}
use Rattle.ck_tables.proofs.ProgramLemmas.{as_many_structs, members_of_rows, struct_members_are}
use Rattle.ck_tables.proofs.typed.Program.members_of.Goals as goal

pub row-requires : goal.row-requires
row-requires c =
    let p = c.args.self.now in
    subst (λ k. c.args.id.0 < k) (sym (as_many_structs p.linked p.rows p.fitting)) c.requires

pub returns-clause-row : goal.returns-clause-row
returns-clause-row c =
    let r = c.args.self.now.rows in
    let i = c.args.id.0 in
    subst (IsRow (struct_members r) i) (sym c.as_slice.ensures.value)
    (struct_members_are r i c.row.result.now c.row.ensures)

pub returns-clause-fits : goal.returns-clause-fits
returns-clause-fits c =
    let p = c.args.self.now in
    subst (λ ms. members_fit (numbers p.linked) ms ≡ true) (sym c.as_slice.ensures.value)
    (members_of_rows p.linked p.rows c.args.id.0 c.row.result.now p.fitting c.row.ensures)
