use Rattle.std.proofs.Common.{◌<◌, subst, sym}
use Rattle.ck_tables.proofs.ProgramLemmas.{as_many_member_slots, member_slot_of_rows}
use Rattle.ck_tables.proofs.typed.Program.slot_of_member.Goals as goal

pub row-requires : goal.row-requires
row-requires c =
    let p = c.args.self.now in
    subst (λ k. c.args.id.0 < k) (sym (as_many_member_slots p.linked p.rows p.fitting)) c.requires

pub returns-clause-fits : goal.returns-clause-fits
returns-clause-fits c =
    let p = c.args.self.now in
    member_slot_of_rows p.linked p.rows c.args.id.0 c.row.result.now p.fitting c.row.ensures
