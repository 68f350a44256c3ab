use Rattle.std.proofs.Common.{Some, sym, subst}
use Rattle.ck_call_rows.specs.TypedRows.{declarations}
use Rattle.ck_slots.specs.Origins.{origin_of_member}
use Rattle.ck_tables.specs.Program.{member_of, readings}
use Rattle.ck_tables.specs.Readings.{plain_member}
use Rattle.ck_pointers.specs.ExpressionSources.{StandsAlways, tables}
use Rattle.ck_pointers.proofs.NameLemmas.{member_stands}
use Rattle.ck_pointers.proofs.expressions.Callables.member.Goals as goal

pub returns-in-Some : goal.returns-in-Some
returns-in-Some c =
    let s = c.args.self.now in
    let l = tables s in
    subst (λ m. StandsAlways s (origin_of_member (declarations l) (plain_member (readings l) m)) c.held.result)
    (sym c.in-Some.is)
    (subst (StandsAlways s (origin_of_member (declarations l) (Some (member_of l c.in-Some.member.0))))
    (sym c.held.ensures)
    (member_stands s c.requires.typed c.in-Some.member.0 c.slot_of_member.result c.slot_of_member.ensures.row
    c.slot_of_member.ensures.fits))
