use Rattle.std.proofs.Common.{arith}
use Rattle.std.proofs.lemmas.List.{length-map}
use Rattle.ck_tables.specs.ProgramRows.{call_of}
use Rattle.ck_kinds.proofs.drafting.drafts_of.Goals as goal

pub drafts-requires : goal.drafts-requires
drafts-requires c =
    let p = c.args.program.now in
    let long = length-map p.rows.calls.rows.items (call_of p.linked) in
    record { typed = c.requires.typed; count = grind (arith, long); there = c.requires.there }
