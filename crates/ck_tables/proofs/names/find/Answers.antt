use Rattle.std.proofs.Common.{sym}
use Rattle.std.specs.Prelude.{string_bytes}
use Rattle.ck_tables.proofs.NameLemmas.{found_name}
use Rattle.ck_tables.proofs.names.find.Goals as goal

pub returns-in-Some : goal.returns-in-Some
returns-in-Some c =
    found_name string_bytes c.args.known.now.keys c.in-Some.number c.in-Some.field-0-1.now c.args.text.now
    (sym c.in-Some.ensures.key) c.in-Some.ensures.stored
