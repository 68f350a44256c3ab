use Rattle.std.specs.Prelude.{string_bytes}
use Rattle.ck_tables.proofs.NameLemmas.{stored_name, distinct_inserted}
use Rattle.ck_tables.proofs.names.add.Goals as goal

pub returns-clause-name : goal.returns-clause-name
returns-clause-name c =
    let stored = c.in_ok-number.ensures.stored in
    stored_name string_bytes c.insert_full.new.self.keys c.in_ok-number.number c.args.name stored.0 stored.1 stored.2

pub returns-clause-distinct : goal.returns-clause-distinct
returns-clause-distinct c =
    distinct_inserted string_bytes c.args.known.now.keys c.insert_full.new.self.keys c.args.name
    c.in_ok-number.ensures.keys c.requires
