use Rattle.std.proofs.Common.{◌∙◌, ap}
use Rattle.ck_readers.specs.NameSet.{with_name}
use Rattle.ck_readers.proofs.NameLemmas.{names_inserted}
use Rattle.ck_readers.proofs.type_names.TypeNames.add.Goals as goal

pub returns-clause-added : goal.returns-clause-added
returns-clause-added c =
    names_inserted (λ k. k.items) c.self.inside.known.keys c.insert_full.new.self.keys c.in_ok-bytes.bytes
    c.in_ok-insert_full.ensures.keys
    ∙ ap (with_name _) (c.in_ok-bytes.ensures.items ∙ c.as_bytes.ensures.value)
    ∙ ap (λ names. with_name names c.args.name.now) c.self.view_is
