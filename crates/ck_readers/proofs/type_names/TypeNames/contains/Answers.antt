use Rattle.std.proofs.Common.{◌∙◌, ap}
use Rattle.ck_grammar.specs.Words.{is_one_of}
use Rattle.ck_readers.proofs.NameLemmas.{any_name}
use Rattle.ck_readers.proofs.type_names.TypeNames.contains.Goals as goal

pub returns : goal.returns
returns c =
    c.contains.ensures ∙ any_name (λ k. k.items) c.self.inside.known.keys c.args.name.now
    ∙ ap (λ names. is_one_of names c.args.name.now) c.self.view_is
