use Rattle.std.proofs.Common.{◌∙◌, ap, sym}
use Rattle.std.specs.Prelude.{slice_set, true}
use Rattle.ck_readers.proofs.NameLemmas.{any_name, types_unchanged, types_changed, found_name}
use Rattle.ck_readers.proofs.sources.add_type.Goals as goal

pub returns-in-None : goal.returns-in-None
returns-in-None c typedefs e =
    e ∙ types_unchanged _ c.args.name.now typedefs
    (sym (any_name (λ k. k.now) c.args.known.now.keys c.args.name.now) ∙ sym c.in-None.ensures.found)

pub returns-then-number-len : goal.returns-then-number-len
returns-then-number-len c typedefs e =
    ap (λ bs. slice_set bs c.in-Some.number true) e
    ∙ types_changed _ c.in-Some.number c.args.name.now typedefs c.requires
    (found_name (λ k. k.now) c.args.known.now.keys c.in-Some.number c.in-Some.field-0-1.now c.args.name.now
    (sym c.in-Some.ensures.key) c.in-Some.ensures.stored)
