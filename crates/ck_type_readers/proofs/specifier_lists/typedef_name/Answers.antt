use Rattle.std.proofs.Common.{refl, sym, ◌∙◌}
use Rattle.ck_type_readers.proofs.SpecifierSteps.{name_pushed, no_name}
use Rattle.ck_type_readers.proofs.specifier_lists.typedef_name.Goals as goal

pub returns-then-has_type : goal.returns-then-has_type
returns-then-has_type g c w tokens =
    no_name w c.args.token c.args.tally c.args.after (sym c.has_type.ensures ∙ c.if-has_type.true) (λ rest. refl)

pub returns : goal.returns
returns g c w tokens =
    rw c.with_named.ensures (name_pushed w c.args.token c.args.tally c.args.after
    (sym c.has_type.ensures ∙ c.if-has_type.false) c.in_ok-push_typedef_name.ensures)
