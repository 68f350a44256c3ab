use Rattle.std.proofs.Common.{sym, ◌∙◌}
use Rattle.ck_conversions.proofs.CommonTypes.{of_two}
use Rattle.ck_conversions.specs.Parts.{type_in}
use Rattle.ck_conversions.proofs.common.common_integer.Goals as goal

pub returns : goal.returns
returns c = λ identity.
    let ns = c.args.types.now in
    of_two (type_in identity ns c.args.a) (type_in identity ns c.args.b) c.in-Some.one c.in-Some-integer_of.other
    c.common.result (sym c.in-Some.is ∙ c.integer_of.ensures identity)
    (sym c.in-Some-integer_of.is ∙ c.integer_of-2.ensures identity) c.common.ensures
