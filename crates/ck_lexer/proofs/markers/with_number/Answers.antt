use Rattle.std.proofs.Common.{ap, ◌∙◌, take}
use Rattle.std.specs.List.{list_all}
use Rattle.ck_base.specs.Characters.{is_digit}
use Rattle.ck_lexer.proofs.OneMarker.{prefix_all}
use Rattle.ck_lexer.proofs.markers.with_number.Goals as goal

pub small_value-number-requires-clause-digits : goal.small_value-number-requires-clause-digits
small_value-number-requires-clause-digits c =
    ap (λ n. list_all is_digit (take n c.args.text.now)) c.digits_length-length.ensures
    ∙ prefix_all is_digit c.args.text.now
