use Rattle.std.proofs.Common.{◌≡◌, ◌+◌, ◌-◌, [], get_or, arith, ap, sym, ◌∙◌, subst}
use Rattle.ck_lexer.specs.Mapping.{IsLastBefore}
use Rattle.ck_lexer.specs.PlaceMaps.{names_of, name_on}
use Rattle.ck_lexer.proofs.LinesFound.{found_place}
use Rattle.ck_lexer.proofs.places.place.Goals as goal

pub returns : goal.returns
returns c = λ name bytes is within.
    let m = c.args.map.now in
    let line = c.last_before-line.result in
    let last : IsLastBefore m.lines.items c.args.offset line = subst
    (λ ls. IsLastBefore ls c.args.offset line) c.deref.ensures.value
    (c.last_before-line.ensures (rw c.deref.ensures.value is.order) (rw c.deref.ensures.value is.first)) in
    let found = found_place name bytes m c.args.offset line is within last in
    let column : c.args.offset - line.start + 1 ≡ c.saturating_add.result = omega (arith, is.small) in
    let named : name_on (names_of m.names.items) line ≡ c.name_at.result.now = sym
    (c.name_at.ensures ∙ ap (λ ns. get_or (names_of ns) line.name []) c.deref-2.ensures.value) in
    rw (sym column, sym named) found
