use Rattle.std.proofs.Common.{◌≡◌, Some, None, sym, ◌∙◌}
use Rattle.ck_lexer.specs.Lexemes.{pragma, marker, bad}
use Rattle.ck_lexer.specs.Scanning.{marker_of}
use Rattle.ck_lexer.proofs.OneMarker.{marker_of-complete, marker_of-sound}
use Rattle.ck_lexer.proofs.lexemes.directive.Goals as goal

pub returns-then-is_pragma : goal.returns-then-is_pragma
returns-then-is_pragma c = pragma (sym c.is_pragma.ensures ∙ c.if-is_pragma.true)

pub returns-in-Some : goal.returns-in-Some
returns-in-Some c =
    let m = c.in-Some.field-0 in
    marker m.number m.name.now (marker_of-sound c.args.line.now m.number m.name.now (sym c.in-Some.ensures))

pub returns-in-None : goal.returns-in-None
returns-in-None c =
    let none : None ≡ marker_of c.args.line.now = c.in-None.ensures in
    bad (sym c.is_pragma.ensures ∙ c.if-is_pragma.false) (λ number name is. let e : marker_of c.args.line.now ≡ Some
    (number, name) = marker_of-complete c.args.line.now number name is in absurd (cc))
