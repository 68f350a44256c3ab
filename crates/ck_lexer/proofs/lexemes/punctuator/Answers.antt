use Rattle.std.proofs.Common.{arith, sym, ◌∙◌}
use Rattle.std.proofs.Common.{◌≡◌}
use Rattle.ck_lexer.proofs.FirstLexemes.{IsTokenOrFault-mark, IsTokenOrFault-bad}
use Rattle.ck_lexer.proofs.lexemes.punctuator.Goals as goal

pub returns-then-size-gt0 : goal.returns-then-size-gt0
returns-then-size-gt0 c = IsTokenOrFault-mark c.args.rest.now c.punctuator_length-size.result c.requires.some
    c.requires.no_word c.requires.no_number c.requires.no_quote c.punctuator_length-size.ensures c.if-size-gt0.true

pub returns-else-size-gt0 : goal.returns-else-size-gt0
returns-else-size-gt0 c =
    let none : c.punctuator_length-size.result ≡ 0 = omega arith in
    IsTokenOrFault-bad c.args.rest.now c.requires.some c.requires.no_word c.requires.no_number c.requires.no_quote
    (sym c.punctuator_length-size.ensures ∙ none)
