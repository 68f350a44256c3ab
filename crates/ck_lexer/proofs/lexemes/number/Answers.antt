use Rattle.std.proofs.Common.{sym}
use Rattle.std.proofs.lemmas.List.{length-take-le}
use Rattle.ck_lexer.proofs.FirstLexemes.{IsTokenOrFault-number, number-size, number-some}
use Rattle.ck_lexer.proofs.lexemes.number.Goals as goal

pub number_length-size-requires : goal.number_length-size-requires
number_length-size-requires c = number-some c.args.rest.now c.requires

pub slice_bounds-number_lexeme-end : goal.slice_bounds-number_lexeme-end
slice_bounds-number_lexeme-end c =
    sym (length-take-le c.number_length-size.result c.args.rest.now
    (number-size c.args.rest.now c.number_length-size.result
    (number-some c.args.rest.now c.requires) c.number_length-size.ensures))

pub returns : goal.returns
returns c = IsTokenOrFault-number c.args.rest.now c.number_length-size.result c.number_lexeme-lexeme.result c.requires
    c.number_length-size.ensures c.number_lexeme-lexeme.ensures
