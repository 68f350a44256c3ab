use Rattle.std.proofs.Common.{sym}
use Rattle.std.proofs.lemmas.List.{length-take-le}
use Rattle.ck_lexer.proofs.FirstLexemes.{IsTokenOrFault-literal, IsTokenOrFault-unclosed, literal-size, literal-some}
use Rattle.ck_lexer.proofs.lexemes.literal.Goals as goal

pub literal_length-requires : goal.literal_length-requires
literal_length-requires c = literal-some c.args.rest.now c.requires

pub slice_bounds-literal_lexeme-end : goal.slice_bounds-literal_lexeme-end
slice_bounds-literal_lexeme-end c =
    sym (length-take-le c.in-Some.size c.args.rest.now (literal-size c.args.rest.now c.in-Some.size
    (literal-some c.args.rest.now c.requires) (sym c.in-Some.ensures)).0)

pub returns-in-Some : goal.returns-in-Some
returns-in-Some c = IsTokenOrFault-literal c.args.rest.now c.in-Some.size c.literal_lexeme-lexeme.result c.requires
    (sym c.in-Some.ensures) c.literal_lexeme-lexeme.ensures

pub returns-in-None : goal.returns-in-None
returns-in-None c = IsTokenOrFault-unclosed c.args.rest.now c.line_length.result c.requires
    (sym c.in-None.ensures) c.line_length.ensures
