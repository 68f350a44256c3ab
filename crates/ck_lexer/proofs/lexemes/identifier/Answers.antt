use Rattle.ck_lexer.proofs.FirstLexemes.{IsTokenOrFault-word}
use Rattle.ck_lexer.proofs.lexemes.identifier.Goals as goal

pub returns : goal.returns
returns c = IsTokenOrFault-word c.args.rest.now c.class_run-size.result c.identifier_lexeme-lexeme.result c.requires
    c.class_run-size.ensures c.identifier_lexeme-lexeme.ensures
