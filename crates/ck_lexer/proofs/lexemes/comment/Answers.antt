use Rattle.ck_lexer.specs.Lexemes.{closed, open_}
use Rattle.ck_lexer.proofs.lexemes.comment.Goals as goal

pub returns-in-Some : goal.returns-in-Some
returns-in-Some c = closed c.in-Some.at c.in-Some.ensures.0 c.in-Some.ensures.1 c.in-Some.ensures.2

pub returns-in-None : goal.returns-in-None
returns-in-None c = open_ c.in-None.ensures
