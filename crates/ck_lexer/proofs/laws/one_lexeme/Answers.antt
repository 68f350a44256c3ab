use Rattle.ck_lexer.proofs.OneLexeme.{one_lexeme}
use Rattle.ck_lexer.proofs.laws.one_lexeme.Goals as goal

pub returns : goal.returns
returns c = one_lexeme
