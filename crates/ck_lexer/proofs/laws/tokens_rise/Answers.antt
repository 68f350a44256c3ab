use Rattle.ck_lexer.proofs.Rising.{tokens-rise}
use Rattle.ck_lexer.proofs.laws.tokens_rise.Goals as goal

pub returns : goal.returns
returns c = tokens-rise
