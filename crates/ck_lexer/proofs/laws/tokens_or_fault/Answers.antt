use Rattle.ck_lexer.proofs.OneCut.{tokens_or_fault}
use Rattle.ck_lexer.proofs.laws.tokens_or_fault.Goals as goal

pub returns : goal.returns
returns c = tokens_or_fault
