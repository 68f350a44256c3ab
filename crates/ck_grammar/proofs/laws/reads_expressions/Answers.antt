use Rattle.ck_grammar.proofs.LongestAnswered.{reads_expressions}
use Rattle.ck_grammar.proofs.laws.reads_expressions.Goals as goal

pub returns : goal.returns
returns c = reads_expressions
