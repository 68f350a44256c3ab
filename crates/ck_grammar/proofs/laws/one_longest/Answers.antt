use Rattle.ck_grammar.proofs.OneLongest.{one_longest}
use Rattle.ck_grammar.proofs.laws.one_longest.Goals as goal

pub returns : goal.returns
returns c = one_longest
