use Rattle.ck_grammar.proofs.FilesComplete.{one_statement}
use Rattle.ck_grammar.proofs.laws.one_statement.Goals as goal

pub returns : goal.returns
returns c = one_statement
