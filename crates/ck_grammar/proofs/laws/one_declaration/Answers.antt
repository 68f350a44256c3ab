use Rattle.ck_grammar.proofs.FilesComplete.{one_declaration}
use Rattle.ck_grammar.proofs.laws.one_declaration.Goals as goal

pub returns : goal.returns
returns c = one_declaration
