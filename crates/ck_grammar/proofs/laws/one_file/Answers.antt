use Rattle.ck_grammar.proofs.FilesComplete.{one_file}
use Rattle.ck_grammar.proofs.laws.one_file.Goals as goal

pub returns : goal.returns
returns c = one_file
