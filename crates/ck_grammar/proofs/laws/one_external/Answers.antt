use Rattle.ck_grammar.proofs.FilesComplete.{one_external}
use Rattle.ck_grammar.proofs.laws.one_external.Goals as goal

pub returns : goal.returns
returns c = one_external
