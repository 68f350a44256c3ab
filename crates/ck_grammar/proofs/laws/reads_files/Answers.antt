use Rattle.ck_grammar.proofs.FilesAnswered.{reads_files}
use Rattle.ck_grammar.proofs.laws.reads_files.Goals as goal

pub returns : goal.returns
returns c = reads_files
