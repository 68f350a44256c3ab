use Rattle.ck_prog.proofs.Scopes.{means_open_entry}
use Rattle.ck_prog.proofs.laws.means_open_entry.Goals as goal

pub returns : goal.returns
returns c = means_open_entry
