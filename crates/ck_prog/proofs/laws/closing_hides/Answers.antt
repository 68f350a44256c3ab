use Rattle.ck_prog.proofs.Scopes.{closing_hides}
use Rattle.ck_prog.proofs.laws.closing_hides.Goals as goal

pub returns : goal.returns
returns c = closing_hides
