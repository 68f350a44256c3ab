use Rattle.ck_prog.proofs.Scopes.{opening_shows}
use Rattle.ck_prog.proofs.laws.opening_shows.Goals as goal

pub returns : goal.returns
returns c = opening_shows
