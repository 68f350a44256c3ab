use Rattle.ck_lexer.proofs.OnePlace.{one_place}
use Rattle.ck_lexer.proofs.laws.one_place.Goals as goal

pub returns : goal.returns
returns c = one_place
