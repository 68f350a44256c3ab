use Rattle.ck_lexer.proofs.OneMarker.{one_marker}
use Rattle.ck_lexer.proofs.laws.one_marker.Goals as goal

pub returns : goal.returns
returns c = one_marker
