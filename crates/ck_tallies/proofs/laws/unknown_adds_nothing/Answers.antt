use Rattle.ck_tallies.proofs.UnknownWords.{unknown_adds}
use Rattle.ck_tallies.proofs.laws.unknown_adds_nothing.Goals as goal

pub returns : goal.returns
returns c word tally unknown = unknown_adds word tally unknown
