use Rattle.ck_segments.proofs.Moving.{follow}
use Rattle.ck_segments.proofs.laws.moves_follow.Goals as goal

pub returns : goal.returns
returns c = follow
