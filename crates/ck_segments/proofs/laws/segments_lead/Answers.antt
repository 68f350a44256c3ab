use Rattle.ck_segments.proofs.Fitting.{lead}
use Rattle.ck_segments.proofs.laws.segments_lead.Goals as goal

pub returns : goal.returns
returns c = lead
