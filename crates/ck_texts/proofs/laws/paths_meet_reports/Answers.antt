use Rattle.ck_texts.proofs.InForm.{paths_meet}
use Rattle.ck_texts.proofs.laws.paths_meet_reports.Goals as goal

pub returns : goal.returns
returns c = paths_meet
