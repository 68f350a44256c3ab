use Rattle.ck_texts.proofs.OneText.{one_report}
use Rattle.ck_texts.proofs.laws.one_report.Goals as goal

pub returns : goal.returns
returns c = one_report
