use Rattle.ck_texts.proofs.OneText.{one_refusal}
use Rattle.ck_texts.proofs.laws.one_refusal.Goals as goal

pub returns : goal.returns
returns c = one_refusal
