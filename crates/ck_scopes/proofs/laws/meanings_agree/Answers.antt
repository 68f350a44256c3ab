use Rattle.ck_scopes.proofs.AgreementLemmas.{means_same}
use Rattle.ck_scopes.proofs.laws.meanings_agree.Goals as goal

pub returns : goal.returns
returns c = means_same
