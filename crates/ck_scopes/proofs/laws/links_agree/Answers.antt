use Rattle.ck_scopes.proofs.AgreementLemmas.{one_with_same}
use Rattle.ck_scopes.proofs.laws.links_agree.Goals as goal

pub returns : goal.returns
returns c = one_with_same
