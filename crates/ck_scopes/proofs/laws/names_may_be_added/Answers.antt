use Rattle.ck_scopes.proofs.AgreementLemmas.{entries_still, linked_still}
use Rattle.ck_scopes.proofs.laws.names_may_be_added.Goals as goal

pub returns : goal.returns
returns c = record { entries = entries_still; linked = linked_still }
