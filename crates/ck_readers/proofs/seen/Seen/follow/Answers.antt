use Rattle.std.proofs.Common.{sym, ◌∙◌, ap}
use Rattle.ck_grammar.specs.Words.{follow}
use Rattle.ck_readers.proofs.Unspelled.{follow_unspelled}
use Rattle.ck_readers.proofs.seen.Seen.follow.Goals as goal

pub returns-in-Other : goal.returns-in-Other
returns-in-Other c word = rw c.in-Other.is (λ h. sym (ap follow h.1 ∙ follow_unspelled h.0 h.2))
