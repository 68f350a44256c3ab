use Rattle.std.proofs.Common.{sym, ◌∙◌, ap}
use Rattle.ck_grammar.specs.Words.{sort}
use Rattle.ck_readers.proofs.Unspelled.{sort_unspelled}
use Rattle.ck_readers.proofs.seen.Seen.sort.Goals as goal

pub returns-in-Other : goal.returns-in-Other
returns-in-Other c word = rw c.in-Other.is (λ h. sym (ap sort h.1 ∙ sort_unspelled h.0 h.2))
