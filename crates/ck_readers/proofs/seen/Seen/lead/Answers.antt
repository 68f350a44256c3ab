use Rattle.std.proofs.Common.{sym, ◌∙◌, ap}
use Rattle.ck_grammar.specs.Words.{lead}
use Rattle.ck_readers.proofs.Unspelled.{lead_unspelled}
use Rattle.ck_readers.proofs.seen.Seen.lead.Goals as goal

pub returns-in-Other : goal.returns-in-Other
returns-in-Other c word = rw c.in-Other.is (λ h. sym (ap lead h.1 ∙ lead_unspelled h.0 h.2))
