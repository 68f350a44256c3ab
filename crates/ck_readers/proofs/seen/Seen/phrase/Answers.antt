use Rattle.std.proofs.Common.{sym, ◌∙◌, ap}
use Rattle.ck_grammar.specs.Phrases.{phrase}
use Rattle.ck_readers.proofs.Unspelled.{phrase_unspelled}
use Rattle.ck_readers.proofs.seen.Seen.phrase.Goals as goal

pub returns-in-Other : goal.returns-in-Other
returns-in-Other c word = rw c.in-Other.is (λ h. sym (ap phrase h.1 ∙ phrase_unspelled h.0 h.2))
