use Rattle.std.proofs.Common.{◌≡◌, ℕ, ◌-◌, ◌<◌, ◌≤◌, false, length}
use Rattle.ck_lexer.specs.Lexemes.{closes_at}
use Rattle.ck_lexer.proofs.comments.comment_close.Given as goal

abbrev pub invariant-stars : goal.invariant-stars
invariant-stars l = record {
  begun : 2 ≤ l.at;
  none : (j : ℕ) → 2 ≤ j → j < l.at → closes_at l.rest j ≡ false;
}

abbrev pub decreases-stars : goal.decreases-stars
decreases-stars l = length l.rest - l.at
