use Rattle.std.proofs.Common.{◌≡◌, ◌≤◌, ℕ, ◌+◌, ◌-◌, length, vec_len}
use Rattle.ck_scopes.specs.Seen.{head}
use Rattle.ck_scopes.proofs.heads.reach.Given as goal

-- no number has changed
abbrev pub invariant-reaching : goal.invariant-reaching
invariant-reaching l = record {
  kept : (n : ℕ) → head l.numbers.items n ≡ head l.fn.numbers.items n;
  longer : length l.fn.numbers.items ≤ length l.numbers.items;
}

abbrev pub decreases-reaching : goal.decreases-reaching
decreases-reaching l = l.place + 1 - vec_len l.numbers
