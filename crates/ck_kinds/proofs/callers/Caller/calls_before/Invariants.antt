use Rattle.std.proofs.Common.{◌≤◌, ◌-◌, ℕ, Bool}
use Rattle.ck_kinds.specs.Callers.{IsRankOf}
use Rattle.ck_kinds.proofs.callers.Caller.calls_before.Given as goal

-- the number is between the two
abbrev pub invariant-search : goal.invariant-search
invariant-search l = record {
  most : l.high ≤ l.self.calls;
  between : (n : ℕ) (found : Bool) → IsRankOf l.self l.path n found → (l.low ≤ n) × (n ≤ l.high);
}

abbrev pub decreases-search : goal.decreases-search
decreases-search l = l.high - l.low
