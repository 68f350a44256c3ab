use Rattle.std.proofs.Common.{◌≡◌, ℕ, [], length}
use Rattle.ck_summary.specs.Solution.{lists_of, callers_at}
use Rattle.ck_summary.proofs.callers.no_callers.Given as goal

-- the lists so far, which are empty
abbrev pub invariant-functions : goal.invariant-functions
invariant-functions l = record {
  length : length l.callers.items ≡ l._function;
  none : (f : ℕ) → callers_at (lists_of l.callers.items) f ≡ [];
}
