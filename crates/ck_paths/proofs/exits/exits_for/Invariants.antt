use Rattle.std.proofs.Common.{◌≤◌, ◌-◌, length, reverse}
use Rattle.ck_paths.specs.Citing.{ArePending}
use Rattle.ck_paths.proofs.exits.exits_for.Given as goal

-- the exits so far are the greatest of those that are cited
abbrev pub invariant-exits : goal.invariant-exits
invariant-exits l = record {
  few : length l.exits.items ≤ 4294967295;
  pending : ArePending l.graph l.found.places.items l.number (reverse l.exits.items) l.pending;
}

-- there are fewer than 2^32
abbrev pub decreases-exits : goal.decreases-exits
decreases-exits l = 4294967295 - length l.exits.items
