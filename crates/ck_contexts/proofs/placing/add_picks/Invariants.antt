use Rattle.std.proofs.Common.{◌≡◌, ◌≤◌, ◌+◌, ◌-◌, ◌*◌, ◌++◌}
use Rattle.ck_contexts.specs.Extended.{picks}
use Rattle.ck_contexts.proofs.placing.add_picks.Given as goal

-- the edges so far, and those to the parts from the k-th on, which end at or before the exit
abbrev pub invariant-loop-k : goal.invariant-loop-k
invariant-loop-k l = record {
  same :
      l.edges.items ++ picks l.at (l.k + 1) l.place l.size (l.functions - l.k)
      ≡ l.fn.edges.items ++ picks l.at 1 l.part l.size l.functions;
  within : l.at.first + (l.place + l.size * (l.functions - l.k)) ≤ l.at.exit;
}
