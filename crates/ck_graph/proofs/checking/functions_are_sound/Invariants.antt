use Rattle.std.proofs.Common.{ℕ, ◌<◌}
use Rattle.ck_graph.specs.Flow.{flow_of}
use Rattle.ck_graph.specs.Faults.{IsFunctionSound}
use Rattle.ck_graph.proofs.checking.functions_are_sound.Given as goal

-- the functions so far have no fault
abbrev pub invariant-loop-number : goal.invariant-loop-number
invariant-loop-number l = (n : ℕ) → n < l.number → IsFunctionSound (flow_of l.parts) n
