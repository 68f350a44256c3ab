use Rattle.std.proofs.Common.{◌<◌, take}
use Rattle.std.specs.List.{All}
use Rattle.ck_graph.specs.Flow.{flow_of, function_count}
use Rattle.ck_graph.proofs.checking.targets_are_functions.Given as goal

-- the targets so far are functions
abbrev pub invariant-loop-target : goal.invariant-loop-target
invariant-loop-target l = All (λ target. target.0 < function_count (flow_of l.parts)) (take l.target-index l.targets)
