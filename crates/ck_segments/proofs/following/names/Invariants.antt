use Rattle.std.proofs.Common.{◌≡◌, drop}
use Rattle.ck_graph.specs.Walk.{names_target}
use Rattle.ck_segments.proofs.following.names.Given as goal

-- it is named exactly where it is among those that are left
abbrev pub invariant-loop-f : goal.invariant-loop-f
invariant-loop-f l = names_target l.targets l.target.0 ≡ names_target (drop l.f-index l.targets) l.target.0
