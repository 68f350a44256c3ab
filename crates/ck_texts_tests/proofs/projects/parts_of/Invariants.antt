use Rattle.std.proofs.Common.{◌≤◌, ◌<◌, ◌^◌, vec_len}
use Rattle.std.specs.List.{All}
use Rattle.ck_graph.specs.declared.points.PointPart.{PointPart}
use Rattle.ck_texts_tests.proofs.projects.parts_of.Given as goal

abbrev pub invariant-loop-sketch : goal.invariant-loop-sketch
invariant-loop-sketch l = record {
  few : vec_len l.points ≤ 100;
  small : All (λ (part : PointPart). vec_len part.edges < 2 ^ 32) l.points.items;
}

abbrev pub invariant-loop-first : goal.invariant-loop-first
invariant-loop-first l = vec_len l.functions ≤ 100
