use Rattle.std.proofs.Common.{◌≡◌}
use Rattle.std.specs.Prelude.{map, ◌++◌}
use Rattle.ck_graph.specs.Flow.{point_of}
use Rattle.ck_numbering.specs.Numbered.{point_made}
use Rattle.ck_numbering.proofs.functions.add_points.Given as goal

abbrev pub invariant-drafts : goal.invariant-drafts
invariant-drafts l =
    map point_of l.points.items ≡ map point_of l.initial.points.items ++ map (point_made l.function) l.yielded
