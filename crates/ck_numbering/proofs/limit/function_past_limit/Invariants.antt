use Rattle.std.proofs.Common.{◌≡◌, ◌≤◌}
use Rattle.std.specs.Prelude.{List, drop}
use Rattle.ck_points.specs.Graphs.{most_points, passing_limit, passing_from}
use Rattle.ck_prog.specs.TypedBodies.{TypedFunction}
use Rattle.ck_numbering.specs.Counts.{AreCounts}
use Rattle.ck_numbering.proofs.limit.function_past_limit.Given as goal

abbrev pub invariant-counts : goal.invariant-counts
invariant-counts l =
    (l.sum ≤ most_points)
    × ((fs : List TypedFunction) → AreCounts fs l.counts
    → passing_limit fs ≡ passing_from l.sum (drop l.number fs))
