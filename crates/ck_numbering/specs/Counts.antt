-- Numbers of points, as they are counted for the limit.
use Rattle.std.specs.Prelude.{◌≡◌, ◌<◌, ◌⊎◌, ℕ, List, length}
use Rattle.std.specs.List.{AllZip}
use Rattle.ck_points.specs.Functions.{points}
use Rattle.ck_points.specs.Graphs.{most_points}
use Rattle.ck_prog.specs.TypedBodies.{TypedFunction}

-- how many points a function has; where they are more than the limit, any number above it
abbrev pub IsCount : TypedFunction → ℕ → Type 0
IsCount f n = (n ≡ length (points f)) ⊎ ((most_points < n) × (most_points < length (points f)))

abbrev pub AreCounts : List TypedFunction → List ℕ → Type 0
AreCounts fs counts = AllZip IsCount fs counts
