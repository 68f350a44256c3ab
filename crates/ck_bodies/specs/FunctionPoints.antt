-- The points of a function with a body, as they are made from a project's tables (docs/FLOW.md).
use Rattle.std.specs.Prelude.{◌≡◌, ℕ, List, [], map}
use Rattle.ck_passages.specs.Points.{plain_point, added}
use Rattle.ck_passages.specs.declared.drawing.PassagePoint.{PassagePoint}
use Rattle.ck_points.specs.Functions.{points}
use Rattle.ck_prog.specs.TypedBodies.{TypedFunction}
use Rattle.ck_tables.specs.Program.{functions}
use Rattle.ck_tables.specs.Rows.{IsRow}
use Rattle.ck_tables.specs.declared.program.Linked.{Linked}

-- these are the points of the function of this number, without the deeds of their edges, and the last one first
pub record ArePointsOf (l : Linked) (i : ℕ) (ds : List PassagePoint) : Type 0 where
  pub are : (f : TypedFunction) → IsRow (functions l) i f → map (plain_point l) ds ≡ added [] (points f)
