-- What is refused of a project (docs/FLOW.md, "Numbers"): that it has more than 400,000 points.
use Rattle.std.specs.Prelude.{◌≡◌, List, Some}
use Rattle.ck_base.specs.declared.refusals.Refusal.{Refusal}
use Rattle.ck_base.specs.declared.refusals.Spot.TheVariants.{At}
use Rattle.ck_base.specs.declared.refusals.Unsupported.TheVariants.{U20}
use Rattle.ck_points.specs.Graphs.{passing_limit}
use Rattle.ck_prog.specs.TypedBodies.{TypedFunction}
use Rattle.ck_tables.specs.ProgramRows.{function_name}

-- with one of these functions the sum of points passes the limit, and the refusal is at its name
pub record IsPastLimit (fs : List TypedFunction) (refusal : Refusal) : Type 0 where
  pub function : TypedFunction
  pub passes : passing_limit fs ≡ Some function
  pub kind : refusal.kind ≡ U20
  pub at : refusal.at ≡ At (function_name function).span
