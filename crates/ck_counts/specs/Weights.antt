-- Which numbers of points weights stand for.
use Rattle.std.specs.Prelude.{◌≡◌, ◌<◌, ◌+◌, ℕ, min, Bool, List, length, slice_index_or}
use Rattle.ck_points.specs.Graphs.{most_points}
use Rattle.ck_prog.specs.TypedTrees.{Typed}
use Rattle.ck_points.specs.Functions.{status_declared, status_in_statement}
use Rattle.ck_points.specs.Initialising.{has_initialiser}
use Rattle.ck_prog.specs.TypedBodies.{TypedDeclarators}
use Rattle.ck_tables.specs.ExprTable.{tree_at}
use Rattle.ck_tables.specs.InitTable.{init_at}
use Rattle.ck_tables.specs.Program.{readings, with_expressions, body_readings}
use Rattle.ck_tables.specs.StmtTable.{statement_at}
use Rattle.ck_tables.specs.declared.program.Linked.{Linked}
use Rattle.ck_counts.specs.BodyPoints.{initialiser_points, declarators_points, statement_points}
use Rattle.ck_counts.specs.Extents.{Extent, extent_of, calls, total}
use Rattle.ck_counts.specs.declared.body_counts.Counted.{Counted}
use Rattle.ck_counts.specs.declared.declarations.Declarators.{Declarators}
use Rattle.ck_counts.specs.declared.operands.Together.{Together}
use Rattle.ck_counts.specs.declared.operands.Weighed.{Weighed}
use Rattle.ck_counts.specs.declared.initialisers.Known.{Known}
use Rattle.ck_counts.specs.declared.weights.Weight.{Weight}

-- a weight is the number itself up to the limit, and one more than the limit for all numbers above it
abbrev pub Weighs : ℕ → ℕ → Type 0
Weighs w points = w ≡ min points (most_points + 1)

-- operands -----------------------------------------------------------------------------------------------------------

pub record IsWeighed (w : Weighed) (v : Extent) : Type 0 where
  pub holds_call : w.holds_call ≡ v.holds_call
  pub points : Weighs w.points.0 v.points

-- operands whose order is open: more than three with calls are alike
pub record AreTogether (t : Together) (vs : List Extent) : Type 0 where
  pub calls_are : t.calls ≡ min (calls vs) 4
  pub points : Weighs t.points.0 (total vs)

-- a value up to some operator or suffix, from which those after it lead to this extent
pub record Leads {Row : Type 0} (after : Extent → Row → Extent) (w : Weighed) (rest : Row) (all : Extent) : Type 0 where
  pub value : Extent
  pub is : IsWeighed w value
  pub leads : after value rest ≡ all

-- statements, items and declarations: how many points there are, and whether one declares the kernel's status
pub record IsCounted (c : Counted) (points : ℕ) (status : Bool) : Type 0 where
  pub points_are : Weighs c.points.0 points
  pub status_is : c.keeps_status ≡ status

-- declarators, and whether one of them has an initialiser
pub record AreDeclared (c : Declarators) (ds : TypedDeclarators) : Type 0 where
  pub counted_are : IsCounted c.counted (declarators_points ds) (status_declared ds)
  pub initialised_is : c.initialised ≡ has_initialiser ds

-- tables -------------------------------------------------------------------------------------------------------------

-- the tree of a number
abbrev pub tree : Linked → ℕ → Typed
tree l i = tree_at (readings l) l.exprs i

-- those of expressions, from number 0 on
pub record AreWeighed (l : Linked) (ws : List Weighed) : Type 0 where
  pub each : (i : ℕ) (d : Weighed) → i < length ws → IsWeighed (slice_index_or ws i d) (extent_of (tree l i))

-- those of initialisers
pub record InitialisersWeigh (l : Linked) (ws : List Weight) : Type 0 where
  pub each :
      (i : ℕ) (d : Weight) → i < length ws →
      Weighs (slice_index_or ws i d).0 (initialiser_points (init_at (with_expressions l) l.inits i))

pub record IsKnown (l : Linked) (k : Known) : Type 0 where
  pub expressions : AreWeighed l k.expressions.items
  pub initialisers : InitialisersWeigh l k.initialisers.items

-- those of statements
pub record StatementsCount (l : Linked) (cs : List Counted) : Type 0 where
  pub each :
      (i : ℕ) (d : Counted) → i < length cs →
      IsCounted (slice_index_or cs i d) (statement_points (statement_at (body_readings l) l.stmts i))
      (status_in_statement (statement_at (body_readings l) l.stmts i))
