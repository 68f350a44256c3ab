-- How many points an expression has, from what its operands have (C99 6.5). No path bears on it, and of an operand only
-- its extent does.
use Rattle.std.specs.Prelude.{ℕ, zero, suc, ◌+◌, ◌*◌, Bool, List, [], ◌∷◌, Option, Some, None, if◌then◌else◌}
use Rattle.ck_prog.specs.Declarations.{Entry}
use Rattle.ck_prog.specs.TypedTrees as trees
use Rattle.ck_prog.specs.TypedTrees.{Typed, Links, Arguments, Steps}
use Rattle.ck_prog.specs.declared.operators.Operator.{Operator}
use Rattle.ck_prog.specs.declared.operators.Operator.TheVariants.{Binary, And, Or, Comma}

-- of a value: whether a call is evaluated with it, and how many points there are
pub record Extent : Type 0 where
  pub holds_call : Bool
  pub points : ℕ

abbrev pub extent : Bool → ℕ → Extent
extent holds_call points = record { holds_call = holds_call; points = points }

-- an operator over operands with this many points: without calls it is evaluated at once
abbrev pub enclosing : Bool → ℕ → Extent
enclosing holds_call points = extent holds_call (if holds_call then points else 0)

-- operands whose order is open ---------------------------------------------------------------------------------------

abbrev pub one_where : Bool → ℕ
one_where b = if b then 1 else 0

-- how many of them hold calls
abbrev pub calls : List Extent → ℕ
calls [] = 0
calls (v ∷ vs) = one_where v.holds_call + calls vs

abbrev pub total : List Extent → ℕ
total [] = 0
total (v ∷ vs) = v.points + total vs

-- two operands with calls have two orders and three have six, each with its own copy of all operands, and a point where
-- these part; other numbers of them have one order
abbrev pub in_orders : ℕ → ℕ → ℕ
in_orders (suc (suc zero)) points = 1 + 2 * points
in_orders (suc (suc (suc zero))) points = 1 + 6 * points
in_orders k points = points

abbrev pub unsequenced_points : List Extent → ℕ
unsequenced_points vs = in_orders (calls vs) (total vs)

-- operators ----------------------------------------------------------------------------------------------------------

-- 6.5.13, 6.5.14: the first operand is tested, and the ways meet
abbrev pub operator_points : Operator → Extent → Extent → ℕ
operator_points And left right = 2 + (left.points + right.points)
operator_points Or left right = 2 + (left.points + right.points)
operator_points Comma left right = left.points + right.points
operator_points (Binary op) left right = unsequenced_points (left ∷ right ∷ [])

-- 6.5.2.2: a called expression is an operand, a function's name isn't
abbrev pub called_extents : Option Entry → Extent → List Extent → List Extent
called_extents None v arguments = v ∷ arguments
called_extents (Some e) v arguments = arguments

-- expressions --------------------------------------------------------------------------------------------------------

abbrev mutual
  pub extent_of : Typed → Extent
  extent_of (trees.Name f e) = extent f.holds_call 0
  extent_of (trees.Constant f) = extent f.holds_call 0
  extent_of (trees.Strings f ts) = extent f.holds_call 0
  extent_of (trees.SizeofType f written) = extent f.holds_call 0
  extent_of (trees.Paren f x) = enclosing f.holds_call (extent_of x).points
  extent_of (trees.Unary f op x) = enclosing f.holds_call (extent_of x).points
  extent_of (trees.Cast f written x) = enclosing f.holds_call (extent_of x).points
  extent_of (trees.Postfix x steps) = extent_after_steps (extent_of x) steps
  extent_of (trees.Chain x links) = extent_after_links (extent_of x) links
  extent_of (trees.Conditional f test a b) =
      enclosing f.holds_call (2 + ((extent_of test).points + ((extent_of a).points + (extent_of b).points)))
  extent_of (trees.Assignment f op a b) =
      enclosing f.holds_call (unsequenced_points (extent_of a ∷ extent_of b ∷ []))

  -- a value up to some operator, and the operators from there on
  pub extent_after_links : Extent → Links → Extent
  extent_after_links v trees.NoLinks = v
  extent_after_links v (trees.Link op x f rest) =
      extent_after_links (enclosing f.holds_call (operator_points op v (extent_of x))) rest

  pub extents_of : Arguments → List Extent
  extents_of trees.NoArguments = []
  extents_of (trees.Argument x rest) = extent_of x ∷ extents_of rest

  -- a value up to some suffix, and the suffixes from there on
  pub extent_after_steps : Extent → Steps → Extent
  extent_after_steps v trees.NoSteps = v
  extent_after_steps v (trees.Index opening x f rest) =
      extent_after_steps (enclosing f.holds_call (unsequenced_points (v ∷ extent_of x ∷ []))) rest
  extent_after_steps v (trees.Call opening function es f rest) =
      extent_after_steps
      (extent f.holds_call (2 + unsequenced_points (called_extents function v (extents_of es)))) rest
  extent_after_steps v (trees.Access is_dot name m f rest) =
      extent_after_steps (enclosing f.holds_call v.points) rest
  extent_after_steps v (trees.PostIncrement t op f rest) =
      extent_after_steps (enclosing f.holds_call v.points) rest
