-- The values of operands in a project's tables.
use Rattle.std.specs.Prelude.{◌≡◌, ◌<◌, ◌+◌, ◌*◌, ℕ, suc, max, true, List, [], ◌∷◌}
use Rattle.std.specs.Prelude.{◌++◌, map, length}
use Rattle.std.specs.List.{list_all}
use Rattle.ck_base.specs.declared.tokens.Token.{Token}
use Rattle.ck_passages.specs.Drawing.{draw}
use Rattle.ck_passages.specs.Points.{Drawn}
use Rattle.ck_passages.specs.declared.operands.Operand.{Operand}
use Rattle.ck_passages.specs.declared.operands.Operand.TheVariants as operand
use Rattle.ck_points.specs.Evaluations as form
use Rattle.ck_points.specs.Evaluations.{Node, Value, Evaluation, test_of, arranged, unsequenced}
use Rattle.ck_points.specs.Evaluations.{linked, suffixed, applied, called, evaluation}
use Rattle.ck_prog.specs.Paths as part
use Rattle.ck_prog.specs.Paths.{Path, below}
use Rattle.ck_prog.specs.TypedTrees.{Typed, facts}
use Rattle.ck_tables.specs.ExprTable.{tree_at, links_below, steps_below}
use Rattle.ck_tables.specs.Numbers.{numbers, step_fits}
use Rattle.ck_tables.specs.Program.{readings}
use Rattle.ck_tables.specs.Readings.{plain_facts, plain_entry}
use Rattle.ck_tables.specs.declared.exprs.ExprId.{ExprId}
use Rattle.ck_tables.specs.declared.exprs.Link.{Link}
use Rattle.ck_tables.specs.declared.exprs.Step.{Step}
use Rattle.ck_tables.specs.declared.exprs.Step.TheVariants as steps
use Rattle.ck_tables.specs.declared.program.Linked.{Linked}

-- values in the tables ------------------------------------------------------------------------------------------------

module _ (l : Linked) where
  -- the tree of a number
  abbrev pub tree : ℕ → Typed
  tree i = tree_at (readings l) l.exprs i

  -- an expression with this path
  abbrev pub value : Path → ExprId → Value
  value π x = record { path = π; facts = facts (tree x.0); evaluation = evaluation π (tree x.0) }

  -- a value up to the operator of this number, with that operator and its operand
  abbrev pub link_value : Path → ℕ → Value → Link → Value
  link_value π k v link =
      linked link.operator (below π (part.OperatorOf k)) (plain_facts (readings l) link.facts) v
      (value (below π (part.Operand (suc k))) link.operand)

  abbrev pub links_value : Path → ℕ → Value → List Link → Value
  links_value π k v [] = v
  links_value π k v (link ∷ links) = links_value π (suc k) (link_value π k v link) links

  abbrev pub chain_value : Path → ExprId → List Link → Value
  chain_value π first links = links_value π 0 (value (below π (part.Operand 0)) first) links

  -- the arguments from this number on
  abbrev pub argument_values : Path → ℕ → List ExprId → List Value
  argument_values π k [] = []
  argument_values π k (x ∷ xs) = value (below π (part.ArgumentOf k)) x ∷ argument_values π (suc k) xs

  -- a value up to the suffix with this path, with that suffix
  abbrev pub step_value : Path → Value → Step → Value
  step_value here v (steps.Index opening index g) =
      let h = plain_facts (readings l) g in
      suffixed here h (applied here h (unsequenced (record { path = here; first = h.first })
      (v ∷ value (below here part.IndexOf) index ∷ [])))
  step_value here v (steps.Call opening function arguments g) =
      let h = plain_facts (readings l) g in
      let n : Node = record { path = here; first = h.first } in
      let name = plain_entry (readings l) function in
      suffixed here h (form.Call n name (unsequenced n (called name v (argument_values here 0 arguments.items))))
  step_value here v (steps.Access is_dot name member g) =
      let h = plain_facts (readings l) g in suffixed here h (applied here h v.evaluation)
  step_value here v (steps.PostIncrement token operator g) =
      let h = plain_facts (readings l) g in suffixed here h (applied here h v.evaluation)

  abbrev pub steps_value : Path → ℕ → Value → List Step → Value
  steps_value π k v [] = v
  steps_value π k v (s ∷ ss) = steps_value π (suc k) (step_value (below π (part.Suffix k)) v s) ss

  abbrev pub row_value : Path → ExprId → List Step → Value
  row_value π primary ss = steps_value π 0 (value (below π part.Primary) primary) ss

  -- operands ----------------------------------------------------------------------------------------------------------

  abbrev pub value_of : Operand → Value
  value_of (operand.Whole x above step) = value (above.now ++ (step ∷ [])) x
  value_of (operand.Chain of first links path) = chain_value path.now first links.now
  value_of (operand.Row of primary suffixes path) = row_value path.now primary suffixes.now

  abbrev pub evaluation_of : Operand → Evaluation
  evaluation_of o = (value_of o).evaluation

  abbrev pub arranged_evaluation : List Operand → List Operand → Evaluation
  arranged_evaluation os order = arranged (map value_of os) (map evaluation_of order)

  abbrev pub unsequenced_evaluation : Path → Token → List Operand → Evaluation
  unsequenced_evaluation here first os = unsequenced (record { path = here; first = first }) (map value_of os)

  -- an operand names numbers of the table, and where it is part of a node, smaller ones than that; what its suffixes
  -- name is the project's
  abbrev pub Fits : Operand → Type 0
  Fits (operand.Whole x above step) = x.0 < length l.exprs
  Fits (operand.Chain of first links path) =
      (of.0 < length l.exprs) × (first.0 < of.0) × (links_below of.0 links.now ≡ true)
  Fits (operand.Row of primary suffixes path) =
      (of.0 < length l.exprs) × (primary.0 < of.0) × (steps_below of.0 suffixes.now ≡ true)
      × (list_all (step_fits (numbers l)) suffixes.now ≡ true)

  abbrev pub AllFit : List Operand → Type 0
  AllFit [] = Unit {0}
  AllFit (o ∷ os) = Fits o × AllFit os

-- evaluations of nodes -----------------------------------------------------------------------------------------------

module _ (f : ℕ → Typed) where
  abbrev pub conditional_evaluation : Path → Token → ExprId → ExprId → ExprId → Evaluation
  conditional_evaluation π first test a b =
      let ρ = below π part.Condition in
      let tested : Value = record { path = ρ; facts = facts (f test.0); evaluation = evaluation ρ (f test.0) } in
      form.Choice (test_of tested) tested.evaluation (evaluation (below π part.Second) (f a.0))
      (evaluation (below π part.Third) (f b.0)) (record { path = π; first = first })

  abbrev pub assignment_evaluation : Path → Token → ExprId → ExprId → Evaluation
  assignment_evaluation π first a b =
      let left = below π part.Left in
      let right = below π part.Right in
      unsequenced (record { path = π; first = first })
      (record { path = left; facts = facts (f a.0); evaluation = evaluation left (f a.0) }
      ∷ record { path = right; facts = facts (f b.0); evaluation = evaluation right (f b.0) } ∷ [])

-- how deep a walk may go: by the number of a node, and then by the length of a row ------------------------------------

abbrev pub node_depth : ℕ → ℕ
node_depth i = 1180591620717411303424 * i + 1180591620717411303423

abbrev pub row_depth : ℕ → ℕ → ℕ
row_depth i k = 1180591620717411303424 * i + 16 * k

abbrev pub depth : Operand → ℕ
depth (operand.Whole x above step) = node_depth x.0
depth (operand.Chain of first links path) = row_depth of.0 (length links.now)
depth (operand.Row of primary suffixes path) = row_depth of.0 (length suffixes.now)

abbrev pub most_depth : List Operand → ℕ
most_depth [] = 0
most_depth (o ∷ os) = max (depth o) (most_depth os)

abbrev pub arguments_depth : List ExprId → ℕ
arguments_depth [] = 0
arguments_depth (x ∷ xs) = max (node_depth x.0) (arguments_depth xs)

abbrev pub step_depth : Step → ℕ
step_depth (steps.Index opening index g) = node_depth index.0
step_depth (steps.Call opening function arguments g) = arguments_depth arguments.items
step_depth (steps.Access is_dot name member g) = 0
step_depth (steps.PostIncrement token operator g) = 0

-- orders -------------------------------------------------------------------------------------------------------------

-- evaluations in this order, drawn from the last to the first
abbrev pub draw_all : List ℕ → List Evaluation → Drawn → Drawn
draw_all orders [] d = d
draw_all orders (e ∷ es) d = draw orders e (draw_all orders es d)

-- these are operands in written order, but those with calls in this order among their places
pub record IsPlaced (l : Linked) (os order sequence : List Operand) : Type 0 where
  pub draws :
      (orders : List ℕ) (d : Drawn) →
      draw orders (arranged_evaluation l os order) d ≡ draw_all orders (map (evaluation_of l) sequence) d
