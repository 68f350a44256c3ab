-- What is known of an expression of a table.
use Rattle.std.specs.Prelude.{◌≡◌, ◌<◌, ℕ, true, List}
use Rattle.ck_prog.specs.TypedTrees as trees
use Rattle.ck_prog.specs.TypedTrees.{Typed}
use Rattle.ck_tables.specs.ExprTable.{make, tree_at, reads_below}
use Rattle.ck_tables.specs.Readings.{Readings, plain_facts}
use Rattle.ck_tables.specs.declared.exprs.ExprNode.{ExprNode}
use Rattle.ck_tables.specs.declared.exprs.Step.{Step}
use Rattle.ck_tables.specs.declared.exprs.Step.TheVariants as steps
use Rattle.ck_tables.specs.declared.expr_facts.FactsOf.{FactsOf}
use Rattle.ck_tables.specs.declared.expr_facts.FactsOf.TheVariants as told
use Rattle.ck_tables.specs.declared.facts.Facts.{Facts}

-- an expression of the table has these facts, whatever the other tables' numbers stand for
pub record HasFacts (ns : List ExprNode) (i : ℕ) (facts : Facts) : Type 0 where
  pub are : (w : Readings) → trees.facts (tree_at w ns i) ≡ plain_facts w facts

-- Private -------------------------------------------------------------------------------------------------------------

abbrev pub step_facts : Step → Facts
step_facts (steps.Index opening index facts) = facts
step_facts (steps.Call opening function arguments facts) = facts
step_facts (steps.Access is_dot name member facts) = facts
step_facts (steps.PostIncrement token operator facts) = facts

-- a node's facts are these, or those of an expression that it names
pub record OwnFacts (n : ExprNode) (facts : Facts) : Type 0 where
  pub are : (w : Readings) (f : ℕ → Typed) → trees.facts (make w f n) ≡ plain_facts w facts

pub record NamedFacts (n : ExprNode) (i : ℕ) : Type 0 where
  pub less : (limit : ℕ) → reads_below limit n ≡ true → i < limit
  pub are : (w : Readings) (f : ℕ → Typed) → trees.facts (make w f n) ≡ trees.facts (f i)

abbrev pub TellsFacts : ExprNode → FactsOf → Type 0
TellsFacts n (told.Own facts) = OwnFacts n facts
TellsFacts n (told.Named x) = NamedFacts n x.0
