-- Which typed tree an expression of the table is, and what is kept beside its number for the expression around it.
use Rattle.std.specs.Prelude.{◌≡◌, ◌<◌, ℕ, List, length}
use Rattle.ck_prog.specs.Declarations.{Place}
use Rattle.ck_prog.specs.TypedExpressions.{named_function}
use Rattle.ck_prog.specs.TypedTrees.{Typed, facts}
use Rattle.ck_tables.specs.ExprTable.{tree_at, Keeps}
use Rattle.ck_tables.specs.Readings.{Readings, plain_entry, plain_facts}
use Rattle.ck_tables.specs.declared.exprs.ExprNode.{ExprNode}
use Rattle.ck_expr_nodes.specs.Finding.{Stays}
use Rattle.ck_expr_nodes.specs.SenseViews.{sense_in}
use Rattle.ck_expr_nodes.specs.declared.senses.Sense.{Sense}
use Rattle.ck_expr_nodes.specs.declared.nodes.Value.{Value}

-- it is in the table, and its sense is over numbers of the project
pub record IsKnown (fits : Sense → Type 0) (ns : List ExprNode) (v : Value) : Type 0 where
  pub below : v.id.0 < length ns
  pub fitting : fits (sense_in v.facts)

-- it stands for this typed tree
pub record IsValue (w : Readings) (ns : List ExprNode) (t : Typed) (v : Value) : Type 0 where
  pub tree_is : tree_at w ns v.id.0 ≡ t
  pub facts_are : plain_facts w v.facts ≡ facts t
  pub function_is : plain_entry w v.function ≡ named_function t

-- the table of expressions has grown, and so have the names and types
pub record Grows {State : Type 0} (reads : State → Readings → Type 0) (fits : State → Sense → Type 0)
    (marks : State → ℕ → Place → Type 0) (old new : State) (ns ms : List ExprNode) : Type 0 where
  pub stays : Stays reads fits marks old new
  pub kept : Keeps ns ms
