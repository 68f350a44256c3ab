-- Evaluations of the nodes of a table.
use Rattle.std.proofs.Common.{◌≡◌, ℕ, ap, ◌∙◌}
use Rattle.ck_passages.specs.Operands.{tree}
use Rattle.ck_points.specs.Evaluations.{evaluation}
use Rattle.ck_prog.specs.Paths.{Path}
use Rattle.ck_tables.specs.ExprTable.{IsNode, make}
use Rattle.ck_tables.specs.Program.{readings}
use Rattle.ck_tables.specs.declared.exprs.ExprNode.{ExprNode}
use Rattle.ck_tables.specs.declared.program.Linked.{Linked}

module _ (l : Linked) (π : Path) (i : ℕ) where
  -- a number has its node's evaluation
  pub node-evaluation : (m n : ExprNode) → IsNode l.exprs i m → m ≡ n →
      evaluation π (tree l i) ≡ evaluation π (make (readings l) (tree l) n)
  node-evaluation m n known same =
      ap (evaluation π) (known.tree (readings l)) ∙ ap (λ x. evaluation π (make (readings l) (tree l) x)) same
