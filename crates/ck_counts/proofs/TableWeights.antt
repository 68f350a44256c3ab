-- What weights of tables say of their numbers, and of one number more.
use Rattle.std.proofs.Common.{◌≡◌, List, [], ◌∷◌, ◌++◌, length, sym, subst}
use Rattle.ck_points.specs.Functions.{status_in_statement}
use Rattle.ck_tables.specs.ExprTable as exprs
use Rattle.ck_tables.specs.Program.{readings, body_readings}
use Rattle.ck_tables.specs.StmtTable as stmts
use Rattle.ck_tables.specs.StmtTable.{statement_at}
use Rattle.ck_tables.specs.declared.exprs.ExprNode.{ExprNode}
use Rattle.ck_tables.specs.declared.program.Linked.{Linked}
use Rattle.ck_tables.specs.declared.stmts.StmtNode.{StmtNode}
use Rattle.ck_counts.specs.BodyPoints.{statement_points}
use Rattle.ck_counts.specs.Extents.{extent_of}
use Rattle.ck_counts.specs.Weights.{IsWeighed, IsCounted, tree, AreWeighed, StatementsCount}
use Rattle.ck_counts.specs.declared.body_counts.Counted.{Counted}
use Rattle.ck_counts.specs.declared.operands.Weighed.{Weighed}
use Rattle.ck_counts.proofs.Lists.{known-push}

module _ (l : Linked) where
  pub weighed_push : (ws : List Weighed) (w : Weighed) (n : ExprNode) → AreWeighed l ws →
      exprs.IsNode l.exprs (length ws) n → IsWeighed w (extent_of (exprs.make (readings l) (tree l) n)) →
      AreWeighed l (ws ++ (w ∷ []))
  weighed_push ws w n are node is =
      record {
        each =
            known-push (λ i v. IsWeighed v (extent_of (tree l i))) ws w are.each
            (subst (λ x. IsWeighed w (extent_of x)) (sym (node.tree (readings l))) is);
      }

  pub statements_push : (cs : List Counted) (c : Counted) (n : StmtNode) → StatementsCount l cs →
      stmts.IsNode l.stmts (length cs) n →
      IsCounted c
      (statement_points (stmts.make (body_readings l) (statement_at (body_readings l) l.stmts) n))
      (status_in_statement (stmts.make (body_readings l) (statement_at (body_readings l) l.stmts) n)) →
      StatementsCount l (cs ++ (c ∷ []))
  statements_push cs c n count node is =
      record {
        each =
            known-push
            (λ i d. IsCounted d (statement_points (statement_at (body_readings l) l.stmts i))
            (status_in_statement (statement_at (body_readings l) l.stmts i)))
            cs c count.each
            (subst (λ s. IsCounted c (statement_points s) (status_in_statement s))
            (sym (node.tree (body_readings l))) is);
      }

  pub statement_node : (c : Counted) (n m : StmtNode) → n ≡ m →
      IsCounted c (statement_points (stmts.make (body_readings l) (statement_at (body_readings l) l.stmts) m))
      (status_in_statement (stmts.make (body_readings l) (statement_at (body_readings l) l.stmts) m)) →
      IsCounted c (statement_points (stmts.make (body_readings l) (statement_at (body_readings l) l.stmts) n))
      (status_in_statement (stmts.make (body_readings l) (statement_at (body_readings l) l.stmts) n))
  statement_node c n m e is =
      subst
      (λ x. IsCounted c
      (statement_points (stmts.make (body_readings l) (statement_at (body_readings l) l.stmts) x))
      (status_in_statement (stmts.make (body_readings l) (statement_at (body_readings l) l.stmts) x)))
      (sym e) is
