-- Statements that are counted from their parts, where the parts' evaluation may want memory.
use Rattle.std.proofs.Common.{◌≡◌, ℕ, subst, ◌∙◌, sym}
use Rattle.std.specs.Prelude.{Bool, Result, Ok, Err, IfOk}
use Rattle.ck_base.specs.declared.refusals.OutOfMemory.{OutOfMemory}
use Rattle.ck_points.specs.Functions.{status_in_statement}
use Rattle.ck_prog.specs.TypedBodies.{TypedStatement}
use Rattle.ck_tables.specs.Program.{body_readings}
use Rattle.ck_tables.specs.StmtTable.{make, statement_at}
use Rattle.ck_tables.specs.declared.program.Linked.{Linked}
use Rattle.ck_tables.specs.declared.stmts.StmtNode.{StmtNode}
use Rattle.ck_counts.specs.BodyPoints.{statement_points}
use Rattle.ck_counts.specs.Weights.{Weighs, IsCounted}
use Rattle.ck_counts.specs.declared.body_counts.Counted.{Counted}
use Rattle.ck_counts.proofs.TableWeights.{statement_node}

module _ (l : Linked) where
  abbrev made : StmtNode → TypedStatement
  made n = make (body_readings l) (statement_at (body_readings l) l.stmts) n

  -- where `points` and `status` say what a statement comes to from what its parts come to
  pub counted_from : (r : Result Counted OutOfMemory) (n m : StmtNode) (parts : Counted) (points : ℕ → ℕ)
      (status : Bool → Bool) (k : ℕ) (b : Bool) → n ≡ m → IsCounted parts k b →
      points k ≡ statement_points (made m) → status b ≡ status_in_statement (made m) →
      IfOk r (λ c. (j : ℕ) (d : Bool) → IsCounted parts j d → IsCounted c (points j) (status d)) →
      IfOk r (λ c. IsCounted c (statement_points (made n)) (status_in_statement (made n)))
  counted_from (Ok c) n m parts points status k b e is so also from =
      let here = from k b is in
      let whole : IsCounted c (statement_points (made m)) (status_in_statement (made m)) =
      record {
        points_are = subst (Weighs c.points.0) so here.points_are;
        status_is = here.status_is ∙ also;
      } in
      statement_node l c n m e whole
  counted_from (Err x) n m parts points status k b e is so also from = tt
