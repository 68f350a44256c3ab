use Rattle.std.proofs.Common.{◌+◌, ◌||◌, Bool, List, set, sym, subst, arith}
use Rattle.ck_rows.specs.declared.rows.Rows.{Rows}
use Rattle.ck_reaching.specs.Sets.{block_at}
use Rattle.ck_reaching.proofs.SetLemmas.{IsJoinedBelow, joined-more, join-from_all}
use Rattle.ck_reaching.proofs.sets.join_blocks.Goals as goal
use Rattle.ck_reaching.proofs.sets.join_blocks.Goals.{then-join_block, else-join_block}

pub joins-preserved : goal.joins-preserved
unfolding block_at
joins-preserved c =
    let old : List Rows = c.args.into.now in
    let given : List Rows = c.args.from.now in
    let mid : List Rows = c.joins.into in
    let n = c.joins.number in
    let block : Rows = c.join_block.new.into in
    let h : Bool = c.join_block.result in
    let union = c.join_block.ensures in
    let more = joined-more n old given mid block c.joins.grew h (omega (arith, c.joins-test.true)) c.joins.invariant
    union in
    elim c.if-join_block.branch [
      | then-join_block w ↦ subst (IsJoinedBelow (n + 1) old given (set mid n block)) (sym w.grew-is)
          (subst (λ b. IsJoinedBelow (n + 1) old given (set mid n block) (b || c.joins.grew)) w.if-join_block.true more)
      | else-join_block w ↦ subst (IsJoinedBelow (n + 1) old given (set mid n block)) (sym w.grew-is)
          (subst (λ b. IsJoinedBelow (n + 1) old given (set mid n block) (b || c.joins.grew)) w.if-join_block.false
          more)
    ]

pub returns : goal.returns
returns c =
    join-from_all c.joins.number c.args.into.now c.args.from.now c.joins.into c.joins.grew
    (omega (arith, c.joins-test.false)) (omega arith) c.joins.invariant
