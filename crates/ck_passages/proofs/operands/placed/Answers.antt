use Rattle.std.proofs.Common.{◌≡◌, ◌≤◌, ◌+◌, [], ◌∷◌, ◌++◌, length, drop, ap, subst, sym}
use Rattle.std.proofs.Common.{◌∙◌, arith}
use Rattle.std.specs.Prelude.{max}
use Rattle.ck_passages.specs.Operands.{AllFit, most_depth}
use Rattle.ck_passages.proofs.OperandLists.{drop-next, drop-past, most_depth-last, AllFit-last, ArePlaced, not-true}
use Rattle.ck_passages.proofs.OperandLists.{not-false}
use Rattle.ck_passages.proofs.OperandLists.{placed-itself, placed-in_order, placed-nothing, placed-all}
use Rattle.ck_passages.proofs.operands.placed.Goals as goal
use Rattle.ck_passages.proofs.operands.placed.Goals.{then-not-facts_of+in_ok-push}
use Rattle.ck_passages.proofs.operands.placed.Goals.{else-not-facts_of+then-taken-order+in_ok-push-2}
use Rattle.ck_passages.proofs.operands.placed.Goals.{else-not-facts_of+else-taken-order}

pub loop-operand-preserved : goal.loop-operand-preserved
loop-operand-preserved c =
    let l = c.args.program.now.linked in
    let i = c.loop-operand.operand-index in
    let k = c.loop-operand.taken in
    let os = c.args.operands.now in
    let order = c.args.order.now in
    let o = c.operand-item.result in
    let done = c.loop-operand.sequence.items in
    let inv = c.loop-operand.invariant in
    let others = drop (i + 1) os in
    let e : drop i os ≡ o ∷ others = drop-next os i o c.loop-operand-test.true c.operand-item.is in
    let rest = subst (AllFit l) e inv.rest in
    let so = subst (λ xs. ArePlaced l os order done xs (drop k order)) e inv.placed in
    let deep = subst (λ xs. most_depth xs ≤ most_depth os) e inv.rest_depth in
    let was = inv.depth in
    let within = inv.taken in
    let flag = sym (ap (λ f. f.holds_call) c.facts_of.ensures) in
    elim c.if-not-facts_of.branch [
      | then-not-facts_of+in_ok-push w ↦
          let is = ap (λ v. v.items) w.sequence-is ∙ w.in_ok-push.ensures.items in
          let h = most_depth-last done o in
          let deeper : most_depth (done ++ (o ∷ [])) ≤ max (most_depth os) (most_depth order) = omega arith in
          let own = placed-itself l os order done others (drop k order) o so (flag
          ∙ not-true _ w.if-not-facts_of.true) in
          record {
            rest = rest.1;
            later = subst (λ j. AllFit l (drop j order)) (sym w.taken-is) inv.later;
            fit = subst (AllFit l) (sym is) (AllFit-last l done o inv.fit rest.0);
            taken = subst (λ j. j ≤ length order) (sym w.taken-is) within;
            placed =
                subst (λ xs. ArePlaced l os order xs others (drop c.if-not-facts_of.taken order)) (sym is)
                (subst (λ j. ArePlaced l os order (done ++ (o ∷ [])) others (drop j order)) (sym w.taken-is) own);
            depth = subst (λ xs. most_depth xs ≤ max (most_depth os) (most_depth order)) (sym is) deeper;
            rest_depth = omega arith;
            later_depth = subst (λ j. most_depth (drop j order) ≤ most_depth order) (sym w.taken-is) inv.later_depth;
          }
      | else-not-facts_of+then-taken-order+in_ok-push-2 w ↦
          let next = w.index-order-taken.result in
          let is = ap (λ v. v.items) w.sequence-is ∙ w.in_ok-push-2.ensures.items in
          let e2 : drop k order ≡ next ∷ drop (k + 1) order =
          drop-next order k next w.if-taken-order.true w.index-order-taken.is in
          let later = subst (AllFit l) e2 inv.later in
          let later_deep = subst (λ xs. most_depth xs ≤ most_depth order) e2 inv.later_depth in
          let h = most_depth-last done next in
          let deeper : most_depth (done ++ (next ∷ [])) ≤ max (most_depth os) (most_depth order) = omega arith in
          let less : most_depth (drop (k + 1) order) ≤ most_depth order = omega arith in
          let more : k + 1 ≤ length order = let a = w.if-taken-order.true in omega arith in
          let own =
          placed-in_order l os order done others (drop (k + 1) order) o next
          (subst (λ xs. ArePlaced l os order done (o ∷ others) xs) e2 so) (flag
          ∙ not-false _ w.if-not-facts_of.false) in
          record {
            rest = rest.1;
            later = subst (λ j. AllFit l (drop j order)) (sym w.taken-is) later.1;
            fit = subst (AllFit l) (sym is) (AllFit-last l done next inv.fit later.0);
            taken = subst (λ j. j ≤ length order) (sym w.taken-is) more;
            placed =
                subst (λ xs. ArePlaced l os order xs others (drop c.if-not-facts_of.taken order)) (sym is)
                (subst (λ j. ArePlaced l os order (done ++ (next ∷ [])) others (drop j order)) (sym w.taken-is) own);
            depth = subst (λ xs. most_depth xs ≤ max (most_depth os) (most_depth order)) (sym is) deeper;
            rest_depth = omega arith;
            later_depth = subst (λ j. most_depth (drop j order) ≤ most_depth order) (sym w.taken-is) less;
          }
      | else-not-facts_of+else-taken-order w ↦
          let is = ap (λ v. v.items) w.sequence-is in
          let e2 : drop k order ≡ [] = drop-past order k w.if-taken-order.false in
          let own =
          subst (λ xs. ArePlaced l os order done others xs) (sym e2)
          (placed-nothing l os order done others o
          (subst (λ xs. ArePlaced l os order done (o ∷ others) xs) e2 so) (flag
          ∙ not-false _ w.if-not-facts_of.false)) in
          record {
            rest = rest.1;
            later = subst (λ j. AllFit l (drop j order)) (sym w.taken-is) inv.later;
            fit = subst (AllFit l) (sym is) inv.fit;
            taken = subst (λ j. j ≤ length order) (sym w.taken-is) within;
            placed =
                subst (λ xs. ArePlaced l os order xs others (drop c.if-not-facts_of.taken order)) (sym is)
                (subst (λ j. ArePlaced l os order done others (drop j order)) (sym w.taken-is) own);
            depth = subst (λ xs. most_depth xs ≤ max (most_depth os) (most_depth order)) (sym is) was;
            rest_depth = omega arith;
            later_depth = subst (λ j. most_depth (drop j order) ≤ most_depth order) (sym w.taken-is) inv.later_depth;
          }
    ]

pub returns-clause-draws : goal.returns-clause-draws
returns-clause-draws c =
    let os = c.args.operands.now in
    let i = c.loop-operand.operand-index in
    let past : length os ≤ i = omega arith in
    placed-all c.args.program.now.linked os c.args.order.now c.loop-operand.sequence.items (drop i os)
    (drop c.loop-operand.taken c.args.order.now) (drop-past os i past) c.loop-operand.invariant.placed
