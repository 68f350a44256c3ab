use Rattle.std.proofs.Common.{◌≡◌, ◌≤◌, ◌+◌, [], ◌∷◌, ◌++◌, map, drop, ap, subst, sym}
use Rattle.std.proofs.Common.{◌∙◌, arith}
use Rattle.ck_passages.specs.Operands.{value_of, evaluation_of, AllFit, most_depth}
use Rattle.ck_passages.proofs.OperandLists.{drop-next, most_depth-last, AllFit-last, with_calls-next, with_calls-past}
use Rattle.ck_points.specs.Evaluations.{with_calls}
use Rattle.ck_passages.proofs.operands.calling.Goals as goal
use Rattle.ck_passages.proofs.operands.calling.Goals.{then-facts_of+in_ok-push, else-facts_of}

pub loop-operand-preserved : goal.loop-operand-preserved
loop-operand-preserved c =
    let l = c.args.program.now.linked in
    let i = c.loop-operand.operand-index in
    let os = c.args.operands.now in
    let o = c.operand-item.result in
    let found = c.loop-operand.found.items in
    let later = drop (i + 1) os in
    let e : drop i os ≡ o ∷ later = drop-next os i o c.loop-operand-test.true c.operand-item.is in
    let rest = subst (AllFit l) e c.loop-operand.invariant.rest in
    let left = subst (λ xs. most_depth xs ≤ most_depth os) e c.loop-operand.invariant.depth_left in
    let was = c.loop-operand.invariant.depth in
    let calls =
    c.loop-operand.invariant.calls ∙ ap (λ xs. map (evaluation_of l) found ++ with_calls (map (value_of l) xs)) e in
    let flag = sym (ap (λ f. f.holds_call) c.facts_of.ensures) in
    elim c.if-facts_of.branch [
      | then-facts_of+in_ok-push w ↦
          let is = ap (λ v. v.items) w.found-is ∙ w.in_ok-push.ensures.items in
          let h = most_depth-last found o in
          let deep : most_depth (found ++ (o ∷ [])) ≤ most_depth os = omega arith in
          record {
            rest = rest.1;
            fit = subst (AllFit l) (sym is) (AllFit-last l found o c.loop-operand.invariant.fit rest.0);
            calls =
                with_calls-next l found later o _ (flag ∙ w.if-facts_of.true) calls
                ∙ ap (λ xs. map (evaluation_of l) xs ++ with_calls (map (value_of l) later)) (sym is);
            depth = subst (λ xs. most_depth xs ≤ most_depth os) (sym is) deep;
            depth_left = omega arith;
          }
      | else-facts_of w ↦
          let is = ap (λ v. v.items) w.found-is in
          record {
            rest = rest.1;
            fit = subst (AllFit l) (sym is) c.loop-operand.invariant.fit;
            calls =
                with_calls-past l found later o _ (flag ∙ w.if-facts_of.false) calls
                ∙ ap (λ xs. map (evaluation_of l) xs ++ with_calls (map (value_of l) later)) (sym is);
            depth = subst (λ xs. most_depth xs ≤ most_depth os) (sym is) was;
            depth_left = omega arith;
          }
    ]
