use Rattle.std.proofs.Common.{◌≡◌, ◌≤◌, ◌+◌, [], ◌∷◌, ◌++◌, true, length, map, drop, get_or}
use Rattle.std.proofs.Common.{ap, subst, sym, ◌∙◌, arith}
use Rattle.std.proofs.lemmas.List.{at_drop_more}
use Rattle.ck_passages.specs.Operands.{value, value_of, argument_values, arguments_depth, AllFit, most_depth}
use Rattle.ck_passages.specs.declared.operands.Operand.{Operand}
use Rattle.ck_passages.specs.declared.operands.Operand.TheVariants as operand
use Rattle.ck_passages.proofs.OperandLists.{most_depth-last, AllFit-last, argument_values-next, arguments_below-next}
use Rattle.ck_tables.specs.ExprTable.{arguments_below}
use Rattle.ck_tables.specs.declared.exprs.ExprId.{ExprId}
use Rattle.ck_passages.proofs.operands.argument_operands.Goals as goal

pub loop-number-preserved : goal.loop-number-preserved
loop-number-preserved c =
    let xs = c.args.arguments.now in
    let i = c.loop-number.number in
    let x : ExprId = get_or xs i (record { 0 = 0 }) in
    let o : Operand = operand.Whole x c.args.here c.in_ok-step_number.field-0 in
    let later = drop (i + 1) xs in
    let e : drop i xs ≡ x ∷ later = at_drop_more (λ ys. ys) xs i (record { 0 = 0 }) c.loop-number-test.true in
    let before = c.loop-number.operands.items in
    let is : c.push.new.self.items ≡ before ++ (o ∷ []) = c.in_ok-push.ensures.items in
    let inv = c.loop-number.invariant in
    let left = subst (λ ys. arguments_depth ys ≤ arguments_depth xs) e inv.depth_left in
    let was = inv.depth in
    let h = most_depth-last before o in
    let deep : most_depth (before ++ (o ∷ [])) ≤ arguments_depth xs = omega arith in
    record {
      fit = λ t below.
          let fits = inv.fit t below in
          let next =
          arguments_below-next (length t.exprs) x later (subst (λ ys. arguments_below (length t.exprs) ys
          ≡ true) e fits.1) in
          (subst (AllFit t) (sym is) (AllFit-last t before o fits.0 next.0), next.1);
      values = λ t.
          argument_values-next t c.args.here.now i before o x later _
          (ap (λ s. value t (c.args.here.now ++ (s ∷ [])) x) c.in_ok-step_number.ensures)
          (inv.values t ∙ ap (λ ys. map (value_of t) before ++ argument_values t c.args.here.now i ys) e)
          ∙ ap (λ os. map (value_of t) os ++ argument_values t c.args.here.now (i + 1) later) (sym is);
      depth = subst (λ os. most_depth os ≤ arguments_depth xs) (sym is) deep;
      depth_left = omega arith;
    }
