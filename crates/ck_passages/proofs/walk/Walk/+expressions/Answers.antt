use Rattle.std.proofs.Common.{rules, ◌≡◌, ◌<◌, ◌≤◌, ◌+◌, ◌-◌, [], ◌∷◌, ◌++◌, true}
use Rattle.std.proofs.Common.{length, map, take, ap, subst, sym, ◌∙◌}
use Rattle.std.proofs.Common.{arith, OnOk, if◌then◌else◌}
use Rattle.std.proofs.lemmas.Bool.{and_parts}
use Rattle.std.specs.List.{list_all}
use Rattle.std.specs.Prelude.{max}
use Rattle.ck_drafts.specs.Drafts.{plain_place, plain_edge}
use Rattle.ck_passages.specs.Drawing.{draw, going_to, put_meeting, put_test}
use Rattle.ck_passages.specs.Operands.{tree, value, chain_value, row_value, value_of, evaluation_of, link_value}
use Rattle.ck_passages.specs.Operands.{step_value}
use Rattle.ck_passages.specs.Operands.{arranged_evaluation, node_depth, row_depth, depth, most_depth, step_depth}
use Rattle.ck_passages.specs.Operands.{draw_all}
use Rattle.ck_passages.specs.Walks.{tables, made, copies_made}
use Rattle.ck_passages.proofs.Arrangements.{first_of_all, unsequenced-one}
use Rattle.ck_passages.proofs.Choices.{second-where_true, second-where_false, conditional-drawn, copy-made, two_items}
use Rattle.ck_passages.proofs.Choices.{three_items}
use Rattle.ck_passages.proofs.Nodes.{node-evaluation}
use Rattle.ck_passages.proofs.OperandLists.{draw_all-map_last, length-map, less_apart, more_apart}
use Rattle.ck_passages.proofs.Rows.{after_links-value, after_steps-value}
use Rattle.ck_passages.proofs.Splits.{copied, copy-of, split-two, split-three}
use Rattle.ck_passages.proofs.Walking.{chain-goes_on, chain-ends, row-goes_on, row-ends, links_below-last}
use Rattle.ck_passages.proofs.Walking.{steps_below-last, names_fit-last}
use Rattle.ck_passages.proofs.Walking.{step_depth-below, step_below-more}
use Rattle.ck_points.specs.Evaluations.{Node, with_calls, arranged, evaluation}
use Rattle.ck_prog.specs.Paths as part
use Rattle.ck_prog.specs.Paths.{below}
use Rattle.ck_tables.specs.ExprTable.{links_below, steps_below, step_below}
use Rattle.ck_tables.specs.Numbers.{numbers, step_fits, expression_fits, expression_node_fits}
use Rattle.ck_passages.proofs.walk.Walk.+expressions.Goals as goal
use Rattle.ck_passages.proofs.walk.Walk.+expressions.Goals.{unsequenced-in_default-via-then-as_slice-lt2}

-- nodes --------------------------------------------------------------------------------------------------------------

pub expression-row-requires : goal.expression-row-requires
unfolding expression_node_fits
expression-row-requires t c =
    let n = numbers (tables c.args.self.now) in
    let own = subst (λ x. expression_node_fits n x ≡ true) c.in-Postfix.is c.expression-node.ensures.fits in
    let ss = c.in-Postfix.steps.items in
    let fit = and_parts (expression_fits n c.in-Postfix.primary) (list_all (step_fits n) ss) own in
    let names : list_all (step_fits n) c.as_slice-suffixes.result.now ≡ true =
    subst (λ xs. list_all (step_fits n) xs ≡ true) (sym c.as_slice-suffixes.ensures.value) fit.1 in
    search rules

pub expression-returns-in-Postfix : goal.expression-returns-in-Postfix
expression-returns-in-Postfix t c =
    let w = c.args.self.now in
    let l = tables w in
    let π = c.args.path.now in
    let e =
    node-evaluation l π c.args.x.0 _ _ c.expression-node.ensures.meaning c.in-Postfix.is
    ∙ after_steps-value l π 0 (value l (below π part.Primary) c.in-Postfix.primary) c.in-Postfix.steps.items
    ∙ ap (λ ss. (row_value l π c.in-Postfix.primary ss).evaluation) (sym c.as_slice-suffixes.ensures.value) in
    subst (λ x. OnOk c.row.result (made w c.row.new.drawing ≡ draw w.orders.now x (made w c.args.drawing.now)))
    (sym e) c.row.ensures

pub expression-returns-in-Chain : goal.expression-returns-in-Chain
expression-returns-in-Chain t c =
    let w = c.args.self.now in
    let l = tables w in
    let π = c.args.path.now in
    let e =
    node-evaluation l π c.args.x.0 _ _ c.expression-node.ensures.meaning c.in-Chain.is
    ∙ after_links-value l π 0 (value l (below π (part.Operand 0)) c.in-Chain.first) c.in-Chain.links.items
    ∙ ap (λ ls. (chain_value l π c.in-Chain.first ls).evaluation) (sym c.as_slice-operators.ensures) in
    subst (λ x. OnOk c.chain.result (made w c.chain.new.drawing
    ≡ draw w.orders.now x (made w c.args.drawing.now))) (sym e) c.chain.ensures

-- chains -------------------------------------------------------------------------------------------------------------

pub chain-link-requires : goal.chain-link-requires
chain-link-requires t c =
    let of = c.args.of.0 in
    let ls = c.links.links.now in
    let rest = c.in-Some.last.1.now in
    let link = c.in-Some.last.0.now in
    let e : ls ≡ rest ++ (link ∷ []) = c.in-Some.ensures.cases.0 in
    let b = links_below-last of rest link (subst (λ xs. links_below of xs ≡ true) e c.links.invariant.below) in
    let under : links_below of rest ≡ true = b.0 in
    let right : link.operand.0 < of = b.1 in
    let node : of < length (tables c.args.self.now).exprs = c.requires.node in
    let first = c.requires.first in
    let known : link.operand.0 < length (tables c.args.self.now).exprs = omega arith in
    let shorter : length rest + 1 ≤ length c.args.links.now =
    let n = c.in-Some.ensures.cases.1 in let s = c.links.invariant.shorter in omega arith in
    let smaller : max (row_depth of (length rest)) (node_depth link.operand.0) + 9 < row_depth of
    (length c.args.links.now) = omega arith in
    search rules

pub chain-links-preserved : goal.chain-links-preserved
chain-links-preserved t c =
    let w = c.args.self.now in
    let l = tables w in
    let of = c.args.of.0 in
    let π = c.args.path.now in
    let first = c.args.first in
    let ls = c.links.links.now in
    let rest = c.in-Some.last.1.now in
    let link = c.in-Some.last.0.now in
    let d = made w c.links.drawing in
    let e = made w c.link.new.drawing in
    let done = c.in_ok-link.field-0 in
    let same : ls ≡ rest ++ (link ∷ []) = c.in-Some.ensures.cases.0 in
    let b = links_below-last of rest link (subst (λ xs. links_below of xs ≡ true) same c.links.invariant.below) in
    let n = c.in-Some.ensures.cases.1 in
    let s = c.links.invariant.shorter in
    let drawn =
    subst (λ k. draw w.orders.now (link_value l π k (chain_value l π first rest) link).evaluation d
    ≡ (if done then e else draw w.orders.now
    (chain_value l π first rest).evaluation e)) c.in_ok-number.ensures c.in_ok-link.ensures in
    record {
      below = b.0;
      shorter = omega arith;
      is =
          chain-goes_on l w.orders.now π first _ d e done ls rest link same c.links.invariant.is drawn
          c.if-branch.false;
    }

pub chain-returns-then-branch : goal.chain-returns-then-branch
chain-returns-then-branch t c =
    let w = c.args.self.now in
    let l = tables w in
    let π = c.args.path.now in
    let first = c.args.first in
    let ls = c.links.links.now in
    let rest = c.in-Some.last.1.now in
    let link = c.in-Some.last.0.now in
    let d = made w c.links.drawing in
    let e = made w c.link.new.drawing in
    let done = c.in_ok-link.field-0 in
    let same : ls ≡ rest ++ (link ∷ []) = c.in-Some.ensures.cases.0 in
    let drawn =
    subst (λ k. draw w.orders.now (link_value l π k (chain_value l π first rest) link).evaluation d
    ≡ (if done then e else draw w.orders.now
    (chain_value l π first rest).evaluation e)) c.in_ok-number.ensures c.in_ok-link.ensures in
    sym (chain-ends l w.orders.now π first _ d e done ls rest link same c.links.invariant.is drawn c.if-branch.true)

-- rows of suffixes ---------------------------------------------------------------------------------------------------

pub row-step-requires : goal.row-step-requires
row-step-requires t c =
    let of = c.args.of.0 in
    let ss = c.steps.steps.now in
    let rest = c.in-Some.last.1.now in
    let s = c.in-Some.last.0.now in
    let e : ss ≡ rest ++ (s ∷ []) = c.in-Some.ensures.cases.0 in
    let b = steps_below-last of rest s (subst (λ xs. steps_below of xs ≡ true) e c.steps.invariant.below) in
    let under : steps_below of rest ≡ true = b.0 in
    let node : of < length (tables c.args.self.now).exprs = c.requires.node in
    let primary = c.requires.primary in
    let known : step_below (length (tables c.args.self.now).exprs) s ≡ true =
    step_below-more of _ (omega arith) s b.1 in
    let fits = step_fits (numbers (tables c.args.self.now)) in
    let n = names_fit-last fits rest s (subst (λ xs. list_all fits xs ≡ true) e c.steps.invariant.names) in
    let names_before : list_all fits rest ≡ true = n.0 in
    let names : fits s ≡ true = n.1 in
    let deep = step_depth-below of s b.1 in
    let shorter : length rest + 1 ≤ length c.args.steps.now =
    let n = c.in-Some.ensures.cases.1 in let h = c.steps.invariant.shorter in omega arith in
    let smaller : max (row_depth of (length rest)) (step_depth s) + 9 < row_depth of (length c.args.steps.now) =
    omega arith in
    search rules

pub step-draw_call-requires : goal.step-draw_call-requires
step-draw_call-requires t c =
    let n = numbers (tables c.args.self.now) in
    (and_parts _ _ (subst (λ s. step_fits n s ≡ true) c.in-Call.is c.requires.names)).0

pub row-steps-preserved : goal.row-steps-preserved
row-steps-preserved t c =
    let w = c.args.self.now in
    let l = tables w in
    let of = c.args.of.0 in
    let π = c.args.path.now in
    let first = c.args.primary in
    let ss = c.steps.steps.now in
    let rest = c.in-Some.last.1.now in
    let s = c.in-Some.last.0.now in
    let d = made w c.steps.drawing in
    let e = made w c.step.new.drawing in
    let done = c.in_ok-step.field-0 in
    let same : ss ≡ rest ++ (s ∷ []) = c.in-Some.ensures.cases.0 in
    let b = steps_below-last of rest s (subst (λ xs. steps_below of xs ≡ true) same c.steps.invariant.below) in
    let n = c.in-Some.ensures.cases.1 in
    let h = c.steps.invariant.shorter in
    let here = c.as_slice-place.ensures.value ∙ c.in_ok-here.ensures ∙ ap (λ k. π ++ (k ∷ [])) (omega arith) in
    let drawn =
    subst (λ p. draw w.orders.now (step_value l p (row_value l π first rest) s).evaluation d
    ≡ (if done then e else draw w.orders.now
    (row_value l π first rest).evaluation e)) here c.in_ok-step.ensures in
    let fits = step_fits (numbers l) in
    record {
      below = b.0;
      names = (names_fit-last fits rest s (subst (λ xs. list_all fits xs ≡ true) same c.steps.invariant.names)).0;
      shorter = omega arith;
      is = row-goes_on l w.orders.now π first _ d e done ss rest s same c.steps.invariant.is drawn c.if-branch.false;
    }

pub row-returns-then-branch : goal.row-returns-then-branch
row-returns-then-branch t c =
    let w = c.args.self.now in
    let l = tables w in
    let π = c.args.path.now in
    let first = c.args.primary in
    let ss = c.steps.steps.now in
    let rest = c.in-Some.last.1.now in
    let s = c.in-Some.last.0.now in
    let d = made w c.steps.drawing in
    let e = made w c.step.new.drawing in
    let done = c.in_ok-step.field-0 in
    let same : ss ≡ rest ++ (s ∷ []) = c.in-Some.ensures.cases.0 in
    let here = c.as_slice-place.ensures.value ∙ c.in_ok-here.ensures ∙ ap (λ k. π ++ (k ∷ [])) (omega arith) in
    let drawn =
    subst (λ p. draw w.orders.now (step_value l p (row_value l π first rest) s).evaluation d
    ≡ (if done then e else draw w.orders.now
    (row_value l π first rest).evaluation e)) here c.in_ok-step.ensures in
    sym (row-ends l w.orders.now π first _ d e done ss rest s same c.steps.invariant.is drawn c.if-branch.true)

-- choices ------------------------------------------------------------------------------------------------------------

pub second-returns-then-holds : goal.second-returns-then-holds
second-returns-then-holds t c =
    let w = c.args.self.now in
    let l = tables w in
    let v = value_of l c.args.left.now in
    second-where_true (λ x. OnOk c.test.result (made w c.test.new.drawing ≡ x))
    (λ p q ps. put_test v.path w.orders.now v.facts.first.span v.facts.sense.constancy p q ps)
    (draw w.orders.now (evaluation_of l c.args.right.now)) c.args.holds c.if-holds.true
    (put_meeting c.args.here.now w.orders.now c.args.first.span (made w c.args.drawing.now))
    (made w c.put_meeting.new.self) (made w c.operand.new.drawing) (plain_place c.in_ok-entered.entered)
    (plain_place c.in_ok-meet.meet) (c.in_ok-put_meeting.ensures l) c.in_ok-operand.ensures
    (c.in_ok-entered.ensures l) (c.in_ok-meet.ensures l) c.test.ensures

pub second-returns-else-holds : goal.second-returns-else-holds
second-returns-else-holds t c =
    let w = c.args.self.now in
    let l = tables w in
    let v = value_of l c.args.left.now in
    second-where_false (λ x. OnOk c.test-else-holds.result (made w c.test-else-holds.new.drawing ≡ x))
    (λ p q ps. put_test v.path w.orders.now v.facts.first.span v.facts.sense.constancy p q ps)
    (draw w.orders.now (evaluation_of l c.args.right.now)) c.args.holds c.if-holds.false
    (put_meeting c.args.here.now w.orders.now c.args.first.span (made w c.args.drawing.now))
    (made w c.put_meeting.new.self) (made w c.operand.new.drawing) (plain_place c.in_ok-entered.entered)
    (plain_place c.in_ok-meet.meet) (c.in_ok-put_meeting.ensures l) c.in_ok-operand.ensures
    (c.in_ok-entered.ensures l) (c.in_ok-meet.ensures l) c.test-else-holds.ensures

pub conditional-returns : goal.conditional-returns
conditional-returns t c =
    let w = c.args.self.now in
    let l = tables w in
    let π = c.args.path.now in
    let os = w.orders.now in
    let v = value l (below π part.Condition) c.args.test in
    conditional-drawn (λ x. OnOk c.operand.result (made w c.operand.new.drawing ≡ x))
    (λ p q ps. put_test v.path os v.facts.first.span v.facts.sense.constancy p q ps)
    (draw os (evaluation (below π part.Condition) (tree l c.args.test.0)))
    (draw os (evaluation (below π part.Second) (tree l c.args.second.0)))
    (draw os (evaluation (below π part.Third) (tree l c.args.third.0)))
    going_to
    (put_meeting π os c.args.first.span (made w c.args.drawing.now))
    (made w c.put_meeting.new.self) (made w c.expression.new.drawing) (made w c.turn_to-fails.new.self)
    (made w c.expression-2.new.drawing) (made w c.test.new.drawing) (plain_place c.in_ok-meet.meet)
    (plain_place c.in_ok-holds.holds) (plain_place c.turn_to-fails.result) (c.in_ok-put_meeting.ensures l)
    (c.in_ok-meet.ensures l)
    (c.in_ok-expression.ensures
    ∙ ap (λ p. draw os (evaluation p (tree l c.args.third.0)) (made w c.put_meeting.new.self))
    (c.as_slice.ensures.value ∙ c.in_ok-third_path.ensures))
    (c.turn_to-fails.ensures.before l) (c.turn_to-fails.ensures.drawn l)
    (c.in_ok-expression-2.ensures
    ∙ ap (λ p. draw os (evaluation p (tree l c.args.second.0)) (made w c.turn_to-fails.new.self))
    (c.as_slice-2.ensures.value ∙ c.in_ok-second_path.ensures))
    (c.in_ok-holds.ensures l) c.in_ok-test.ensures c.operand.ensures

-- operands whose order is open ---------------------------------------------------------------------------------------

pub copy-returns : goal.copy-returns
copy-returns t c =
    let w = c.args.self.now in
    let l = tables w in
    let k = c.args.number in
    let a = arranged_evaluation l c.args.operands.now c.args.order.now in
    let old = made w c.args.drawing.now in
    let drawn =
    c.in_ok-arranged.ensures
    ∙ ap (λ os. draw os a (made w c.turn_to.new.self)) (c.as_slice.ensures.value ∙ c.in_ok-orders.ensures)
    ∙ ap (draw (w.orders.now ++ (k ∷ [])) a)
    (c.turn_to.ensures.drawn l ∙ ap (λ p. going_to p old) c.in_ok-next.ensures) in
    record {
      to = ap plain_place c.in_ok-put_first.ensures.to;
      is =
          copy-made k _ _ old.points (made w c.arranged.new.drawing) _ (plain_place c.in_ok-to.to)
          c.in_ok-put_first.ensures.edges (c.in_ok-to.ensures l) drawn;
    }

pub unsequenced-returns : goal.unsequenced-returns
unsequenced-returns t c =
    let w = c.args.self.now in
    let l = tables w in
    let vs = map (value_of l) c.args.operands.now in
    let xs = c.as_slice.result.now in
    let calls : map (evaluation_of l) xs ≡ with_calls vs =
    ap (map (evaluation_of l)) c.as_slice.ensures.value ∙ c.in_ok-in_calls.ensures.calls in
    let count : length xs ≡ length (with_calls vs) = sym (length-map (evaluation_of l) xs) ∙ ap length calls in
    let two : length (with_calls vs) ≡ 2 → ⊥ = λ h. elim c.in_default-1.branch [
      | unsequenced-in_default-via-then-as_slice-lt2 u ↦
          less_apart (length xs) 2 2 u.if-as_slice-lt2-1.true (omega arith) (count ∙ h)
      | goal.unsequenced-in_default-via-else-as_slice-lt2+else-as_slice-lt3+else-this-lt4 u ↦
          more_apart (length xs) 4 2 u.if-this-lt4-1.false (omega arith) (count ∙ h)
    ] in
    let three : length (with_calls vs) ≡ 3 → ⊥ = λ h. elim c.in_default-1.branch [
      | unsequenced-in_default-via-then-as_slice-lt2 u ↦
          less_apart (length xs) 2 3 u.if-as_slice-lt2-1.true (omega arith) (count ∙ h)
      | goal.unsequenced-in_default-via-else-as_slice-lt2+else-as_slice-lt3+else-this-lt4 u ↦
          more_apart (length xs) 4 3 u.if-this-lt4-1.false (omega arith) (count ∙ h)
    ] in
    let n : Node = record { path = c.args.here.now; first = c.args.first } in
    subst (λ x. OnOk c.arranged.result (made w c.arranged.new.drawing
    ≡ draw w.orders.now x (made w c.args.drawing.now)))
    (sym (unsequenced-one n vs two three ∙ ap (arranged vs) (sym calls))) c.arranged.ensures

pub unsequenced-returns-in-len2 : goal.unsequenced-returns-in-len2
unsequenced-returns-in-len2 t c =
    let w = c.args.self.now in
    let l = tables w in
    let os = w.orders.now in
    let d = made w c.args.drawing.now in
    let vs = map (value_of l) c.args.operands.now in
    let xs = c.as_slice.result.now in
    let a = c.a-item.result in
    let b = c.b-item.result in
    let ea = evaluation_of l a in
    let eb = evaluation_of l b in
    let n : Node = record { path = c.args.here.now; first = c.args.first } in
    let items = two_items xs a b (omega arith) c.a-item.is c.b-item.is in
    let calls : with_calls vs ≡ ea ∷ eb ∷ [] =
    sym (ap (map (evaluation_of l)) c.as_slice.ensures.value ∙ c.in_ok-in_calls.ensures.calls)
    ∙ ap (map (evaluation_of l)) items in
    let copies = c.in_ok-copies-in-len2.copies in
    let to0 = c.in_ok-copies-in-len2.ensures.to l in
    let none =
    ap (λ es. record { edges = map plain_edge es; points = d.points }) c.in_ok-copies-in-len2.ensures.edges in
    let s2 = c.in_ok-copy-in-len2.ensures in
    let s1 = c.in_ok-copy-in-len2-2.ensures in
    let c0 = copies_made w copies c.args.drawing.now in
    let c2 = copies_made w c.copy.new.copies c.copy.new.drawing in
    let c1 = copies_made w c.copy-in-len2.new.copies c.copy-in-len2.new.drawing in
    c.in_ok-put_split-in-len2.ensures l
    ∙ split-two os n vs d ea eb c1 c2 calls
    (copy-of os n vs d 2 (eb ∷ ea ∷ []) c0 c2 _ to0 s2.is ∙ ap (copied os n vs d 2 (eb ∷ ea ∷ [])) none)
    (copy-of os n vs d 1 (ea ∷ eb ∷ []) c2 c1 _ (s2.to ∙ to0) s1.is)

pub unsequenced-returns-in-len3 : goal.unsequenced-returns-in-len3
unsequenced-returns-in-len3 t c =
    let w = c.args.self.now in
    let l = tables w in
    let os = w.orders.now in
    let d = made w c.args.drawing.now in
    let vs = map (value_of l) c.args.operands.now in
    let xs = c.as_slice.result.now in
    let x = c.a-item-then-this-lt4.result in
    let y = c.b-item-then-this-lt4.result in
    let z = c.c-item.result in
    let ea = evaluation_of l x in
    let eb = evaluation_of l y in
    let ec = evaluation_of l z in
    let n : Node = record { path = c.args.here.now; first = c.args.first } in
    let items = three_items xs x y z (omega arith) c.a-item-then-this-lt4.is c.b-item-then-this-lt4.is c.c-item.is in
    let calls : with_calls vs ≡ ea ∷ eb ∷ ec ∷ [] =
    sym (ap (map (evaluation_of l)) c.as_slice.ensures.value ∙ c.in_ok-in_calls.ensures.calls)
    ∙ ap (map (evaluation_of l)) items in
    let copies = c.in_ok-copies-in-len3.copies in
    let to0 = c.in_ok-copies-in-len3.ensures.to l in
    let none =
    ap (λ es. record { edges = map plain_edge es; points = d.points }) c.in_ok-copies-in-len3.ensures.edges in
    let s6 = c.in_ok-copy-in-len3.ensures in
    let s5 = c.in_ok-copy-in-len3-2.ensures in
    let s4 = c.in_ok-copy-in-len3-3.ensures in
    let s3 = c.in_ok-copy-in-len3-4.ensures in
    let s2 = c.in_ok-copy-in-len3-5.ensures in
    let s1 = c.in_ok-copy-in-len3-6.ensures in
    let c0 = copies_made w copies c.args.drawing.now in
    let c6 = copies_made w c.copy-in-len3.new.copies c.copy-in-len3.new.drawing in
    let c5 = copies_made w c.copy-in-len3-2.new.copies c.copy-in-len3-2.new.drawing in
    let c4 = copies_made w c.copy-in-len3-3.new.copies c.copy-in-len3-3.new.drawing in
    let c3 = copies_made w c.copy-in-len3-4.new.copies c.copy-in-len3-4.new.drawing in
    let c2 = copies_made w c.copy-in-len3-5.new.copies c.copy-in-len3-5.new.drawing in
    let c1 = copies_made w c.copy-in-len3-6.new.copies c.copy-in-len3-6.new.drawing in
    let to6 = s6.to ∙ to0 in
    let to5 = s5.to ∙ to6 in
    let to4 = s4.to ∙ to5 in
    let to3 = s3.to ∙ to4 in
    let to2 = s2.to ∙ to3 in
    c.in_ok-put_split-in-len3.ensures l
    ∙ split-three os n vs d ea eb ec c1 c2 c3 c4 c5 c6 calls
    (copy-of os n vs d 6 (ec ∷ eb ∷ ea ∷ []) c0 c6 _ to0 s6.is
    ∙ ap (copied os n vs d 6 (ec ∷ eb ∷ ea ∷ [])) none)
    (copy-of os n vs d 5 (ec ∷ ea ∷ eb ∷ []) c6 c5 _ to6 s5.is)
    (copy-of os n vs d 4 (eb ∷ ec ∷ ea ∷ []) c5 c4 _ to5 s4.is)
    (copy-of os n vs d 3 (eb ∷ ea ∷ ec ∷ []) c4 c3 _ to4 s3.is)
    (copy-of os n vs d 2 (ea ∷ ec ∷ eb ∷ []) c3 c2 _ to3 s2.is)
    (copy-of os n vs d 1 (ea ∷ eb ∷ ec ∷ []) c2 c1 _ to2 s1.is)

pub after_left-returns : goal.after_left-returns
after_left-returns t c =
    let w = c.args.self.now in
    let l = tables w in
    let os = w.orders.now in
    let d = made w c.args.drawing.now in
    let v = value_of l c.args.left.now in
    let vs = map (value_of l) c.args.others.now in
    let n : Node = record { path = c.args.here.now; first = c.args.first } in
    let items = c.as_slice.ensures.value ∙ c.in_ok-operands.ensures in
    let calls : map (evaluation_of l) c.in_ok-in_calls.in_calls.items ≡ with_calls (v ∷ vs) =
    c.in_ok-in_calls.ensures.calls ∙ ap (λ xs. with_calls (map (value_of l) xs)) items in
    let count : length c.in_ok-in_calls.in_calls.items ≡ length (with_calls (v ∷ vs)) =
    sym (length-map (evaluation_of l) c.in_ok-in_calls.in_calls.items) ∙ ap length calls in
    let whole = c.in_ok-in_calls.in_calls.ok in
    let len1 = c.len.ensures in
    let len2 = c.len-else-len-eq2.ensures in
    let not2 = c.if-len-eq2.false in
    let not3 = c.if-len-eq3.false in
    let two : length (with_calls (v ∷ vs)) ≡ 2 → ⊥ = λ h. not2 (grind arith) in
    let three : length (with_calls (v ∷ vs)) ≡ 3 → ⊥ = λ h. not3 (grind arith) in
    let order : map (evaluation_of l) c.as_slice-2.result.now ≡ with_calls vs =
    ap (map (evaluation_of l)) c.as_slice-2.ensures.value ∙ c.in_ok-order.ensures.calls in
    ap (λ x. draw os x d) (unsequenced-one n (v ∷ vs) two three)
    ∙ first_of_all os d v vs
    ∙ ap (draw os v.evaluation) (sym (c.in_ok-arranged.ensures ∙ ap (λ es. draw os (arranged vs es) d) order))

pub arranged-operand-requires : goal.arranged-operand-requires
arranged-operand-requires t c =
    let fits = c.at-operand.ensures.fits in
    let most : most_depth c.as_slice-items.result.now ≤ max (most_depth c.args.operands.now)
    (most_depth c.args.order.now) =
    subst (λ xs. most_depth xs ≤ max (most_depth c.args.operands.now) (most_depth c.args.order.now))
    (sym c.as_slice-items.ensures.value) c.in_ok-sequence.ensures.depth in
    let deep = c.at-operand.ensures.depth in
    let smaller : depth c.at-operand.result.now + 1 < max (most_depth c.args.operands.now)
    (most_depth c.args.order.now) + 2 = omega arith in
    search rules

pub arranged-places-preserved : goal.arranged-places-preserved
arranged-places-preserved t c =
    let w = c.args.self.now in
    let l = tables w in
    let os = w.orders.now in
    let d = made w c.places.drawing in
    let xs = c.as_slice-items.result.now in
    let k = c.places.left - 1 in
    let o = c.at-operand.result.now in
    let some = c.places-test.true in
    let within = c.places.invariant.within in
    let next : c.places.left ≡ k + 1 = omega arith in
    record {
      within = omega arith;
      is =
          c.places.invariant.is
          ∙ ap (λ j. draw_all os (map (evaluation_of l) (take j xs)) d) next
          ∙ ap (λ ys. draw_all os (map (evaluation_of l) ys) d) c.at-operand.ensures.row
          ∙ draw_all-map_last l os (take k xs) o d
          ∙ ap (draw_all os (map (evaluation_of l) (take k xs))) (sym c.in_ok-operand.ensures);
    }
