use Rattle.std.proofs.Common.{◌<◌, ◌≤◌, length, get_or, pos, ap, subst, sym, ◌∙◌}
use Rattle.std.specs.Ordering.{int_eq}
use Rattle.ck_passages.proofs.OperandLists.{read-within, read-past}
use Rattle.ck_passages.proofs.tests.is_zero.Goals as goal

pub returns-then-at-numbers : goal.returns-then-at-numbers
returns-then-at-numbers c =
    let i = c.args.value.0 in
    let e = c.as_slice-numbers.ensures ∙ ap (λ l. l.values.rows.items) c.linked.ensures in
    c.is_nought.ensures
    ∙ ap (λ v. int_eq v (pos 0))
    (ap (λ xs. get_or xs i (pos 0)) e
    ∙ sym (read-within c.args.program.now.linked.values.rows.items i (pos 0)
    (subst (λ xs. i < length xs) e c.if-at-numbers.true)))

pub returns-else-at-numbers : goal.returns-else-at-numbers
returns-else-at-numbers c =
    ap (λ v. int_eq v (pos 0)) (sym (read-past c.args.program.now.linked.values.rows.items c.args.value.0
    (subst (λ xs. length xs ≤ c.args.value.0) (c.as_slice-numbers.ensures
    ∙ ap (λ l. l.values.rows.items) c.linked.ensures) c.if-at-numbers.false)))
