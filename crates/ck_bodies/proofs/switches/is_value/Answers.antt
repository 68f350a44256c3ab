use Rattle.std.proofs.Common.{◌<◌, ◌≤◌, length, get_or, pos, ap, subst, sym, ◌∙◌}
use Rattle.std.specs.Ordering.{int_eq}
use Rattle.ck_bodies.proofs.Rows.{read-within, read-past}
use Rattle.ck_bodies.proofs.switches.is_value.Goals as goal

pub returns-then-at-numbers : goal.returns-then-at-numbers
returns-then-at-numbers c =
    let i = c.args.value.0 in
    let e = c.as_slice-numbers.ensures ∙ ap (λ l. l.values.rows.items) c.linked.ensures in
    c.are_equal.ensures
    ∙ ap (λ v. int_eq v c.args.number.now)
    (ap (λ xs. get_or xs i (pos 0)) e
    ∙ sym (read-within c.args.program.now.linked.values.rows.items i (pos 0)
    (subst (λ xs. i < length xs) e c.if-at-numbers.true)))

pub returns-else-at-numbers : goal.returns-else-at-numbers
returns-else-at-numbers c =
    c.are_equal-else-at-numbers.ensures
    ∙ ap (λ v. int_eq v c.args.number.now) (sym (read-past c.args.program.now.linked.values.rows.items c.args.value.0
    (subst (λ xs. length xs ≤ c.args.value.0) (c.as_slice-numbers.ensures
    ∙ ap (λ l. l.values.rows.items) c.linked.ensures) c.if-at-numbers.false)))
