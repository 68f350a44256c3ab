use Rattle.std.proofs.Common.{arith, ◌≡◌, ◌∙◌, refl, to_z, of_z, int_div}
use mir.Syntax.{w128}
use Rattle.std.proofs.lemmas.Int.{ints, to_z-of_z}
use Rattle.ck_types.proofs.Quotients.{with_quotient-nonzero, int_eq-nonzero}
use Rattle.ck_types.proofs.operators.divide.Goals as goal

-- src/operators.rt:235:1
pub returns-else-y-eq0 : goal.returns-else-y-eq0
returns-else-y-eq0 c =
    let x = to_z-of_z w128 c.args.x c.ranges.x in
    let y = to_z-of_z w128 c.args.y c.ranges.y in
    let q : to_z w128 (of_z w128 c.quotient.result) ≡ c.quotient.result = omega (arith, ints) in
    let o : to_z w128 (of_z w128 c.quotient-else-y-eq0.result) ≡ c.quotient-else-y-eq0.result = omega (arith, ints) in
    let i : c.quotient.result ≡ int_div c.args.x c.args.y = c.quotient.ensures ∙ rw (x, y) refl in
    let j : c.quotient-else-y-eq0.result ≡ int_div c.args.x c.args.y = c.quotient-else-y-eq0.ensures ∙ rw (x, y) refl in
    with_quotient-nonzero c.args.of c.args.x c.args.y _ _ _ c.where_represented.result c.where_represented.ensures
    (int_eq-nonzero c.args.y c.if-y-eq0.false) (q ∙ i) (o ∙ j)
