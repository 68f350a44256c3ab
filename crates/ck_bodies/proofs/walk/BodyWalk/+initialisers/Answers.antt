use Rattle.std.proofs.Common.{rules, ◌≡◌, ◌<◌, ◌+◌, ◌*◌, [], ◌∷◌, ◌++◌, true, length, ap, subst, sym, ◌∙◌, arith}
use Rattle.ck_passages.specs.Drawing.{draw}
use Rattle.ck_points.specs.Initialising.{initialising, initialising_from}
use Rattle.ck_tables.specs.InitTable.{row_of, row_below}
use Rattle.ck_tables.specs.Program.{with_expressions}
use Rattle.ck_bodies.specs.Walks.{tables, made, initialiser, element_initialiser}
use Rattle.ck_bodies.proofs.Drawing.{elements-last}
use Rattle.ck_bodies.proofs.Rows.{row_below-last}
use Rattle.ck_bodies.proofs.walk.BodyWalk.+initialisers.Goals as goal

pub elements-initialiser-requires : goal.elements-initialiser-requires
elements-initialiser-requires t c =
    let of = c.args.of.0 in
    let xs = c.rest.rest.now in
    let rest = c.in-Some.last.1.now in
    let x = c.in-Some.last.0.now in
    let e : xs ≡ rest ++ (x ∷ []) = c.in-Some.ensures.cases.0 in
    let b = row_below-last of rest x (subst (λ ys. row_below of ys ≡ true) e c.rest.invariant.below) in
    let less : c.initialiser_of-element.result.0 < of =
    subst (λ i. i.0 < of) (sym c.initialiser_of-element.ensures) b.1 in
    let node : of < length (tables c.args.self.now).inits = c.requires.node in
    let known : c.initialiser_of-element.result.0 < length (tables c.args.self.now).inits = omega arith in
    let smaller : 2 * c.initialiser_of-element.result.0 + 1 < 2 * of = omega arith in
    search rules

pub elements-rest-preserved : goal.elements-rest-preserved
elements-rest-preserved t c =
    let w = c.args.self.now in
    let l = tables w in
    let π = c.args.path.now in
    let of = c.args.of.0 in
    let xs = c.rest.rest.now in
    let rest = c.in-Some.last.1.now in
    let x = c.in-Some.last.0.now in
    let b = with_expressions l in
    let f = initialiser l in
    let d = made w c.rest.drawing in
    let e : xs ≡ rest ++ (x ∷ []) = c.in-Some.ensures.cases.0 in
    let last = row_below-last of rest x (subst (λ ys. row_below of ys ≡ true) e c.rest.invariant.below) in
    record {
      below = last.0;
      is =
          c.rest.invariant.is
          ∙ ap (λ ys. draw [] (initialising_from π 0 (row_of b f ys)) d) e
          ∙ elements-last b f π (length rest) 0 rest x d (omega arith)
          ∙ ap (draw [] (initialising_from π 0 (row_of b f rest)))
          (sym
          (c.in_ok-initialiser.ensures
          ∙ ap (λ p. draw [] (initialising p (f c.initialiser_of-element.result.0)) d)
          (c.as_slice.ensures.value ∙ c.in_ok-inside.ensures)
          ∙ ap (λ i. draw [] (initialising (π ++ (length rest ∷ [])) (f i.0)) d) c.initialiser_of-element.ensures));
    }
