use Rattle.std.proofs.Common.{◌≡◌, ◌<◌, ◌+◌, ◌*◌, [], ◌∷◌, ◌++◌, length, true, refl, sym, ap, subst, ◌∙◌, arith, rules}
use Rattle.ck_call_rows.proofs.Added.{leads_start}
use Rattle.ck_call_rows.proofs.Elements.{holds-next}
use Rattle.ck_call_rows.proofs.FirstElements.{element-first}
use Rattle.ck_call_rows.proofs.Loops.{each_more}
use Rattle.ck_call_rows.specs.Walks.{tables, initialiser, element_initialiser, path_of, Adds}
use Rattle.ck_prog.specs.Calls.{calls_in_initialiser, calls_in_initialisers}
use Rattle.ck_prog.specs.Paths as part
use Rattle.ck_prog.specs.Paths.{below}
use Rattle.ck_tables.specs.InitTable.{row_of, row_below, item_below}
use Rattle.ck_tables.specs.Program.{with_expressions}
use Rattle.ck_call_rows.proofs.walk.Walk.+initialisers.Goals as goal

pub elements-each-preserved : goal.elements-each-preserved
elements-each-preserved t c =
    let w = c.args.self.now in
    let l = tables w in
    let π = path_of c.args.path.now in
    let xs = c.args.row.now in
    let i = c.each.number in
    let low = c.each-test.true in
    let x = c.index-row-number.result in
    let mid = c.each.rows.rows.items in
    let new = c.initialiser.new.rows.rows.items in
    record {
      below =
          holds-next (item_below c.args.of.0) (row_below c.args.of.0) (λ y ys. refl) xs i c.each.invariant.below low;
      is =
          each_more w (λ k ys. calls_in_initialisers π k (row_of (with_expressions l) (initialiser l) ys))
          (λ k y. calls_in_initialiser (below π (part.ElementOf k)) (initialiser l (element_initialiser y).0))
          (element-first l π) _ _ _ i i (i + 1) x xs _ c.each.invariant.is low c.index-row-number.is (omega arith)
          (subst (λ j. Adds w mid new (calls_in_initialiser (below π (part.ElementOf i)) (initialiser l j.0)))
          c.initialiser_of.ensures
          (subst (λ p. Adds w mid new (calls_in_initialiser p (initialiser l c.initialiser_of.result.0)))
          c.below-inside.ensures c.in_ok-initialiser.ensures));
    }

pub elements-each-init : goal.elements-each-init
elements-each-init t c = record { below = c.requires.below; is = leads_start c.args.self.now _ _ }
