use Rattle.std.proofs.Common.{◌≡◌, [], ◌∷◌, ◌++◌, true, length, ap, subst, sym, ◌∙◌, arith}
use Rattle.std.specs.List.{list_all}
use Rattle.ck_passages.specs.Drawing.{draw}
use Rattle.ck_points.specs.Initialising.{declaring, declared}
use Rattle.ck_tables.specs.Numbers.{numbers, declarator_fits}
use Rattle.ck_tables.specs.Program.{with_initialisers, readings}
use Rattle.ck_tables.specs.StmtTable.{declarators_of, plain_declared_facts, plain_initialiser}
use Rattle.ck_bodies.specs.Walks.{tables, made}
use Rattle.ck_bodies.proofs.Drawing.{declarators-last}
use Rattle.ck_bodies.proofs.Rows.{list_all-last}
use Rattle.ck_bodies.proofs.walk.BodyWalk.declarators.Goals as goal

pub declarator-requires : goal.declarator-requires
declarator-requires c =
    let test = declarator_fits (numbers (tables c.args.self.now)) in
    (list_all-last test c.in-Some.last.1.now c.in-Some.last.0.now
    (subst (λ xs. list_all test xs ≡ true) c.in-Some.ensures.cases.0 c.rest.invariant.fits)).1

pub rest-preserved : goal.rest-preserved
rest-preserved c =
    let w = c.args.self.now in
    let l = tables w in
    let π = c.args.path.now in
    let rest = c.in-Some.last.1.now in
    let x = c.in-Some.last.0.now in
    let b = with_initialisers l in
    let d = made w c.rest.drawing in
    let test = declarator_fits (numbers l) in
    let e : c.rest.rest.now ≡ rest ++ (x ∷ []) = c.in-Some.ensures.cases.0 in
    record {
      fits = (list_all-last test rest x (subst (λ xs. list_all test xs ≡ true) e c.rest.invariant.fits)).0;
      is =
          c.rest.invariant.is
          ∙ ap (λ ds. draw [] (declaring π 0 (declarators_of b ds)) d) e
          ∙ declarators-last b π (length rest) 0 rest x d (omega arith)
          ∙ ap (draw [] (declaring π 0 (declarators_of b rest))) (sym c.in_ok-declarator.ensures);
    }
