use Rattle.std.proofs.Common.{◌+◌, refl, arith}
use Rattle.std.specs.List.{list_all}
use Rattle.ck_call_rows.proofs.Added.{leads_start}
use Rattle.ck_call_rows.proofs.Elements.{holds-next}
use Rattle.ck_call_rows.proofs.Loops.{each_more}
use Rattle.ck_call_rows.specs.Walks.{tables, path_of}
use Rattle.ck_prog.specs.Calls.{calls_in_given, calls_in_declarators}
use Rattle.ck_prog.specs.Paths as part
use Rattle.ck_prog.specs.Paths.{below}
use Rattle.ck_tables.specs.Numbers.{numbers, declarator_fits}
use Rattle.ck_tables.specs.Program.{with_initialisers}
use Rattle.ck_tables.specs.StmtTable.{declarators_of, plain_initialiser}
use Rattle.ck_call_rows.proofs.walk.Walk.declarators.Goals as goal

pub each-preserved : goal.each-preserved
each-preserved c =
    let l = tables c.args.self.now in
    let π = path_of c.args.path.now in
    let xs = c.args.declared.now in
    let i = c.each.number in
    let low = c.each-test.true in
    let test = declarator_fits (numbers l) in
    let b = with_initialisers l in
    record {
      fit = holds-next test (list_all test) (λ y ys. refl) xs i c.each.invariant.fit low;
      is =
          each_more c.args.self.now (λ k ys. calls_in_declarators π k (declarators_of b ys))
          (λ k y. calls_in_given (below π (part.InitialiserOf k)) (plain_initialiser b y.initialiser)) (λ k y ys. refl)
          _ _ _ i i (i + 1) c.index-declared-number.result xs _ c.each.invariant.is low
          c.index-declared-number.is (omega arith)
          c.in_ok-given.ensures;
    }

pub each-init : goal.each-init
each-init c = record { fit = c.requires; is = leads_start c.args.self.now _ _ }
