use Rattle.std.proofs.Common.{◌≡◌, [], false, length, drop, refl, sym, subst, arith}
use Rattle.ck_tables.specs.Program.{with_initialisers}
use Rattle.ck_tables.specs.StmtTable.{declarators_of}
use Rattle.ck_counts.specs.Weights.{AreDeclared}
use Rattle.ck_counts.proofs.Lists.{drop-none}
use Rattle.ck_counts.proofs.declarations.all_declared.Goals as goal

pub each-init : goal.each-init
each-init c =
    let row = c.args.row.now in
    let none : AreDeclared (record { counted = c.plain.result; initialised = false })
    (declarators_of (with_initialisers c.args.program.now.linked) []) =
    record { counted_are = c.plain.ensures 0 c.of.ensures; initialised_is = refl } in
    record {
      low = omega arith;
      known = c.requires.known;
      are =
          subst
          (λ ds. AreDeclared (record { counted = c.plain.result; initialised = false })
          (declarators_of (with_initialisers c.args.program.now.linked) ds))
          (sym (drop-none row (length row) (omega arith))) none;
    }
