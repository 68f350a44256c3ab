use Rattle.std.proofs.Common.{◌≡◌, ◌+◌, Bool, true, false, sym, ap, subst, ◌∙◌}
use Rattle.std.specs.Prelude.{if◌then◌else◌}
use Rattle.std.specs.List.{list_all}
use Rattle.ck_points.specs.Functions.{status_in_declaration}
use Rattle.ck_points.specs.Initialising.{has_initialiser}
use Rattle.ck_prog.specs.TypedBodies as bodies
use Rattle.ck_prog.specs.TypedBodies.{TypedDeclaration}
use Rattle.ck_tables.specs.ExprTable.{no_token}
use Rattle.ck_prog.specs.TypedTrees.{NoParts}
use Rattle.ck_tables.specs.Numbers.{numbers, declarator_fits}
use Rattle.ck_tables.specs.Program.{with_initialisers}
use Rattle.ck_tables.specs.StmtTable.{plain_declaration, declarators_of}
use Rattle.ck_counts.specs.BodyPoints.{declaration_points, declarators_points}
use Rattle.ck_counts.specs.Weights.{IsCounted, AreDeclared}
use Rattle.ck_counts.proofs.Fits.{declarators-fit}
use Rattle.ck_counts.proofs.Rows.{read-row, own-points}
use Rattle.ck_counts.proofs.declarations.declaration.Goals as goal
use Rattle.ck_counts.proofs.declarations.declaration.Goals.{then-all, else-all}

pub all_declared-requires-clause-fit : goal.all_declared-requires-clause-fit
all_declared-requires-clause-fit c =
    let n = numbers c.args.program.now.linked in
    subst (λ ds. list_all (declarator_fits n) ds ≡ true) (sym c.as_slice.ensures.value)
    (declarators-fit n c.declaration-row.result.now c.declaration-row.ensures.fits)

pub returns-clause-is : goal.returns-clause-is
returns-clause-is c =
    let l = c.args.program.now.linked in
    let b = with_initialisers l in
    let row = c.declaration-row.result.now in
    let ds = declarators_of b row.declared.items in
    let are = subst (λ xs. AreDeclared c.in_ok-all.all (declarators_of b xs)) c.as_slice.ensures.value
    c.in_ok-all.ensures.are in
    let own : c.if-all.own ≡ (if has_initialiser ds then 2 else 0) =
    elim c.if-all.branch [
      | then-all w ↦ own-points true (has_initialiser ds) c.if-all.own (sym w.if-all.true ∙ are.initialised_is) w.own-is
      | else-all w ↦ own-points false (has_initialiser ds) c.if-all.own (sym w.if-all.false ∙ are.initialised_is)
          w.own-is
    ] in
    let same = read-row (bodies.Declaration no_token NoParts bodies.NoDeclared) (plain_declaration b)
    l.declarations.rows.items c.args.d.0 row c.declaration-row.ensures.row in
    subst (λ d. IsCounted c.after.result (declaration_points d) (status_in_declaration d)) (sym same)
    (subst
    (λ m. IsCounted c.after.result (m + declarators_points ds)
    (status_in_declaration (plain_declaration b row))) own
    (c.after.ensures c.if-all.own (declarators_points ds) (status_in_declaration (plain_declaration b row))
    c.of.ensures are.counted_are))
