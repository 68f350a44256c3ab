use Rattle.std.proofs.Common.{arith}
use Rattle.std.proofs.lemmas.List.{length-map}
use Rattle.ck_flow.proofs.Names.{row-got}
use Rattle.ck_flow.proofs.Permuted.{are-drafts}
use Rattle.ck_tables.specs.Program.{functions, plain_body}
use Rattle.ck_flow.proofs.lowering.function_drafts.Goals as goal

pub function_points-requires : goal.function_points-requires
function_points-requires c =
    let l = c.args.program.now.linked in
    omega (arith, c.requires.there, length-map l.bodies.rows.items (plain_body l))

pub returns : goal.returns
returns c = λ f there.
    let l = c.args.program.now.linked in
    let i = c.args.id.0 in
    are-drafts l c.args.program.now.rows i f c.in_ok-points.points.items c.in_ok-drafts.drafts.items
    (c.in_ok-points.ensures.are f (row-got (functions l) i f there)) (c.in_ok-drafts.ensures f there)
