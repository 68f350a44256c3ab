use Rattle.std.proofs.Common.{◌≡◌, ◌<◌, ◌^◌, length, subst, sym, arith}
use Rattle.std.proofs.lemmas.Slice.Zip.{AllZip-long}
use Rattle.ck_base.specs.declared.refusals.Refusal.{Refusal}
use Rattle.ck_flow.proofs.Names.{got-within}
use Rattle.ck_flow.specs.PointLimit.{IsPastLimit}
use Rattle.ck_numbering.specs.Counts.{AreCounts}
use Rattle.ck_tables.specs.Program.{functions, plain_body}
use Rattle.ck_flow.proofs.lowering.keep_limit.Goals as goal

pub function_past_limit-requires : goal.function_past_limit-requires
function_past_limit-requires c =
    let long = AllZip-long _ _ _ c.in_ok-counted.ensures in
    let count = c.requires in
    let small : length c.in_ok-counted.counted.items < 2 ^ 32 = omega (arith, long, count, c.ranges.count) in
    subst (λ ns. length ns < 2 ^ 32) (sym c.as_slice.ensures.value) small

pub too_many_points-requires : goal.too_many_points-requires
too_many_points-requires c =
    let l = c.args.program.now.linked in
    let are = subst (AreCounts (functions l)) (sym c.as_slice.ensures.value) c.in_ok-counted.ensures in
    let found = c.in-Some.ensures.some (functions l) are in
    got-within (plain_body l) l.bodies.rows.items c.in-Some.id.0 found.0 found.1

pub returns-in-Some-clause-refused : goal.returns-in-Some-clause-refused
returns-in-Some-clause-refused c = λ refusal same.
    let fs = functions c.args.program.now.linked in
    let are = subst (AreCounts fs) (sym c.as_slice.ensures.value) c.in_ok-counted.ensures in
    let found = c.in-Some.ensures.some fs are in
    let own : c.too_many_points.result ≡ refusal = cc in
    subst (IsPastLimit fs) own (c.too_many_points.ensures found.0 found.1 found.2)

pub returns-clause-kept : goal.returns-clause-kept
returns-clause-kept c =
    let fs = functions c.args.program.now.linked in
    c.in-None.ensures.none fs (subst (AreCounts fs) (sym c.as_slice.ensures.value) c.in_ok-counted.ensures)
