use Rattle.std.proofs.Common.{◌≡◌, ◌<◌, ap, sym, subst, ◌∙◌, arith}
use Rattle.std.specs.Prelude.{true}
use Rattle.ck_kinds.proofs.ActLemmas.{below, op-row, op_of_row}
use Rattle.ck_points.specs.Graphs.{op_of}
use Rattle.ck_tables.specs.ProgramRows.{act_fits, outside_count}
use Rattle.ck_call_rows.specs.TypedRows.{outside_ops}
use Rattle.ck_kinds.proofs.kinds.op_of.Goals as goal

pub op-requires : goal.op-requires
op-requires c =
    let r = c.args.program.now.rows in
    below _ _ (subst (λ a. act_fits (outside_count r) a ≡ true) c.in-Kernel.is c.requires)

pub outside_function-requires : goal.outside_function-requires
outside_function-requires c =
    let r = c.args.program.now.rows in
    let less : c.in-Outside.number < outside_count r =
    below _ _ (subst (λ a. act_fits (outside_count r) a ≡ true) c.in-Outside.is c.requires) in
    omega (arith, less)

pub returns-in-Kernel : goal.returns-in-Kernel
returns-in-Kernel c =
    let r = c.args.program.now.rows in
    op-row _ c.op.result c.op.ensures ∙ ap (op_of (outside_ops r)) (sym c.in-Kernel.is)

pub returns-in-Outside : goal.returns-in-Outside
returns-in-Outside c =
    let r = c.args.program.now.rows in
    op_of_row r c.in-Outside.number c.outside_function.result c.outside_function.ensures.row
    ∙ ap (op_of (outside_ops r)) (sym c.in-Outside.is)
