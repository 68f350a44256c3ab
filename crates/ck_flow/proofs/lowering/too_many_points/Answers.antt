use Rattle.std.proofs.Common.{refl, ap}
use Rattle.ck_base.specs.declared.refusals.Spot.TheVariants.{At}
use Rattle.ck_flow.proofs.Names.{row-of}
use Rattle.ck_tables.specs.Program.{functions}
use Rattle.ck_tables.specs.ProgramRows.{function_name}
use Rattle.ck_flow.proofs.lowering.too_many_points.Goals as goal

pub returns : goal.returns
returns c = λ f there passes.
    let fs = functions c.args.program.now.linked in
    record {
      function = f;
      passes = passes;
      kind = refl;
      at =
          ap (λ t. At t.span)
          (row-of function_name fs c.args.id.0 f c.function_name-name.result there c.function_name-name.ensures);
    }
