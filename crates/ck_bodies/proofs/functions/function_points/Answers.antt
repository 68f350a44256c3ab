use Rattle.std.proofs.Common.{[], sym, ap, ◌∙◌}
use Rattle.ck_passages.specs.Points.{added}
use Rattle.ck_points.specs.Functions.{points}
use Rattle.ck_tables.specs.Program.{functions, plain_body}
use Rattle.ck_bodies.specs.DrawnFunctions.{draw_whole}
use Rattle.ck_bodies.proofs.FunctionsDrawn.{drawn-points, whole-drawn, same-row}
use Rattle.ck_bodies.proofs.functions.function_points.Goals as goal

pub returns : goal.returns
returns c =
    let l = c.args.program.now.linked in
    let g = plain_body l c.body-body.result.now in
    record {
      are = λ f row.
          sym (drawn-points l c.in_ok-drawing.drawing)
          ∙ ap (λ d. d.points) (c.in_ok-drawing.ensures ∙ ap (λ n. draw_whole n g.items) c.name_of-name.ensures)
          ∙ whole-drawn g
          ∙ ap (λ h. added [] (points h))
          (same-row (functions l) c.args.id.0 g f c.body-body.ensures.function row);
    }
