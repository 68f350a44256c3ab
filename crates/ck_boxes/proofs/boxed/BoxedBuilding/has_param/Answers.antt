use Rattle.std.proofs.Common.{length, ap}
use Rattle.ck_boxes.proofs.RowQuestions.{params_end}
use Rattle.ck_boxes.proofs.boxed.BoxedBuilding.has_param.Goals as goal

pub returns : goal.returns
returns g c rest =
    params_end c.args.row.now.row.items (length c.as_slice.result.now) c.is_empty.result rest
    (ap length c.as_slice.ensures.value) c.is_empty.ensures
