use Rattle.ck_boxes.proofs.RowQuestions.{abstract_shows}
use Rattle.ck_boxes.proofs.questions.shows_parts.Goals as goal

pub returns : goal.returns
returns g c =
    abstract_shows c.args.stars.now c.args.dims.now c.is_empty.result c.is_empty-2.result c.is_empty.ensures
    c.if-not-is_empty.false c.is_empty-2.ensures
