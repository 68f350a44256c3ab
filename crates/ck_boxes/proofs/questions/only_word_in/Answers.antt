use Rattle.std.proofs.Common.{sym}
use Rattle.ck_boxes.proofs.RowQuestions.{only_word_long}
use Rattle.ck_boxes.proofs.questions.only_word_in.Goals as goal

pub returns-in_default-2 : goal.returns-in_default-2
returns-in_default-2 g c = sym (only_word_long c.args.specifiers.now c.in_default.len_at_least)
