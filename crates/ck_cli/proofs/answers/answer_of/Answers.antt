use Rattle.std.proofs.Common.{subst}
use Rattle.ck_cli.specs.MainFile.{IsFound}
use Rattle.ck_cli.specs.Verdict.{IsVerdict}
use Rattle.ck_cli.proofs.AnswerLemmas.{Answers-missing, Answers-too_large, Answers-read}
use Rattle.ck_cli.proofs.answers.answer_of.Goals as goal

pub returns-in_ok-refused-in-Missing-clause-answers : goal.returns-in_ok-refused-in-Missing-clause-answers
returns-in_ok-refused-in-Missing-clause-answers g c =
    let told = g.F.Folder.told c.args.folder.now in
    let answer = c.in_ok-refused-in-Missing.ensures in
    Answers-missing told _ _ (subst (IsFound told) c.in-Missing.is c.in_ok-main_file.ensures.found) answer.0 answer.1

pub returns-in_ok-refused-in-TooLarge-clause-answers : goal.returns-in_ok-refused-in-TooLarge-clause-answers
returns-in_ok-refused-in-TooLarge-clause-answers g c =
    let told = g.F.Folder.told c.args.folder.now in
    let answer = c.in_ok-refused-in-TooLarge.ensures in
    Answers-too_large told _ _ (subst (IsFound told) c.in-TooLarge.is c.in_ok-main_file.ensures.found) answer.0 answer.1

pub returns-in_ok-verdict-in-Read-clause-answers : goal.returns-in_ok-verdict-in-Read-clause-answers
returns-in_ok-verdict-in-Read-clause-answers g c =
    let told = g.F.Folder.told c.args.folder.now in
    let answer = c.in_ok-verdict-in-Read.field-0 in
    Answers-read told c.in-Read.bytes.items answer.status answer.text.items
    (subst (IsFound told) c.in-Read.is c.in_ok-main_file.ensures.found)
    (subst (λ bytes. IsVerdict bytes answer.status answer.text.items) c.deref.ensures.value
    c.in_ok-verdict-in-Read.ensures)
