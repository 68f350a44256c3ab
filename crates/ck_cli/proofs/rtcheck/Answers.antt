use Rattle.std.proofs.Common.{arith, subst, sym, ◌∙◌}
use Rattle.ck_cli.specs.Promise.{IsOnlyAnswer}
use Rattle.ck_cli.proofs.OneAnswer.{low_number, only_answer}
use Rattle.ck_cli.proofs.Quiet.{accepted_by_number, quiet_answer, quiet_told}
use Rattle.ck_cli.proofs.WordLemmas.{low_is_not_silent}
use Rattle.ck_cli.proofs.rtcheck.Goals as goal

-- an answer that was written has a number below those of the causes
pub returns-in-Ok-write_all-clause-command : goal.returns-in-Ok-write_all-clause-command
returns-in-Ok-write_all-clause-command g c check is =
    omega (arith, low_number c.in-Ok.ensures.answers c.code-in-Ok-write_all.ensures)

pub returns-in-Ok-write_all-clause-untouched : goal.returns-in-Ok-write_all-clause-untouched
returns-in-Ok-write_all-clause-untouched g c is =
    absurd (omega (arith, low_number c.in-Ok.ensures.answers c.code-in-Ok-write_all.ensures))

pub returns-in-Ok-write_all-clause-read_fault : goal.returns-in-Ok-write_all-clause-read_fault
returns-in-Ok-write_all-clause-read_fault g c is =
    absurd (omega (arith, low_number c.in-Ok.ensures.answers c.code-in-Ok-write_all.ensures))

pub returns-in-Ok-write_all-clause-write_fault : goal.returns-in-Ok-write_all-clause-write_fault
returns-in-Ok-write_all-clause-write_fault g c is =
    absurd (omega (arith, low_number c.in-Ok.ensures.answers c.code-in-Ok-write_all.ensures))

pub returns-in-Ok-write_all-clause-partly : goal.returns-in-Ok-write_all-clause-partly
returns-in-Ok-write_all-clause-partly g c is =
    absurd (omega (arith, low_number c.in-Ok.ensures.answers c.code-in-Ok-write_all.ensures))

pub returns-in-Ok-write_all-clause-unwritten : goal.returns-in-Ok-write_all-clause-unwritten
returns-in-Ok-write_all-clause-unwritten g c silent =
    absurd (low_is_not_silent _ (low_number c.in-Ok.ensures.answers c.code-in-Ok-write_all.ensures) silent)

-- the answer, and its text as it was written
pub returns-in-Ok-write_all-clause-only : goal.returns-in-Ok-write_all-clause-only
returns-in-Ok-write_all-clause-only g c has =
    let told = g.F.Folder.told c.args.folder.now in
    subst (IsOnlyAnswer told) (sym c.code-in-Ok-write_all.ensures) (only_answer told _ _ c.in-Ok.ensures.answers)

pub returns-in-Ok-write_all-clause-reports : goal.returns-in-Ok-write_all-clause-reports
returns-in-Ok-write_all-clause-reports g c has = record {
  status = c.in-Ok.answer.status;
  number = c.code-in-Ok-write_all.ensures;
  text = c.in-Ok.answer.text.items;
  answers = c.in-Ok.ensures.answers;
  taken = rw (sym c.deref.ensures.value) c.in-Ok-write_all.ensures.written;
  quiet = quiet_answer _ _ _ c.in-Ok.ensures.answers.answer;
}

pub returns-in-Ok-write_all-clause-quiet : goal.returns-in-Ok-write_all-clause-quiet
returns-in-Ok-write_all-clause-quiet g c zero_is =
    quiet_told (g.F.Folder.told c.args.folder.now) _ _ c.in-Ok.ensures.answers
    (accepted_by_number _ (sym c.code-in-Ok-write_all.ensures ∙ zero_is))
