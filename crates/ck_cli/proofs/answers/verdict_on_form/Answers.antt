use Rattle.std.proofs.Common.{◌≡◌, [], Some, length, sym, ap, ◌∙◌}
use Rattle.ck_base.specs.declared.states.State.TheVariants.{TI}
use Rattle.ck_cli.specs.Walking.{walk}
use Rattle.ck_cli.proofs.VerdictLemmas.{alarm-inside}
use Rattle.ck_cli.proofs.answers.verdict_on_form.Goals as goal

pub rejected-requires-clause-acts : goal.rejected-requires-clause-acts
rejected-requires-clause-acts c =
    let alarm = c.in-Some.alarm in
    let calls = c.args.form.now.calls.items in
    let walked : walk TI [] calls ≡ Some (alarm.before.now, alarm.call, alarm.kind) = ap (walk TI [])
    (sym c.deref.ensures.value) ∙ sym c.in-Some.ensures in
    (alarm-inside (length c.args.source.now.bytes.now) calls alarm.before.now alarm.call alarm.kind walked
    c.requires.calls).0

pub rejected-requires-clause-last : goal.rejected-requires-clause-last
rejected-requires-clause-last c =
    let alarm = c.in-Some.alarm in
    let calls = c.args.form.now.calls.items in
    let walked : walk TI [] calls ≡ Some (alarm.before.now, alarm.call, alarm.kind) = ap (walk TI [])
    (sym c.deref.ensures.value) ∙ sym c.in-Some.ensures in
    (alarm-inside (length c.args.source.now.bytes.now) calls alarm.before.now alarm.call alarm.kind walked
    c.requires.calls).1
