use Rattle.std.proofs.Common.{◌≡◌, ◌+◌, [], ◌∷◌, ◌++◌, sym, ap, subst, ◌∙◌}
use Rattle.ck_summary.specs.declared.reached.AlarmAt.{AlarmAt}
use Rattle.ck_summary.proofs.AlarmLemmas.{AddedSoFar, AddedSoFar-stays, AddedSoFar-pushed, AddsAlarms-from_all}
use Rattle.ck_summary.proofs.reached.add_alarms.Goals as goal
use Rattle.ck_summary.proofs.reached.add_alarms.Goals.{in-Some+in_ok-push, in_default}

pub loop-number-preserved : goal.loop-number-preserved
loop-number-preserved c =
    let op = c.args.op in
    let rows = c.args.rows.now in
    let point = c.args.point.0 in
    let old = c.args.found.now.items in
    let n = c.loop-number.number in
    elim c.match-alarm_from.branch [
      | in-Some+in_ok-push w ↦
          let alarm : AlarmAt = record { point = c.args.point; kind = w.in-Some.kind } in
          let items_are : c.match-alarm_from.found.items ≡ c.loop-number.found.items ++ alarm ∷ [] =
          ap (λ v. v.items) w.found-is ∙ w.in_ok-push.ensures.items in
          subst (λ items. AddedSoFar op rows point old items (n + 1)) (sym items_are)
          (AddedSoFar-pushed op rows n alarm old c.loop-number.found.items w.in-Some.ensures
          c.loop-number.invariant)
      | in_default w ↦
          subst (λ items. AddedSoFar op rows point old items (n + 1)) (sym (ap (λ v. v.items) w.found-is))
          (AddedSoFar-stays op rows point old c.loop-number.found.items n w.in_default.ensures
          c.loop-number.invariant)
    ]

pub returns : goal.returns
returns c = AddsAlarms-from_all c.args.op c.args.rows.now c.args.point.0 c.args.found.now.items
    c.loop-number.found.items c.loop-number.number c.loop-number-test.false c.loop-number.invariant
