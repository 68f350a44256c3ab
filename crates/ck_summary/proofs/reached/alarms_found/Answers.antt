use Rattle.std.proofs.Common.{◌≡◌, ◌+◌, sym, ap, subst, ◌∙◌, arith}
use Rattle.ck_graph.specs.declared.points.PointKind.TheVariants.{Act}
use Rattle.ck_graph.specs.Steps.{kind_at}
use Rattle.ck_summary.specs.Alarms.{AddsAlarms}
use Rattle.ck_summary.proofs.AlarmLemmas.{FoundSoFar, FoundSoFar-act, FoundSoFar-other, AreFound-from_all}
use Rattle.ck_summary.proofs.reached.alarms_found.Goals as goal
use Rattle.ck_summary.proofs.reached.alarms_found.Goals.{in-Act+in_ok-add_alarms, in_default}

pub loop-number-preserved : goal.loop-number-preserved
loop-number-preserved c =
    let flow = c.args.graph.now in
    let table = c.args.table.now.rows in
    let n = c.loop-number.number in
    let old = c.loop-number.found.items in
    elim c.match-kind.branch [
      | in-Act+in_ok-add_alarms w ↦
          let is : kind_at flow n ≡ Act w.in-Act.op w.in-Act.field-1 = sym c.kind.ensures ∙ w.in-Act.is in
          subst (λ items. FoundSoFar flow table items (n + 1)) (sym (ap (λ v. v.items) w.found-is))
          (FoundSoFar-act flow table old w.add_alarms.new.found.items n w.in-Act.op w.in-Act.field-1 is
          (subst (λ rows. AddsAlarms w.in-Act.op rows n old w.add_alarms.new.found.items) w.rows.ensures
          w.in_ok-add_alarms.ensures) c.loop-number.invariant)
      | in_default w ↦
          subst (λ items. FoundSoFar flow table items (n + 1)) (sym (ap (λ v. v.items) w.found-is))
          (FoundSoFar-other flow table old n (λ op name e. w.in_default.not-Act op name (c.kind.ensures ∙ e))
          c.loop-number.invariant)
    ]

pub returns : goal.returns
returns c = AreFound-from_all c.args.graph.now c.args.table.now.rows c.loop-number.found.items c.loop-number.number
    (omega (arith, c.points-number-end.ensures.count)) c.loop-number.invariant
