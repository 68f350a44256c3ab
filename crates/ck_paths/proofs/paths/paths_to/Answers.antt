use Rattle.std.proofs.Common.{◌≡◌, ◌++◌, ℕ, List, ◌∷◌, [], map, get_or, sym, ap, ◌∙◌, subst}
use Rattle.std.specs.List.{All}
use Rattle.std.proofs.lemmas.List.{map-append, take_more}
use Rattle.std.proofs.lemmas.List.Elements.{All-push}
use Rattle.ck_graph.specs.declared.entries.Root.{Root}
use Rattle.ck_graph.specs.Forbidden.{ReachesAlarm}
use Rattle.ck_summary.specs.declared.reached.AlarmAt.{AlarmAt}
use Rattle.ck_summary.specs.Alarms.{alarm_of}
use Rattle.ck_texts.specs.declared.verdicts.Alarm.{Alarm}
use Rattle.ck_paths.specs.Promise.{HasPath, at_of}
use Rattle.ck_paths.proofs.AlarmPlaces.{raised-from_reached, contains-alarm}
use Rattle.ck_paths.proofs.paths.paths_to.Goals as goal

pub path_in-requires-clause-raised : goal.path_in-requires-clause-raised
path_in-requires-clause-raised c =
    let flow = c.args.graph.now in
    let alarms : List AlarmAt = c.args.alarms.now in
    let k : ℕ = c.loop-alarm.alarm-index in
    let alarm : AlarmAt = get_or alarms k _ in
    let reaches : ReachesAlarm flow c.args.roots.now.list.items (alarm_of alarm) =
    (c.requires.alarms.exactly (alarm_of alarm)).0 (contains-alarm alarms k _ c.loop-alarm-test.true) in
    raised-from_reached flow c.deref.result.now c.in_ok-found.found.places.items (alarm_of alarm)
    c.in_ok-found.ensures.all
    (subst (λ (roots : List Root). ReachesAlarm flow roots (alarm_of alarm)) (sym c.deref.ensures.value) reaches)

pub loop-alarm-preserved : goal.loop-alarm-preserved
loop-alarm-preserved c =
    let flow = c.args.graph.now in
    let roots : List Root = c.args.roots.now.list.items in
    let alarms : List AlarmAt = c.args.alarms.now in
    let k : ℕ = c.loop-alarm.alarm-index in
    let old : List Alarm = c.loop-alarm.list.items in
    let one : Alarm = record { at = get_or alarms k _; path = c.in_ok-path.path } in
    let items : c.push.new.self.items ≡ old ++ one ∷ [] = c.in_ok-push.ensures.items in
    let path : HasPath flow roots one =
    subst (λ (rs : List Root). HasPath flow rs one) c.deref-in-loop-alarm.ensures.value c.in_ok-path.ensures in
    record {
      same =
          ap (λ (xs : List Alarm). map at_of xs) items ∙
          (map-append at_of old (one ∷ []) ∙
          (ap (λ xs. xs ++ one.at ∷ []) c.loop-alarm.invariant.same ∙
          sym (take_more alarms k _ c.loop-alarm-test.true)));
      paths =
          subst (λ (xs : List Alarm). All (HasPath flow roots) xs) (sym items)
          (All-push (HasPath flow roots) old one c.loop-alarm.invariant.paths path);
    }
