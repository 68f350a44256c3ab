use Rattle.std.proofs.Common.{List, sym, subst}
use Rattle.ck_graph.specs.declared.entries.Root.{Root}
use Rattle.ck_graph.specs.Forbidden.{ReachesAlarm}
use Rattle.ck_summary.specs.Alarms.{alarm_of}
use Rattle.ck_paths.proofs.AlarmPlaces.{raised-from_reached}
use Rattle.ck_paths.proofs.paths.path_to.Goals as goal

pub path_in-requires-clause-raised : goal.path_in-requires-clause-raised
path_in-requires-clause-raised c =
    raised-from_reached c.args.graph.now c.deref.result.now c.in_ok-found.found.places.items (alarm_of c.args.alarm.now)
    c.in_ok-found.ensures.all
    (subst (λ (roots : List Root). ReachesAlarm c.args.graph.now roots (alarm_of c.args.alarm.now))
    (sym c.deref.ensures.value) c.requires.alarm)
