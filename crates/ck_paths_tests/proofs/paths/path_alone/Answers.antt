use Rattle.std.proofs.Common.{◌<◌, List, length, get_or, sym, subst, arith}
use Rattle.ck_graph.specs.Forbidden.{AreAlarms, ReachesAlarm}
use Rattle.ck_summary.specs.declared.reached.AlarmAt.{AlarmAt}
use Rattle.ck_summary.specs.Alarms.{alarm_of, alarms_of}
use Rattle.ck_paths.proofs.AlarmPlaces.{contains-alarm}
use Rattle.ck_paths_tests.proofs.paths.path_alone.Goals as goal

pub path_to-requires-clause-alarm : goal.path_to-requires-clause-alarm
path_to-requires-clause-alarm c =
    let flow = c.in_ok-graph.graph in
    let found : List AlarmAt = c.in_ok-found.found.items in
    let some : 0 < length c.in_ok-found.found.items =
    omega (arith, c.len.ensures, c.in_ok-found.found.ok.0) in
    let are : AreAlarms flow c.in_ok-roots.roots.list.items (alarms_of found) =
    c.in_ok-found.ensures c.in_ok-roots.roots.list.items c.solve.ensures.solved in
    let alarm : AlarmAt = c.index.result.now in
    subst (λ (x : AlarmAt). ReachesAlarm flow c.in_ok-roots.roots.list.items (alarm_of x)) (sym c.index.ensures)
    ((are.exactly (alarm_of (get_or found 0 alarm))).0 (contains-alarm found 0 alarm some))
