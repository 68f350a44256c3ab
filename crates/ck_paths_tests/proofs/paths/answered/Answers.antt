use Rattle.std.proofs.Common.{List, sym, subst}
use Rattle.ck_graph.specs.Forbidden.{AreAlarms}
use Rattle.ck_summary.specs.declared.reached.AlarmAt.{AlarmAt}
use Rattle.ck_summary.specs.Alarms.{alarms_of}
use Rattle.ck_paths_tests.proofs.paths.answered.Goals as goal

pub paths_to-requires-clause-alarms : goal.paths_to-requires-clause-alarms
paths_to-requires-clause-alarms c =
    subst (λ (xs : List AlarmAt). AreAlarms c.in_ok-graph.graph c.in_ok-roots.roots.list.items (alarms_of xs))
    (sym c.deref.ensures.value)
    (c.in_ok-found.ensures c.in_ok-roots.roots.list.items c.solve.ensures.solved)
