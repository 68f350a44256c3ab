use Rattle.ck_summary.proofs.AlarmSets.{AreAlarms-from_solution}
use Rattle.ck_summary.proofs.reached.alarms.Goals as goal

pub returns : goal.returns
returns c = λ roots solved.
    AreAlarms-from_solution c.args.graph.now roots c.args.table.now.rows c.in_ok-found.found.items
    c.put_in_order.new.found.items c.in_ok-found.ensures c.in_ok-put_in_order.ensures solved
