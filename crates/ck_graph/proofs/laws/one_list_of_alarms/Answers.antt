use Rattle.ck_graph.proofs.OneList.{one-list}
use Rattle.ck_graph.proofs.laws.one_list_of_alarms.Goals as goal

pub returns : goal.returns
returns c = one-list
