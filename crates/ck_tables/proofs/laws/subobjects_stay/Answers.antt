use Rattle.ck_tables.proofs.SubobjectLemmas.{keeps_twice, is_node_kept}
use Rattle.ck_tables.proofs.laws.subobjects_stay.Goals as goal

pub returns : goal.returns
returns c = record { keep = keeps_twice; stay = is_node_kept }
