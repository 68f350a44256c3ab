use Rattle.ck_tables.proofs.StmtLemmas.{keeps_twice, is_node_kept}
use Rattle.ck_tables.proofs.laws.statements_stay.Goals as goal

pub returns : goal.returns
returns c = record { keep = keeps_twice; stay = is_node_kept }
