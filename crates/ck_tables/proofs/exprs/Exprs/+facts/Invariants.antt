use Rattle.ck_tables.proofs.exprs.Exprs.+facts.Given as goal

abbrev pub decreases-facts : goal.decreases-facts
decreases-facts l = l.id.0
