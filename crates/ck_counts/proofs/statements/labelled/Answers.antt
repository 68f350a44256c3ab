use Rattle.ck_counts.proofs.statements.labelled.Goals as goal

pub returns : goal.returns
returns c = c.after.ensures 2 _ _ c.of.ensures c.part.ensures
