use Rattle.ck_rows.specs.Relation.{rows_of}
use Rattle.ck_rows.proofs.Compositions.{AreComposed}
use Rattle.ck_rows.proofs.rows.image.Given as goal

abbrev pub invariant-steps : goal.invariant-steps
invariant-steps l = AreComposed (rows_of l.chosen) (rows_of l.step) (rows_of l.all) l.j
