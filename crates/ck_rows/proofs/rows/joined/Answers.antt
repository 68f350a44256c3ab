use Rattle.ck_rows.proofs.Unions.{union-fits}
use Rattle.ck_rows.proofs.rows.joined.Goals as goal

pub returns-clause-fits : goal.returns-clause-fits
returns-clause-fits c = union-fits c.args.masks c.args.others c.fits-masks.1 c.fits-others.1
