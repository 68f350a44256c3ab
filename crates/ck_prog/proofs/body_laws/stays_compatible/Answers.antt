use Rattle.ck_prog.proofs.TypesOverFiles.{stays_compatible}
use Rattle.ck_prog.proofs.body_laws.stays_compatible.Goals as goal

pub returns : goal.returns
returns c = stays_compatible
