use Rattle.std.proofs.Common.{length}
use Rattle.ck_types.proofs.constants.+first_representing.Given as goal

abbrev pub decreases-first_representing : goal.decreases-first_representing
decreases-first_representing l = length l.types.now
