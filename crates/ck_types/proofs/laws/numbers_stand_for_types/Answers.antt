use Rattle.ck_types.proofs.Entries.{numbers-stand}
use Rattle.ck_types.proofs.laws.numbers_stand_for_types.Goals as goal

pub returns : goal.returns
returns c = numbers-stand
