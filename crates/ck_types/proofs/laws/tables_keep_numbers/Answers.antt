use Rattle.ck_types.proofs.Entries.{numbers-kept}
use Rattle.ck_types.proofs.laws.tables_keep_numbers.Goals as goal

pub returns : goal.returns
returns c = numbers-kept
