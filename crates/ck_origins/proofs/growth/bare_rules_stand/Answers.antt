use Rattle.ck_origins.proofs.Growing.{bare_rules_stand}
use Rattle.ck_origins.proofs.growth.bare_rules_stand.Goals as goal

pub returns : goal.returns
returns c = bare_rules_stand
