use Rattle.ck_reaching.specs.Reaching.{Reached}
use Rattle.ck_reaching.proofs.solving.connect_if_target.Goals as goal

pub connect-requires-clause-target : goal.connect-requires-clause-target
connect-requires-clause-target c =
    Reached (c.is_of_kind.ensures.0 c.if-not-is_of_kind.false) c.requires.reaches
