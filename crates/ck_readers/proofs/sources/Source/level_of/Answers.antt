use Rattle.std.proofs.Common.{sym}
use Rattle.ck_readers.proofs.LookLemmas.{level_by}
use Rattle.ck_readers.proofs.sources.Source.level_of.Goals as goal

pub returns-in-None : goal.returns-in-None
returns-in-None c =
    rw (← c.self.view_is) (sym (level_by _ _ c.args.token _ c.text.ensures c.in-None.ensures))
