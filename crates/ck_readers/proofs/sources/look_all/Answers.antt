use Rattle.ck_readers.proofs.LookLemmas.{looks_step}
use Rattle.ck_readers.proofs.sources.look_all.Goals as goal

pub tokens-preserved : goal.tokens-preserved
tokens-preserved c = (
  looks_step _ _ _ _ _ _ _ _ _ _ c.tokens-test.true c.tokens.invariant.0 c.look_at.ensures.kept
      c.in_ok-push.ensures.items c.text.ensures c.in_ok-look_at.ensures.told,
  c.look_at.ensures.distinct,
)
