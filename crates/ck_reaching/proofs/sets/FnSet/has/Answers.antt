use Rattle.std.proofs.Common.{◌↔◌, arith, sym, subst, IsTrue}
use Rattle.ck_reaching.specs.Sets.{Has}
use Rattle.ck_reaching.proofs.SetLemmas.{Has-read, Has-past}
use Rattle.ck_reaching.proofs.sets.FnSet.has.Goals as goal

pub returns-then-line-len : goal.returns-then-line-len
returns-then-line-len c =
    subst (λ s. IsTrue c.has_pair.result ↔ Has s c.args.function.0) c.self.view_is
    (Has-read c.self.inside.blocks.items c.args.function.0 c.index.result.now c.has_pair.result
    (omega (arith, c.if-line-len.true, c.len.ensures)) c.index.ensures c.has_pair.ensures)

pub returns-else-line-len : goal.returns-else-line-len
returns-else-line-len c = (
  λ t. absurd (cc t),
  λ h. absurd (Has-past c.self.inside.blocks.items c.args.function.0
      (omega (arith, c.if-line-len.false, c.len.ensures))
      (subst (λ s. Has s c.args.function.0) (sym c.self.view_is) h)),
)
