use Rattle.std.proofs.Common.{◌↔◌, arith, IsTrue, sym, subst}
use Rattle.ck_reaching.specs.Reached.{Holds}
use Rattle.ck_reaching.proofs.TableLemmas.{Holds-read, Holds-past}
use Rattle.ck_reaching.proofs.reached.Reached.reaches.Goals as goal

pub returns-then-cell-len : goal.returns-then-cell-len
returns-then-cell-len c =
    let cell = c.args.cell.0 in
    let f = c.args.function.0 in
    subst (λ t. IsTrue c.has.result ↔ Holds t cell f) c.self.view_is
    (Holds-read c.self.inside.sets.items cell f c.index.result.now c.has.result
    (omega (arith, c.if-cell-len.true, c.len.ensures)) c.index.ensures c.has.ensures)

pub returns-else-cell-len : goal.returns-else-cell-len
returns-else-cell-len c = (
  λ t. absurd (cc t),
  λ h. absurd (Holds-past c.self.inside.sets.items c.args.cell.0 c.args.function.0
      (omega (arith, c.if-cell-len.false, c.len.ensures))
      (subst (λ t. Holds t c.args.cell.0 c.args.function.0) (sym c.self.view_is) h)),
)
