use Rattle.std.proofs.Common.{◌<◌, ◌≤◌, ◌∙◌, ap, sym, subst, arith}
use Rattle.std.specs.Option.{MatchOption}
use Rattle.ck_base.specs.declared.spans.FnId.{FnId}
use Rattle.ck_reaching.specs.Sets.{Has}
use Rattle.ck_reaching.specs.Joins.{IsClearBetween}
use Rattle.ck_reaching.specs.Reached.{Holds, set_at}
use Rattle.ck_reaching.proofs.TableLemmas.{Holds-past, set_at-read}
use Rattle.ck_reaching.proofs.reached.Reached.next.Goals as goal

pub returns-then-cell-len : goal.returns-then-cell-len
returns-then-cell-len c =
    let table = c.self.inside.sets.items in
    let cell = c.args.cell.0 in
    let at = set_at-read table cell c.index.result.now (omega (arith, c.if-cell-len.true, c.len.ensures))
    c.index.ensures ∙ ap (λ t. set_at t cell) c.self.view_is in
    subst
    (λ s. MatchOption c.next.result (IsClearBetween s c.args.from c.args.end)
    (λ (f : FnId). (c.args.from ≤ f.0) × (f.0 < c.args.end) × Has s f.0 × IsClearBetween s c.args.from f.0)) at
    c.next.ensures

pub returns-else-cell-len : goal.returns-else-cell-len
returns-else-cell-len c = λ f up below h.
    Holds-past c.self.inside.sets.items c.args.cell.0 f (omega (arith, c.if-cell-len.false, c.len.ensures))
    (subst (λ t. Holds t c.args.cell.0 f) (sym c.self.view_is) h)
