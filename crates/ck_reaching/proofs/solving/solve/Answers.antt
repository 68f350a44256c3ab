use Rattle.std.proofs.Common.{sym, subst}
use Rattle.ck_reaching.specs.Work.{HasEdge}
use Rattle.ck_reaching.proofs.RuleLemmas.{solution}
use Rattle.ck_reaching.proofs.solving.solve.Goals as goal

pub returns : goal.returns
returns c =
    let entered = c.in_ok-enter_names.ensures in
    let settled = c.in_ok-settle.ensures in
    solution c.args.rules.now c.settle.new.work settled.none
    (λ n there. settled.kept n.to.0 n.function.0 (entered.names n there))
    (λ v there. settled.edges v.from.0 v.to.0
    (subst (λ t. HasEdge t v.from.0 v.to.0) (sym entered.edges) (c.in_ok-work.ensures.flows.all v there)))
    settled.closed settled.work
