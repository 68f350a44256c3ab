use Rattle.std.proofs.Common.{◌+◌, ◌/◌, ◌∙◌, ap, subst}
use Rattle.ck_reaching.specs.Rules.{width}
use Rattle.ck_reaching.specs.Growth.{IsSized}
use Rattle.ck_reaching.proofs.StartLemmas.{IsWorkOf-new}
use Rattle.ck_reaching.proofs.solving.work_of.Goals as goal

pub returns-clause-work : goal.returns-clause-work
returns-clause-work c =
    let s = c.args.rules.now in
    let reached = c.in_ok-reached.reached in
    let sized = subst (λ n. IsSized n (width s) reached) c.cells.ensures.count
    (subst (λ n. IsSized c.cells.result (n / 256 + 1) reached) c.functions.ensures.count
    c.in_ok-reached.ensures.sized) in
    IsWorkOf-new s reached c.in_ok-listed.listed c.in_ok-edges.edges c.in_ok-scratch.scratch c.cells.ensures.in_range
    sized c.in_ok-reached.ensures.empty (c.in_ok-listed.ensures.size ∙ c.cells-2.ensures.count)
    (c.in_ok-scratch.ensures.size ∙ ap (λ n. n / 256 + 1) c.functions-2.ensures.count) c.in_ok-edges.ensures
