use Rattle.std.proofs.Common.{sym, subst}
use Rattle.ck_base.specs.declared.spans.FnId.{FnId}
use Rattle.ck_paths.specs.Search.{AreCallersOf}
use Rattle.ck_paths.proofs.search.pass_on.Goals as goal

pub pass_exit-requires-clause-callers : goal.pass_exit-requires-clause-callers
pass_exit-requires-clause-callers c =
    subst (λ (f : FnId). AreCallersOf c.args.graph.now f.0 c.args.callers.now) (sym c.function.ensures)
    c.requires.callers
