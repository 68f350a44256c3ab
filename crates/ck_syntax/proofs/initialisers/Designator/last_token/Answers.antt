use Rattle.std.proofs.Common.{Some, ◌∷◌, ap, ◌∙◌}
use Rattle.ck_grammar.specs.StatementsWritten.{designators}
use Rattle.ck_syntax.specs.Ends.{last_after}
use Rattle.ck_syntax.specs.ExpressionViews.{expr_tree}
use Rattle.ck_syntax.specs.InitialiserViews.{designator_before}
use Rattle.ck_syntax.proofs.EndLemmas.{last-written}
use Rattle.ck_syntax.proofs.initialisers.Designator.last_token.Goals as goal

pub returns-in-AtIndex : goal.returns-in-AtIndex
returns-in-AtIndex g c before rest more =
    ap (λ d. last_after before (designators (designator_before d rest) more)) c.in-AtIndex.is
    ∙ last-written (Some c.in-AtIndex.opening) (expr_tree c.in-AtIndex.index.value)
    (c.in-AtIndex.closing ∷ designators rest more)
