use Rattle.std.proofs.Common.{◌∷◌, drop, ap, sym, ◌∙◌}
use Rattle.ck_grammar.specs.StatementsWritten.{declared, more_declared}
use Rattle.ck_syntax.specs.DeclarationViews.{declared_tree, declared_trees}
use Rattle.ck_syntax.specs.Ends.{first}
use Rattle.ck_syntax.proofs.RowEnds.{begins_with, first-declared}
use Rattle.ck_syntax.proofs.statement_ends.after_declarator.Goals as goal

pub returns-in-None-len1-up : goal.returns-in-None-len1-up
returns-in-None-len1-up g c more =
    let ds = c.as_slice.result.now in
    let next = c.next-item.result in
    let after = c.args.semicolon ∷ more in
    ap (λ i. first (declared (declared_tree i (declared_trees c.args.others.now.items)) after)) c.in-None-len1-up.is-0
    ∙ ap (λ ds. first (more_declared (declared_trees ds) after))
    (sym c.as_slice.ensures.value ∙ begins_with ds next c.in-None-len1-up.len_at_least c.next-item.is)
    ∙ first-declared next.comma next.declarator next.initialiser (declared_trees (drop 1 ds)) after
