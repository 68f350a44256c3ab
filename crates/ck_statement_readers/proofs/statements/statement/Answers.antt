use Rattle.std.proofs.Common.{drop, ap, sym, ◌∙◌}
use Rattle.ck_grammar.specs.Levels.{comma}
use Rattle.ck_grammar.specs.ReadingStatements.{expression_statement, read_statement, statement_by}
use Rattle.ck_readers.specs.SourceView.{words}
use Rattle.ck_statement_readers.proofs.FirstTokens.{first_is, label_is, expr_is}
use Rattle.ck_statement_trees.proofs.Wholes.{read_from}
use Rattle.ck_statement_readers.specs.Steps.{label_after}
use Rattle.ck_statement_readers.proofs.statements.statement.Goals as goal

pub returns-then-opens_label : goal.returns-then-opens_label
returns-then-opens_label g c e d s es ds ss =
    let w = words c.args.source.now in
    let found = c.in-Some.first in
    read_from g.T.BuildingStatements.statement (read_statement w e d s) (label_after w s found.0)
    c.args.source.now.tokens c.args.at found.2 (λ h. c.in-Some.ensures.within)
    (first_is w e d s c.args.source.now.tokens c.args.at found c.in-Some.ensures
    ∙ label_is w e d s found.1 found.0 (drop found.2 c.args.source.now.tokens)
    (sym c.opens_label.ensures ∙ c.if-opens_label.true))
    c.label.result (c.label.ensures s ss)

pub returns-then-begins_expression : goal.returns-then-begins_expression
returns-then-begins_expression g c e d s es ds ss =
    let w = words c.args.source.now in
    let found = c.in-Some.first in
    read_from g.T.BuildingStatements.statement (read_statement w e d s) (expression_statement w (e comma))
    c.args.source.now.tokens c.args.at c.args.at (λ h. h)
    (first_is w e d s c.args.source.now.tokens c.args.at found c.in-Some.ensures
    ∙ expr_is w e d s found.1 found.0 (drop found.2 c.args.source.now.tokens)
    (sym c.opens_label.ensures ∙ c.if-opens_label.false)
    (sym c.begins_expression.ensures ∙ c.if-begins_expression.true)
    ∙ ap (expression_statement w (e comma)) (sym c.in-Some.ensures.token))
    c.expression_statement.result (c.expression_statement.ensures e es)

pub returns : goal.returns
returns g c e d s es ds ss =
    let w = words c.args.source.now in
    let found = c.in-Some.first in
    read_from g.T.BuildingStatements.statement (read_statement w e d s) (statement_by w e d s found.1 found.0)
    c.args.source.now.tokens c.args.at found.2 (λ h. c.in-Some.ensures.within)
    (first_is w e d s c.args.source.now.tokens c.args.at found c.in-Some.ensures)
    c.statement_by.result
    (c.statement_by.ensures e d s es ds ss (sym c.begins_expression.ensures ∙ c.if-begins_expression.false))
