use Rattle.std.proofs.Common.{Some, ◌∷◌, ap, sym, ◌∙◌}
use Rattle.ck_grammar.specs.StatementsWritten.{statement, items}
use Rattle.ck_grammar.specs.Written.{written}
use Rattle.ck_syntax.specs.DeclarationViews.{for_start_tree}
use Rattle.ck_syntax.specs.ExpressionViews.{expr_tree}
use Rattle.ck_syntax.specs.StatementViews.{statement_tree, item_trees, expr_option}
use Rattle.ck_syntax.proofs.EndLemmas.{last_along, closes, last-written}
use Rattle.ck_syntax.proofs.StatementEquations as views
use Rattle.ck_syntax.proofs.StatementsAppended.{items_appended, statement_appended, last-for}
use Rattle.ck_syntax.proofs.statements.Stmt.+last_token.Goals as goal

pub returns-in-Block : goal.returns-in-Block
returns-in-Block g t c = last_along statement c.in-Block.closing
    (ap statement_tree c.in-Block.is ∙ views.statement_tree-Block _ _ _)
    (λ before more. closes (items (item_trees c.in-Block.items.items))
    (items_appended (item_trees c.in-Block.items.items)) (Some c.in-Block.opening) c.in-Block.closing more)

pub returns-in-ExpressionStatement : goal.returns-in-ExpressionStatement
returns-in-ExpressionStatement g t c = last_along statement c.in-ExpressionStatement.semicolon
    (ap statement_tree c.in-ExpressionStatement.is ∙ views.statement_tree-ExpressionStatement _ _)
    (λ before more. last-written before (expr_tree c.in-ExpressionStatement.expr)
    (c.in-ExpressionStatement.semicolon ∷ more))

pub returns-in-Do : goal.returns-in-Do
returns-in-Do g t c =
    let test = c.in-Do.test.value in
    last_along statement c.in-Do.semicolon (ap statement_tree c.in-Do.is ∙ views.statement_tree-Do _ _ _ _ _)
    (λ before more. closes (statement (statement_tree c.in-Do.body.value))
    (statement_appended (statement_tree c.in-Do.body.value)) (Some c.in-Do.keyword) c.in-Do.while_keyword
    (test.opening ∷ written (expr_tree test.expr) (test.closing ∷ c.in-Do.semicolon ∷ more))
    ∙ last-written (Some test.opening) (expr_tree test.expr) (test.closing ∷ c.in-Do.semicolon ∷ more))

pub returns-in-ReturnValue : goal.returns-in-ReturnValue
returns-in-ReturnValue g t c = last_along statement c.in-ReturnValue.semicolon
    (ap statement_tree c.in-ReturnValue.is ∙ views.statement_tree-ReturnValue _ _ _)
    (λ before more. last-written (Some c.in-ReturnValue.keyword) (expr_tree c.in-ReturnValue.value.value)
    (c.in-ReturnValue.semicolon ∷ more))

pub returns-in-If : goal.returns-in-If
returns-in-If g t c =
    let test = c.in-If.test.value in
    last_along statement c.last_token.result
    (ap statement_tree c.in-If.is ∙ views.statement_tree-If _ _ _)
    (λ before more. last-written (Some test.opening) (expr_tree test.expr)
    (test.closing ∷ statement (statement_tree c.in-If.then.value) more)
    ∙ last_along (λ s. statement (statement_tree s)) c.last_token.result (sym c.deref.ensures) c.last_token.ensures
    (Some test.closing) more)

pub returns-in-Switch : goal.returns-in-Switch
returns-in-Switch g t c =
    let value = c.in-Switch.value.value in
    last_along statement c.last_token-in-Switch.result
    (ap statement_tree c.in-Switch.is ∙ views.statement_tree-Switch _ _ _)
    (λ before more. last-written (Some value.opening) (expr_tree value.expr)
    (value.closing ∷ statement (statement_tree c.in-Switch.body.value) more)
    ∙ last_along (λ s. statement (statement_tree s)) c.last_token-in-Switch.result (sym c.deref-in-Switch.ensures)
    c.last_token-in-Switch.ensures
    (Some value.closing) more)

pub returns-in-While : goal.returns-in-While
returns-in-While g t c =
    let test = c.in-While.test.value in
    last_along statement c.last_token-in-While.result
    (ap statement_tree c.in-While.is ∙ views.statement_tree-While _ _ _)
    (λ before more. last-written (Some test.opening) (expr_tree test.expr)
    (test.closing ∷ statement (statement_tree c.in-While.body.value) more)
    ∙ last_along (λ s. statement (statement_tree s)) c.last_token-in-While.result (sym c.deref-in-While.ensures)
    c.last_token-in-While.ensures
    (Some test.closing) more)

pub returns-in-IfElse : goal.returns-in-IfElse
returns-in-IfElse g t c =
    let test = c.in-IfElse.test.value in
    last_along statement c.last_token-in-IfElse.result
    (ap statement_tree c.in-IfElse.is ∙ views.statement_tree-IfElse _ _ _ _ _)
    (λ before more. last-written (Some test.opening) (expr_tree test.expr)
    (test.closing ∷ statement (statement_tree c.in-IfElse.then.value)
    (c.in-IfElse.else_keyword ∷ statement (statement_tree c.in-IfElse.otherwise.value) more))
    ∙ closes (statement (statement_tree c.in-IfElse.then.value))
    (statement_appended (statement_tree c.in-IfElse.then.value)) (Some test.closing) c.in-IfElse.else_keyword
    (statement (statement_tree c.in-IfElse.otherwise.value) more)
    ∙ last_along (λ s. statement (statement_tree s)) c.last_token-in-IfElse.result (sym c.deref-in-IfElse.ensures)
    c.last_token-in-IfElse.ensures (Some c.in-IfElse.else_keyword) more)

pub returns-in-Case : goal.returns-in-Case
returns-in-Case g t c = last_along statement c.last_token-in-Case.result
    (ap statement_tree c.in-Case.is ∙ views.statement_tree-Case _ _ _ _)
    (λ before more. last-written (Some c.in-Case.keyword) (expr_tree c.in-Case.value.value)
    (c.in-Case.colon ∷ statement (statement_tree c.in-Case.body.value) more)
    ∙ last_along (λ s. statement (statement_tree s)) c.last_token-in-Case.result (sym c.deref-in-Case.ensures)
    c.last_token-in-Case.ensures (Some c.in-Case.colon) more)

pub returns-in-For : goal.returns-in-For
returns-in-For g t c =
    let head = c.in-For.head.value in
    last_along statement c.last_token-in-For.result
    (ap statement_tree c.in-For.is ∙ views.statement_tree-For _ _ _)
    (λ before more. last-for (Some head.opening) (for_start_tree head.start) (expr_option head.test) head.semicolon
    (expr_option head.step) head.closing (statement (statement_tree c.in-For.body.value) more)
    ∙ last_along (λ s. statement (statement_tree s)) c.last_token-in-For.result (sym c.deref-in-For.ensures)
    c.last_token-in-For.ensures (Some head.closing) more)
