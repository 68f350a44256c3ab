use Rattle.std.proofs.Common.{◌∷◌, refl, ap, sym, ◌∙◌}
use Rattle.ck_grammar.specs.Written.{written, operands, suffixes}
use Rattle.ck_syntax.specs.ExpressionViews.{expr_tree, operand_trees, suffix_trees}
use Rattle.ck_syntax.proofs.EndLemmas.{first_along}
use Rattle.ck_syntax.proofs.Equations as views
use Rattle.ck_syntax.proofs.expressions.Expr.+first_token.Goals as goal

pub returns-in-Name : goal.returns-in-Name
returns-in-Name g t c = first_along written _ (ap expr_tree c.in-Name.is ∙ views.expr_tree-Name _ _) (λ more. refl)

pub returns-in-Constant : goal.returns-in-Constant
returns-in-Constant g t c = first_along written _ (ap expr_tree c.in-Constant.is ∙ views.expr_tree-Constant _ _)
    (λ more. refl)

pub returns-in-Strings : goal.returns-in-Strings
returns-in-Strings g t c = first_along written _ (ap expr_tree c.in-Strings.is ∙ views.expr_tree-Strings _ _)
    (λ more. refl)

pub returns-in-Paren : goal.returns-in-Paren
returns-in-Paren g t c = first_along written _ (ap expr_tree c.in-Paren.is ∙ views.expr_tree-Paren _ _ _) (λ more. refl)

pub returns-in-Unary : goal.returns-in-Unary
returns-in-Unary g t c = first_along written _ (ap expr_tree c.in-Unary.is ∙ views.expr_tree-Unary _ _) (λ more. refl)

pub returns-in-SizeofType : goal.returns-in-SizeofType
returns-in-SizeofType g t c = first_along written _ (ap expr_tree c.in-SizeofType.is ∙ views.expr_tree-SizeofType _ _)
    (λ more. refl)

pub returns-in-Postfix : goal.returns-in-Postfix
returns-in-Postfix g t c = first_along written _ (ap expr_tree c.in-Postfix.is ∙ views.expr_tree-Postfix _ _)
    (λ more. first_along (λ e. written (expr_tree e)) _ (sym c.deref.ensures) c.first_token.ensures
    (suffixes (suffix_trees c.in-Postfix.suffixes.items) more))

pub returns-in-Chain : goal.returns-in-Chain
returns-in-Chain g t c = first_along written _ (ap expr_tree c.in-Chain.is ∙ views.expr_tree-Chain _ _)
    (λ more. first_along (λ e. written (expr_tree e)) _ (sym c.deref-in-Chain.ensures) c.first_token-in-Chain.ensures
    (operands (operand_trees c.in-Chain.operands.items) more))

pub returns-in-Conditional : goal.returns-in-Conditional
returns-in-Conditional g t c = first_along written _
    (ap expr_tree c.in-Conditional.is ∙ views.expr_tree-Conditional _ _ _ _ _)
    (λ more. first_along (λ e. written (expr_tree e)) _ (sym c.deref-in-Conditional.ensures)
    c.first_token-in-Conditional.ensures (c.in-Conditional.question ∷ written (expr_tree c.in-Conditional.then.value)
    (c.in-Conditional.colon ∷ written (expr_tree c.in-Conditional.otherwise.value) more)))

pub returns-in-Assignment : goal.returns-in-Assignment
returns-in-Assignment g t c = first_along written _
    (ap expr_tree c.in-Assignment.is ∙ views.expr_tree-Assignment _ _ _)
    (λ more. first_along (λ e. written (expr_tree e)) _ (sym c.deref-in-Assignment.ensures)
    c.first_token-in-Assignment.ensures
    (c.in-Assignment.operator ∷ written (expr_tree c.in-Assignment.value.value) more))
