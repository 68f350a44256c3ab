use Rattle.std.proofs.Common.{Some, ◌∷◌, ◌++◌, [], refl, ap, sym, ◌∙◌}
use Rattle.ck_grammar.proofs.Appended.{written_appended, declarator_appended}
use Rattle.ck_grammar.specs.Trees as plain
use Rattle.ck_grammar.specs.Written.{written, operands, suffixes, specifiers, declarator}
use Rattle.ck_syntax.specs.Ends.{last_after}
use Rattle.ck_syntax.specs.ExpressionViews.{expr_tree, operand_before, operand_trees, suffix_before, suffix_trees}
use Rattle.ck_syntax.specs.ExpressionViews.{specifier_trees, declarator_tree}
use Rattle.ck_syntax.proofs.EndLemmas.{last_along, last-written, last-specifiers, closes}
use Rattle.ck_syntax.proofs.Equations as views
use Rattle.ck_syntax.proofs.RowEnds.{last_behind, last_unwrap, last_of-tokens, last-row, no-row}
use Rattle.ck_syntax.proofs.RowEnds.{operand_rows, suffix_rows}
use Rattle.ck_syntax.proofs.expressions.Expr.+last_token.Goals as goal

pub returns-in-Strings : goal.returns-in-Strings
returns-in-Strings g t c =
    let e = c.in-Strings in
    last_along written _ (ap expr_tree e.is ∙ views.expr_tree-Strings _ _)
    (last_unwrap (◌∷◌ e.first) (◌++◌ e.others.items) _ _ c.unwrap_or.ensures (λ before more. refl)
    (last_of-tokens e.others.items c.last_of.ensures))

pub returns-in-Paren : goal.returns-in-Paren
returns-in-Paren g t c =
    let e = c.in-Paren in
    last_along written e.closing (ap expr_tree e.is ∙ views.expr_tree-Paren _ _ _)
    (λ before more. last-written (Some e.opening) (expr_tree e.inner.value) (e.closing ∷ more))

-- a primary expression alone, and its last suffix
pub returns-in-empty : goal.returns-in-empty
returns-in-empty g t c =
    let e = c.in-Postfix in
    let primary = last_along (λ e. written (expr_tree e)) _ (sym c.deref.ensures) c.last_token.ensures in
    let none = ap suffix_trees (sym c.as_slice.ensures.value)
    ∙ no-row suffix_before plain.NoSuffixes c.as_slice.result.now c.in-empty.len_below in
    last_along written _
    (ap expr_tree e.is ∙ views.expr_tree-Postfix _ _ ∙ ap (plain.Postfix (expr_tree e.primary.value)) none) primary

pub returns-in-len1-up : goal.returns-in-len1-up
returns-in-len1-up g t c =
    let e = c.in-Postfix in
    let primary = expr_tree e.primary.value in
    let row = suffix_trees c.as_slice.result.now in
    last_along written _ (ap expr_tree e.is ∙ views.expr_tree-Postfix _ _
    ∙ ap (λ ss. plain.Postfix primary (suffix_trees ss)) (sym c.as_slice.ensures.value))
    (last_behind (written primary) (suffixes row) (written_appended primary) _
    (last-row suffixes suffix_before plain.NoSuffixes suffix_rows c.as_slice.result.now c.suffix-item.result _
    c.in-len1-up.len_at_least c.suffix-item.is c.last_token-in-len1-up.ensures))

pub returns-in-SizeofType : goal.returns-in-SizeofType
returns-in-SizeofType g t c =
    let e = c.in-SizeofType in
    let n = c.deref-in-SizeofType.result.now in
    let s = specifier_trees n.specifiers.items in
    let d = declarator_tree n.declarator in
    last_along written n.closing
    (ap expr_tree e.is ∙ views.expr_tree-SizeofType _ _
    ∙ ap (λ n. plain.SizeofType e.keyword n.opening (specifier_trees n.specifiers.items) (declarator_tree n.declarator)
    n.closing) (sym c.deref-in-SizeofType.ensures))
    (λ before more. last-specifiers (Some n.opening) s (declarator d (n.closing ∷ more))
    ∙ closes (declarator d) (declarator_appended d) (last_after (Some n.opening) (specifiers s [])) n.closing more)

pub returns-in-Cast : goal.returns-in-Cast
returns-in-Cast g t c =
    let e = c.in-Cast in
    let n = e.type_name.value in
    let s = specifier_trees n.specifiers.items in
    let d = declarator_tree n.declarator in
    let operand = last_along (λ e. written (expr_tree e)) _ (sym c.deref-in-Cast.ensures)
    c.last_token-in-Cast.ensures in
    let after = written (expr_tree e.operand.value) in
    last_along written _ (ap expr_tree e.is ∙ views.expr_tree-Cast _ _)
    (λ before more. last-specifiers (Some n.opening) s (declarator d (n.closing ∷ after more))
    ∙ closes (declarator d) (declarator_appended d) (last_after (Some n.opening) (specifiers s [])) n.closing
    (after more)
    ∙ operand (Some n.closing) more)

-- a first operand alone, and the last operand of a chain
pub returns-in-empty-as_slice : goal.returns-in-empty-as_slice
returns-in-empty-as_slice g t c =
    let e = c.in-Chain in
    let operand = last_along (λ e. written (expr_tree e)) _ (sym c.deref-in-empty-as_slice.ensures)
    c.last_token-in-empty-as_slice.ensures in
    let none = ap operand_trees (sym c.as_slice-in-Chain.ensures.value)
    ∙ no-row operand_before plain.NoOperands c.as_slice-in-Chain.result.now c.in-empty-as_slice.len_below in
    last_along written _
    (ap expr_tree e.is ∙ views.expr_tree-Chain _ _ ∙ ap (plain.Chain (expr_tree e.first.value)) none) operand

pub returns-in-len1-up-as_slice : goal.returns-in-len1-up-as_slice
returns-in-len1-up-as_slice g t c =
    let e = c.in-Chain in
    let operand = c.operand-item.result in
    let one = expr_tree e.first.value in
    let row = operand_trees c.as_slice-in-Chain.result.now in
    last_along written _ (ap expr_tree e.is ∙ views.expr_tree-Chain _ _
    ∙ ap (λ os. plain.Chain one (operand_trees os)) (sym c.as_slice-in-Chain.ensures.value))
    (last_behind (written one) (operands row) (written_appended one) _
    (last-row operands operand_before plain.NoOperands operand_rows c.as_slice-in-Chain.result.now operand _
    c.in-len1-up-as_slice.len_at_least c.operand-item.is
    (λ before more. c.last_token-in-len1-up-as_slice.ensures (Some operand.operator) more)))

pub returns-in-Conditional : goal.returns-in-Conditional
returns-in-Conditional g t c =
    let e = c.in-Conditional in
    let last = last_along (λ e. written (expr_tree e)) _ (sym c.deref-in-Conditional.ensures)
    c.last_token-in-Conditional.ensures in
    let after = written (expr_tree e.otherwise.value) in
    last_along written _ (ap expr_tree e.is ∙ views.expr_tree-Conditional _ _ _ _ _)
    (λ before more. last-written before (expr_tree e.test.value)
    (e.question ∷ written (expr_tree e.then.value) (e.colon ∷ after more))
    ∙ last-written (Some e.question) (expr_tree e.then.value) (e.colon ∷ after more)
    ∙ last (Some e.colon) more)

pub returns-in-Assignment : goal.returns-in-Assignment
returns-in-Assignment g t c =
    let e = c.in-Assignment in
    let last = last_along (λ e. written (expr_tree e)) _ (sym c.deref-in-Assignment.ensures)
    c.last_token-in-Assignment.ensures in
    last_along written _ (ap expr_tree e.is ∙ views.expr_tree-Assignment _ _ _)
    (λ before more. last-written before (expr_tree e.target.value)
    (e.operator ∷ written (expr_tree e.value.value) more)
    ∙ last (Some e.operator) more)
