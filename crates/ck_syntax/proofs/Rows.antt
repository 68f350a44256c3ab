-- A vector inside a tree is a row of the tree's data; here each row is seen as the list of its elements.
use Rattle.std.proofs.Common.{◌≡◌, Vec, refl, ap, sym, ◌∙◌}
use Rattle.ck_grammar.specs.Trees as plain
use Rattle.ck_syntax.specs.Rows.{row_before}
use Rattle.ck_syntax.specs.ExpressionViews as views
use Rattle.ck_syntax.specs.ExpressionViews.{expr_tree, declarator_tree, operand_row, operand_trees, suffix_row}
use Rattle.ck_syntax.specs.ExpressionViews.{suffix_trees, specifier_row, specifier_trees, member_row, member_trees}
use Rattle.ck_syntax.specs.ExpressionViews.{declarator_row, declarator_trees, dim_row, dim_trees, parameter_row}
use Rattle.ck_syntax.specs.ExpressionViews.{parameter_before, enumerator_row, earlier_enumerator_before}
use Rattle.ck_syntax.specs.declared.declarators.Declarator.TheBlock as block
use Rattle.ck_syntax.specs.declared.declarators.Dim.{Dim}
use Rattle.ck_syntax.specs.declared.declarators.NextDeclarator.{NextDeclarator}
use Rattle.ck_syntax.specs.declared.declarators.NextParameter.{NextParameter}
use Rattle.ck_syntax.specs.declared.expressions.Operand.{Operand}
use Rattle.ck_syntax.specs.declared.expressions.Suffix.{Suffix}
use Rattle.ck_syntax.specs.declared.specifiers.EarlierEnumerator.{EarlierEnumerator}
use Rattle.ck_syntax.specs.declared.specifiers.Member.{Member}
use Rattle.ck_syntax.specs.declared.specifiers.Specifier.{Specifier}

operand_row-items : {A : Type 0} (n : _) (k : block.Row_of-Operand A n)
    → operand_row k ≡ operand_trees (block.items-the_row-Operand A n k)
unfolding expr_tree
operand_row-items _ block.end_of-Operand = refl
operand_row-items {A} _ (block.more_of-Operand {n} operator operand others) =
    ap (plain.Operand operator (expr_tree operand)) (operand_row-items n others)

pub operand_row-hidden : {A : Type 0} (v : Vec (Operand A) A)
    → operand_row (block.hidden-the_row-Operand-4 A v) ≡ operand_trees v.items
operand_row-hidden {A} v =
    operand_row-items _ (block.hidden-the_row-Operand-4 A v)
    ∙ ap operand_trees (block.items_hidden-the_row-Operand-4 A v)

suffix_row-items : {A : Type 0} (n : _) (k : block.Row_of-Suffix A n)
    → suffix_row k ≡ suffix_trees (block.items-the_row-Suffix A n k)
unfolding expr_tree
suffix_row-items _ block.end_of-Suffix = refl
suffix_row-items {A} _ (block.more_of-Suffix {n} suffix others) =
    ap (views.suffix_before suffix) (suffix_row-items n others)

pub suffix_row-hidden : {A : Type 0} (v : Vec (Suffix A) A)
    → suffix_row (block.hidden-the_row-Suffix-3 A v) ≡ suffix_trees v.items
suffix_row-hidden {A} v =
    suffix_row-items _ (block.hidden-the_row-Suffix-3 A v)
    ∙ ap suffix_trees (block.items_hidden-the_row-Suffix-3 A v)

specifier_row-items : {A : Type 0} (n : _) (k : block.Row_of-Specifier A n)
    → specifier_row k ≡ specifier_trees (block.items-the_row-Specifier A n k)
unfolding expr_tree
specifier_row-items _ block.end_of-Specifier = refl
specifier_row-items {A} _ (block.more_of-Specifier {n} specifier others) =
    ap (views.specifier_before specifier) (specifier_row-items n others)

pub specifier_row-hidden : {A : Type 0} (v : Vec (Specifier A) A)
    → specifier_row (block.hidden-the_row-Specifier-1 A v) ≡ specifier_trees v.items
specifier_row-hidden {A} v =
    specifier_row-items _ (block.hidden-the_row-Specifier-1 A v)
    ∙ ap specifier_trees (block.items_hidden-the_row-Specifier-1 A v)

member_row-items : {A : Type 0} (n : _) (k : block.Row_of-Member A n)
    → member_row k ≡ member_trees (block.items-the_row-Member A n k)
unfolding expr_tree
member_row-items _ block.end_of-Member = refl
member_row-items {A} _ (block.more_of-Member {n} member others) =
    ap (views.member_before member) (member_row-items n others)

pub member_row-hidden : {A : Type 0} (v : Vec (Member A) A)
    → member_row (block.hidden-the_row-Member-7 A v) ≡ member_trees v.items
member_row-hidden {A} v =
    member_row-items _ (block.hidden-the_row-Member-7 A v)
    ∙ ap member_trees (block.items_hidden-the_row-Member-7 A v)

declarator_row-items : {A : Type 0} (n : _) (k : block.Row_of-NextDeclarator A n)
    → declarator_row k ≡ declarator_trees (block.items-the_row-NextDeclarator A n k)
unfolding expr_tree
declarator_row-items _ block.end_of-NextDeclarator = refl
declarator_row-items {A} _ (block.more_of-NextDeclarator {n} comma declarator others) =
    ap (plain.Also comma (declarator_tree declarator)) (declarator_row-items n others)

pub declarator_row-hidden : {A : Type 0} (v : Vec (NextDeclarator A) A)
    → declarator_row (block.hidden-the_row-NextDeclarator-6 A v) ≡ declarator_trees v.items
declarator_row-hidden {A} v =
    declarator_row-items _ (block.hidden-the_row-NextDeclarator-6 A v)
    ∙ ap declarator_trees (block.items_hidden-the_row-NextDeclarator-6 A v)

dim_row-items : {A : Type 0} (n : _) (k : block.Row_of-Dim A n)
    → dim_row k ≡ dim_trees (block.items-the_row-Dim A n k)
unfolding expr_tree
dim_row-items _ block.end_of-Dim = refl
dim_row-items {A} _ (block.more_of-Dim {n} dim others) =
    ap (views.dim_before dim) (dim_row-items n others)

pub dim_row-hidden : {A : Type 0} (v : Vec (Dim A) A)
    → dim_row (block.hidden-the_row-Dim-0 A v) ≡ dim_trees v.items
dim_row-hidden {A} v =
    dim_row-items _ (block.hidden-the_row-Dim-0 A v)
    ∙ ap dim_trees (block.items_hidden-the_row-Dim-0 A v)

pub specifier_row-shown : {A : Type 0} (q : _) (k : block.Row_of-Specifier A _)
    → specifier_row k ≡ specifier_trees (block.shown-the_row-Specifier-1 A q k).items
specifier_row-shown {A} q k =
    specifier_row-items _ k ∙ ap specifier_trees (sym (block.items_shown-the_row-Specifier-1 A q k))

parameter_row-items : {A : Type 0} (n : _) (k : block.Row_of-NextParameter A n) (end : plain.MoreParams)
    → parameter_row k end ≡ row_before parameter_before (block.items-the_row-NextParameter A n k) end
unfolding expr_tree
parameter_row-items _ block.end_of-NextParameter end = refl
parameter_row-items {A} _ (block.more_of-NextParameter {n} comma q specifiers declarator others) end =
    ap (λ s. plain.More comma s (declarator_tree declarator) (parameter_row others end))
    (specifier_row-shown q specifiers)
    ∙ ap (plain.More comma (specifier_trees (block.shown-the_row-Specifier-1 A q specifiers).items)
    (declarator_tree declarator)) (parameter_row-items n others end)

pub parameter_row-hidden : {A : Type 0} (v : Vec (NextParameter A) A) (end : plain.MoreParams)
    → parameter_row (block.hidden-the_row-NextParameter-2 A v) end ≡ row_before parameter_before v.items end
parameter_row-hidden {A} v end =
    parameter_row-items _ (block.hidden-the_row-NextParameter-2 A v) end
    ∙ ap (λ ps. row_before parameter_before ps end) (block.items_hidden-the_row-NextParameter-2 A v)

enumerator_row-items : {A : Type 0} (n : _) (k : block.Row_of-EarlierEnumerator A n) (last : plain.Enumerators)
    → enumerator_row k last ≡ row_before earlier_enumerator_before (block.items-the_row-EarlierEnumerator A n k) last
unfolding expr_tree
enumerator_row-items _ block.end_of-EarlierEnumerator last = refl
enumerator_row-items {A} _ (block.more_of-EarlierEnumerator {n} enumerator comma others) last =
    ap (views.enumerator_before enumerator comma) (enumerator_row-items n others last)

pub enumerator_row-hidden : {A : Type 0} (v : Vec (EarlierEnumerator A) A) (last : plain.Enumerators)
    → enumerator_row (block.hidden-the_row-EarlierEnumerator-5 A v) last
    ≡ row_before earlier_enumerator_before v.items last
enumerator_row-hidden {A} v last =
    enumerator_row-items _ (block.hidden-the_row-EarlierEnumerator-5 A v) last
    ∙ ap (λ es. row_before earlier_enumerator_before es last) (block.items_hidden-the_row-EarlierEnumerator-5 A v)
