-- The plain tree of each production of initialisers. Crates above name them all by the ruleset `initialiser_views`.
use Rattle.std.proofs.Common.{◌≡◌, Box, Vec, Option, refl, ap, ◌∙◌}
use Rattle.ck_base.specs.declared.tokens.Token.{Token}
use Rattle.ck_grammar.specs.Statements as plain
use Rattle.ck_syntax.specs.ExpressionViews.{expr_tree}
use Rattle.ck_syntax.specs.InitialiserViews.{designation_option, init_tree, init_row, init_trees, braced_tree}
use Rattle.ck_syntax.specs.declared.expressions.Expr.{Expr}
use Rattle.ck_syntax.specs.declared.initialisers.BracedInit.{BracedInit, out-BracedInit, roll-BracedInit}
use Rattle.ck_syntax.specs.declared.initialisers.BracedInit.{rolls-BracedInit', is-BracedInit'}
use Rattle.ck_syntax.specs.declared.initialisers.Designation.{Designation}
use Rattle.ck_syntax.specs.declared.initialisers.EarlierInit.{EarlierInit}
use Rattle.ck_syntax.specs.declared.initialisers.Init.{Init, Value, Braced}
use Rattle.ck_syntax.specs.declared.initialisers.Init.TheBlock as block

init_row-items : {A : Type 0} (n : _) (k : block.Row_of-EarlierInit A n) (last : plain.Inits)
    → init_row k last ≡ init_trees (block.items-the_row-EarlierInit A n k) last
unfolding init_tree
init_row-items _ block.end_of-EarlierInit last = refl
init_row-items {A} _ (block.more_of-EarlierInit {n} designation init comma others) last =
    ap (plain.NextInit (designation_option designation) (init_tree init) comma) (init_row-items n others last)

init_row-hidden : {A : Type 0} (v : Vec (EarlierInit A) A) (last : plain.Inits)
    → init_row (block.hidden-the_row-EarlierInit-0 A v) last ≡ init_trees v.items last
init_row-hidden {A} v last = init_row-items _ (block.hidden-the_row-EarlierInit-0 A v) last
    ∙ ap (λ is. init_trees is last) (block.items_hidden-the_row-EarlierInit-0 A v)

pub init_tree-Value : {A : Type 0} (value : Expr A) → init_tree (Value value) ≡ plain.Value (expr_tree value)
unfolding init_tree
init_tree-Value value = refl

pub init_tree-Braced : {A : Type 0} (braced : Box (BracedInit A) A)
    → init_tree (Braced braced) ≡ braced_tree braced.value
unfolding init_tree
init_tree-Braced braced = refl

pub braced_tree-new : {A : Type 0} (opening : Token) (earlier : Vec (EarlierInit A) A)
    (designation : Option (Box (Designation A) A)) (last : Init A) (comma : Option Token) (closing : Token)
    → braced_tree (roll-BracedInit A (record {
      opening = opening;
      earlier = earlier;
      designation = designation;
      last = last;
      comma = comma;
      closing = closing;
    }))
    ≡ plain.Braced opening
    (init_trees earlier.items (plain.LastInit (designation_option designation) (init_tree last) comma)) closing
unfolding init_tree
braced_tree-new opening earlier designation last comma closing =
    ap braced_tree (rolls-BracedInit' (record {
      opening = opening;
      earlier = earlier;
      designation = designation;
      last = last;
      comma = comma;
      closing = closing;
    }))
    ∙ ap (λ is. plain.Braced opening is closing)
    (init_row-hidden earlier (plain.LastInit (designation_option designation) (init_tree last) comma))

-- initialisers in braces by their parts, as code reads them
pub braced_tree-parts : {A : Type 0} (b : BracedInit A)
    → braced_tree b ≡ plain.Braced (out-BracedInit A b).opening
    (init_trees (out-BracedInit A b).earlier.items (plain.LastInit
    (designation_option (out-BracedInit A b).designation) (init_tree (out-BracedInit A b).last)
    (out-BracedInit A b).comma))
    (out-BracedInit A b).closing
unfolding init_tree
braced_tree-parts {A} b =
    let t = out-BracedInit A b in
    ap braced_tree (is-BracedInit' b)
    ∙ ap (λ is. plain.Braced t.opening is t.closing)
    (init_row-hidden t.earlier (plain.LastInit (designation_option t.designation) (init_tree t.last) t.comma))

pub ruleset initialiser_views = (init_tree-Value, init_tree-Braced, braced_tree-new)

-- initialisers in braces by their parts, for code that reads them
pub ruleset initialiser_parts = (init_tree-Value, init_tree-Braced, braced_tree-parts)
