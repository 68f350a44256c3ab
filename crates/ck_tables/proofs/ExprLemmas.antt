-- A table of expressions that grows at its end: what its numbers stand for stays, and the last one stands for its
-- node's tree.
use Rattle.std.proofs.Common.{◌≡◌, ℕ, ◌<◌, ◌≤◌, List, [], ◌∷◌, ◌++◌, length, get_or, refl, ap, arith, sym, ◌∙◌}
use Rattle.std.specs.Prelude.{true}
use Rattle.ck_prog.specs.TypedTrees.{Typed, Links, Arguments, Steps, TypeParts}
use Rattle.ck_prog.specs.TypedTrees as trees
use Rattle.ck_tables.specs.Readings.{Readings, plain_entry, plain_facts}
use Rattle.ck_tables.specs.ExprTable.{link_before, links_of, arguments_of, step_before, steps_of, part_before, parts_of}
use Rattle.ck_tables.specs.ExprTable.{no_tree, make, tree_at, links_below, arguments_below, step_below}
use Rattle.ck_tables.specs.ExprTable.{steps_below, part_below, parts_below, reads_below, IsOrdered, IsNode, Keeps}
use Rattle.ck_tables.proofs.TableLemmas.{Agree, length-more, are_ordered_last, below_at, tree_in-more, stands_last}
use Rattle.ck_tables.proofs.TableLemmas.{stands_at}
use Rattle.ck_tables.specs.declared.exprs.ExprId.{ExprId}
use Rattle.ck_tables.specs.declared.exprs.ExprNode.{ExprNode}
use Rattle.ck_tables.specs.declared.exprs.ExprNode.TheVariants as nodes
use Rattle.ck_tables.specs.declared.exprs.Link.{Link}
use Rattle.ck_tables.specs.declared.exprs.Part.{Part}
use Rattle.ck_tables.specs.declared.exprs.Part.TheVariants as parts
use Rattle.ck_tables.specs.declared.exprs.Step.{Step}
use Rattle.ck_tables.specs.declared.exprs.Step.TheVariants as steps

-- rows and nodes over the same trees are the same ---------------------------------------------------------------------

links-same : (w : Readings) (k : ℕ) (f g : ℕ → Typed) (ls : List Link) → Agree k f g → links_below k ls ≡ true
    → links_of w f ls ≡ links_of w g ls
links-same w k f g [] same h = refl
links-same w k f g (l ∷ ls) same h =
    ap (λ t. trees.Link l.operator t (plain_facts w l.facts) (links_of w f ls)) (same l.operand.0 (grind arith))
    ∙ ap (link_before w g l) (links-same w k f g ls same (grind arith))

arguments-same : (k : ℕ) (f g : ℕ → Typed) (xs : List ExprId) → Agree k f g → arguments_below k xs ≡ true
    → arguments_of f xs ≡ arguments_of g xs
arguments-same k f g [] same h = refl
arguments-same k f g (x ∷ xs) same h =
    ap (λ t. trees.Argument t (arguments_of f xs)) (same x.0 (grind arith))
    ∙ ap (trees.Argument (g x.0)) (arguments-same k f g xs same (grind arith))

step-same : (w : Readings) (k : ℕ) (f g : ℕ → Typed) (s : Step) (rest : Steps) → Agree k f g → step_below k s ≡ true
    → step_before w f s rest ≡ step_before w g s rest
step-same w k f g (steps.Index opening index facts) rest same h =
    ap (λ t. trees.Index opening t (plain_facts w facts) rest) (same index.0 (grind arith))
step-same w k f g (steps.Call opening function arguments facts) rest same h =
    ap (λ xs. trees.Call opening (plain_entry w function) xs (plain_facts w facts) rest)
    (arguments-same k f g arguments.items same h)
step-same w k f g (steps.Access is_dot name member facts) rest same h = refl
step-same w k f g (steps.PostIncrement token operator facts) rest same h = refl

steps-same : (w : Readings) (k : ℕ) (f g : ℕ → Typed) (ss : List Step) → Agree k f g → steps_below k ss ≡ true
    → steps_of w f ss ≡ steps_of w g ss
steps-same w k f g [] same h = refl
steps-same w k f g (s ∷ ss) same h =
    step-same w k f g s (steps_of w f ss) same (grind arith)
    ∙ ap (step_before w g s) (steps-same w k f g ss same (grind arith))

part-same : (w : Readings) (k : ℕ) (f g : ℕ → Typed) (p : Part) (rest : TypeParts) → Agree k f g
    → part_below k p ≡ true → part_before w f p rest ≡ part_before w g p rest
part-same w k f g (parts.Mention keyword tag entry) rest same h = refl
part-same w k f g (parts.StructBody keyword layout) rest same h = refl
part-same w k f g (parts.EnumeratorValue spot constancy) rest same h = refl
part-same w k f g (parts.Expression x) rest same h = ap (λ t. trees.Expression t rest) (same x.0 (grind arith))
part-same w k f g (parts.ArraySize size too_large) rest same h =
    ap (λ t. trees.ArraySize t too_large rest) (same size.0 (grind arith))
part-same w k f g (parts.Declarator facts) rest same h = refl

parts-same : (w : Readings) (k : ℕ) (f g : ℕ → Typed) (ps : List Part) → Agree k f g → parts_below k ps ≡ true
    → parts_of w f ps ≡ parts_of w g ps
parts-same w k f g [] same h = refl
parts-same w k f g (p ∷ ps) same h =
    part-same w k f g p (parts_of w f ps) same (grind arith)
    ∙ ap (part_before w g p) (parts-same w k f g ps same (grind arith))

make-same : (w : Readings) (k : ℕ) (f g : ℕ → Typed) (n : ExprNode) → Agree k f g → reads_below k n ≡ true
    → make w f n ≡ make w g n
make-same w k f g (nodes.Name facts entry) same h = refl
make-same w k f g (nodes.Constant facts) same h = refl
make-same w k f g (nodes.Strings facts others) same h = refl
make-same w k f g (nodes.Paren facts inner) same h =
    ap (trees.Paren (plain_facts w facts)) (same inner.0 (grind arith))
make-same w k f g (nodes.Postfix primary row) same h =
    ap (λ t. trees.Postfix t (steps_of w f row.items)) (same primary.0 (grind arith))
    ∙ ap (trees.Postfix (g primary.0)) (steps-same w k f g row.items same (grind arith))
make-same w k f g (nodes.Unary facts operator operand) same h =
    ap (trees.Unary (plain_facts w facts) operator) (same operand.0 (grind arith))
make-same w k f g (nodes.SizeofType facts written) same h =
    ap (trees.SizeofType (plain_facts w facts)) (parts-same w k f g written.items same h)
make-same w k f g (nodes.Cast facts operand written) same h =
    ap (λ ps. trees.Cast (plain_facts w facts) ps (f operand.0)) (parts-same w k f g written.items same (grind arith))
    ∙ ap (trees.Cast (plain_facts w facts) (parts_of w g written.items)) (same operand.0 (grind arith))
make-same w k f g (nodes.Chain first links) same h =
    ap (λ t. trees.Chain t (links_of w f links.items)) (same first.0 (grind arith))
    ∙ ap (trees.Chain (g first.0)) (links-same w k f g links.items same (grind arith))
make-same w k f g (nodes.Conditional facts test second third) same h =
    ap (λ t. trees.Conditional (plain_facts w facts) t (f second.0) (f third.0)) (same test.0 (grind arith))
    ∙ ap (λ t. trees.Conditional (plain_facts w facts) (g test.0) t (f third.0)) (same second.0 (grind arith))
    ∙ ap (trees.Conditional (plain_facts w facts) (g test.0) (g second.0)) (same third.0 (grind arith))
make-same w k f g (nodes.Assignment facts operator target value) same h =
    ap (λ t. trees.Assignment (plain_facts w facts) operator t (f value.0)) (same target.0 (grind arith))
    ∙ ap (trees.Assignment (plain_facts w facts) operator (g target.0)) (same value.0 (grind arith))

-- rows name numbers below greater ones too ----------------------------------------------------------------------------

links-more : (k l : ℕ) (ls : List Link) → k ≤ l → links_below k ls ≡ true → links_below l ls ≡ true
links-more k l [] most h = refl
links-more k l (x ∷ ls) most h = let more = links-more k l ls most (grind arith) in grind (arith, more)

arguments-more : (k l : ℕ) (xs : List ExprId) → k ≤ l → arguments_below k xs ≡ true → arguments_below l xs ≡ true
arguments-more k l [] most h = refl
arguments-more k l (x ∷ xs) most h = let more = arguments-more k l xs most (grind arith) in grind (arith, more)

step-more : (k l : ℕ) (s : Step) → k ≤ l → step_below k s ≡ true → step_below l s ≡ true
step-more k l (steps.Index opening index facts) most h = grind arith
step-more k l (steps.Call opening function arguments facts) most h = arguments-more k l arguments.items most h
step-more k l (steps.Access is_dot name member facts) most h = refl
step-more k l (steps.PostIncrement token operator facts) most h = refl

steps-more : (k l : ℕ) (ss : List Step) → k ≤ l → steps_below k ss ≡ true → steps_below l ss ≡ true
steps-more k l [] most h = refl
steps-more k l (s ∷ ss) most h =
    let one = step-more k l s most (grind arith) in
    let more = steps-more k l ss most (grind arith) in
    grind (arith, one, more)

part-more : (k l : ℕ) (p : Part) → k ≤ l → part_below k p ≡ true → part_below l p ≡ true
part-more k l (parts.Mention keyword tag entry) most h = refl
part-more k l (parts.StructBody keyword layout) most h = refl
part-more k l (parts.EnumeratorValue spot constancy) most h = refl
part-more k l (parts.Expression x) most h = grind arith
part-more k l (parts.ArraySize size too_large) most h = grind arith
part-more k l (parts.Declarator facts) most h = refl

parts-more : (k l : ℕ) (ps : List Part) → k ≤ l → parts_below k ps ≡ true → parts_below l ps ≡ true
parts-more k l [] most h = refl
parts-more k l (p ∷ ps) most h =
    let one = part-more k l p most (grind arith) in
    let more = parts-more k l ps most (grind arith) in
    grind (arith, one, more)

-- what a table that has grown keeps -----------------------------------------------------------------------------------

-- rows follow from single numbers
keeping_rows : (ns ms : List ExprNode) → length ns ≤ length ms
    → ((w : Readings) (i : ℕ) → i < length ns → tree_at w ms i ≡ tree_at w ns i) → Keeps ns ms
keeping_rows ns ms most same =
    record {
      no_less = most;
      same = same;
      same_links = λ w ls h. links-same w (length ns) (tree_at w ms) (tree_at w ns) ls (same w) h;
      same_arguments = λ w xs h. arguments-same (length ns) (tree_at w ms) (tree_at w ns) xs (same w) h;
      same_steps = λ w ss h. steps-same w (length ns) (tree_at w ms) (tree_at w ns) ss (same w) h;
      same_parts = λ w ps h. parts-same w (length ns) (tree_at w ms) (tree_at w ns) ps (same w) h;
      more_links = λ ls h. links-more (length ns) (length ms) ls most h;
      more_arguments = λ xs h. arguments-more (length ns) (length ms) xs most h;
      more_steps = λ ss h. steps-more (length ns) (length ms) ss most h;
      more_parts = λ ps h. parts-more (length ns) (length ms) ps most h;
    }

pub keeps_more : (ns ms : List ExprNode) → Keeps ns (ns ++ ms)
keeps_more ns ms =
    keeping_rows ns (ns ++ ms) (length-more ns ms) (λ w i h. tree_in-more no_tree (make w) ns ms i h)

pub keeps_none : (ns : List ExprNode) → Keeps ns ns
keeps_none ns = keeping_rows ns ns (omega arith) (λ w i h. refl)

pub keeps_twice : (ns ms ls : List ExprNode) → Keeps ns ms → Keeps ms ls → Keeps ns ls
keeps_twice ns ms ls a b =
    keeping_rows ns ls (omega arith) (λ w i h. b.same w i (omega arith) ∙ a.same w i h)

-- the numbers of a table stand for its nodes' trees -------------------------------------------------------------------

pub is_ordered_last : (ns : List ExprNode) (n : ExprNode) → IsOrdered ns → reads_below (length ns) n ≡ true
    → IsOrdered (ns ++ (n ∷ []))
is_ordered_last ns n h last = are_ordered_last reads_below ns n h last

pub is_node_last : (ns : List ExprNode) (n : ExprNode) → reads_below (length ns) n ≡ true
    → IsNode (ns ++ (n ∷ [])) (length ns) n
is_node_last ns n last =
    record { below = last; tree = λ w. stands_last no_tree (make w) reads_below (make-same w) ns n last }

pub is_node_at : (ns : List ExprNode) (i : ℕ) (d : ExprNode) → IsOrdered ns → i < length ns
    → IsNode ns i (get_or ns i d)
is_node_at ns i d ordered h =
    record {
      below = below_at reads_below ns i d h ordered;
      tree = λ w. stands_at no_tree (make w) reads_below (make-same w) ns i d h ordered;
    }

-- a node that a table has stays when the table grows
pub is_node_kept : (ns ms : List ExprNode) (i : ℕ) (n : ExprNode) → i < length ns → Keeps ns ms → IsNode ns i n
    → IsNode ms i n
is_node_kept ns ms i n h kept was =
    record {
      below = was.below;
      tree =
          λ w.
          kept.same w i h
          ∙ was.tree w
          ∙ sym (make-same w i (tree_at w ms) (tree_at w ns) n (λ j less. kept.same w j (omega arith)) was.below);
    }

pub ruleset growing = (keeps_none, keeps_more, is_ordered_last, is_node_last)
