-- Which typed trees the numbers of a table of expressions stand for: each node over the trees of the nodes before it.
use Rattle.std.specs.Prelude.{◌≡◌, ◌<◌, ◌≤◌, ℕ, Bool, true, false, ◌&&◌, nat_lt}
use Rattle.std.specs.Prelude.{List, [], ◌∷◌, length}
use Rattle.ck_base.specs.declared.tokens.Token.{Token}
use Rattle.ck_base.specs.declared.tokens.TokenKind.TheVariants as kinds
use Rattle.ck_prog.specs.Senses.{no_type}
use Rattle.ck_prog.specs.TypedTrees.{Typed, Links, Arguments, Steps, TypeParts}
use Rattle.ck_prog.specs.TypedTrees as trees
use Rattle.ck_prog.specs.declared.operators.Role.TheVariants as roles
use Rattle.ck_tables.specs.Readings.{Readings, plain_entry, plain_member, plain_constancy, plain_facts}
use Rattle.ck_tables.specs.Readings.{plain_layout, plain_declarator}
use Rattle.ck_tables.specs.Tables.{tree_in, AreOrdered}
use Rattle.ck_tables.specs.declared.exprs.ExprId.{ExprId}
use Rattle.ck_tables.specs.declared.exprs.ExprNode.{ExprNode}
use Rattle.ck_tables.specs.declared.exprs.ExprNode.TheVariants as nodes
use Rattle.ck_tables.specs.declared.exprs.Link.{Link}
use Rattle.ck_tables.specs.declared.exprs.Part.{Part}
use Rattle.ck_tables.specs.declared.exprs.Part.TheVariants as parts
use Rattle.ck_tables.specs.declared.exprs.Step.{Step}
use Rattle.ck_tables.specs.declared.exprs.Step.TheVariants as steps

-- rows: `f` says which tree a number stands for -----------------------------------------------------------------------

-- an operator and its operand, before others
abbrev pub link_before : Readings → (ℕ → Typed) → Link → Links → Links
link_before w f l rest = trees.Link l.operator (f l.operand.0) (plain_facts w l.facts) rest

abbrev pub links_of : Readings → (ℕ → Typed) → List Link → Links
links_of w f [] = trees.NoLinks
links_of w f (l ∷ ls) = link_before w f l (links_of w f ls)

abbrev pub arguments_of : (ℕ → Typed) → List ExprId → Arguments
arguments_of f [] = trees.NoArguments
arguments_of f (x ∷ xs) = trees.Argument (f x.0) (arguments_of f xs)

-- a suffix, before others
abbrev pub step_before : Readings → (ℕ → Typed) → Step → Steps → Steps
step_before w f (steps.Index opening index facts) rest = trees.Index opening (f index.0) (plain_facts w facts) rest
step_before w f (steps.Call opening function arguments facts) rest =
    trees.Call opening (plain_entry w function) (arguments_of f arguments.items) (plain_facts w facts) rest
step_before w f (steps.Access is_dot name member facts) rest =
    trees.Access is_dot name (plain_member w member) (plain_facts w facts) rest
step_before w f (steps.PostIncrement token operator facts) rest =
    trees.PostIncrement token operator (plain_facts w facts) rest

abbrev pub steps_of : Readings → (ℕ → Typed) → List Step → Steps
steps_of w f [] = trees.NoSteps
steps_of w f (s ∷ ss) = step_before w f s (steps_of w f ss)

-- what is written in a type, before more
abbrev pub part_before : Readings → (ℕ → Typed) → Part → TypeParts → TypeParts
part_before w f (parts.Mention keyword tag entry) rest = trees.Mention keyword tag (plain_entry w entry) rest
part_before w f (parts.StructBody keyword layout) rest = trees.StructBody keyword (plain_layout layout) rest
part_before w f (parts.EnumeratorValue spot constancy) rest =
    trees.EnumeratorValue spot (plain_constancy w constancy) rest
part_before w f (parts.Expression x) rest = trees.Expression (f x.0) rest
part_before w f (parts.ArraySize size too_large) rest = trees.ArraySize (f size.0) too_large rest
part_before w f (parts.Declarator facts) rest = trees.WholeDeclarator (plain_declarator w facts) rest

abbrev pub parts_of : Readings → (ℕ → Typed) → List Part → TypeParts
parts_of w f [] = trees.NoParts
parts_of w f (p ∷ ps) = part_before w f p (parts_of w f ps)

-- the fold ------------------------------------------------------------------------------------------------------------

-- a node's tree
abbrev pub make : Readings → (ℕ → Typed) → ExprNode → Typed
make w f (nodes.Name facts entry) = trees.Name (plain_facts w facts) (plain_entry w entry)
make w f (nodes.Constant facts) = trees.Constant (plain_facts w facts)
make w f (nodes.Strings facts others) = trees.Strings (plain_facts w facts) others.items
make w f (nodes.Paren facts inner) = trees.Paren (plain_facts w facts) (f inner.0)
make w f (nodes.Postfix primary row) = trees.Postfix (f primary.0) (steps_of w f row.items)
make w f (nodes.Unary facts operator operand) = trees.Unary (plain_facts w facts) operator (f operand.0)
make w f (nodes.SizeofType facts written) = trees.SizeofType (plain_facts w facts) (parts_of w f written.items)
make w f (nodes.Cast facts operand written) =
    trees.Cast (plain_facts w facts) (parts_of w f written.items) (f operand.0)
make w f (nodes.Chain first links) = trees.Chain (f first.0) (links_of w f links.items)
make w f (nodes.Conditional facts test second third) =
    trees.Conditional (plain_facts w facts) (f test.0) (f second.0) (f third.0)
make w f (nodes.Assignment facts operator target value) =
    trees.Assignment (plain_facts w facts) operator (f target.0) (f value.0)

-- what is said of numbers that no node has
abbrev pub no_token : Token
no_token = record { kind = kinds.Mark; span = record { file = 0; start = 0; end = 0 } }

abbrev pub no_tree : Typed
no_tree =
    trees.Constant (
    record {
      sense = no_type;
      role = roles.Value;
      first = no_token;
      holds_call = false;
    })

-- what a number of a table stands for
abbrev pub tree_at : Readings → List ExprNode → ℕ → Typed
tree_at w ns i = tree_in no_tree (make w) ns i

-- which numbers a node names ------------------------------------------------------------------------------------------

abbrev pub links_below : ℕ → List Link → Bool
links_below limit [] = true
links_below limit (l ∷ ls) = nat_lt l.operand.0 limit && links_below limit ls

abbrev pub arguments_below : ℕ → List ExprId → Bool
arguments_below limit [] = true
arguments_below limit (x ∷ xs) = nat_lt x.0 limit && arguments_below limit xs

abbrev pub step_below : ℕ → Step → Bool
step_below limit (steps.Index opening index facts) = nat_lt index.0 limit
step_below limit (steps.Call opening function arguments facts) = arguments_below limit arguments.items
step_below limit (steps.Access is_dot name member facts) = true
step_below limit (steps.PostIncrement token operator facts) = true

abbrev pub steps_below : ℕ → List Step → Bool
steps_below limit [] = true
steps_below limit (s ∷ ss) = step_below limit s && steps_below limit ss

abbrev pub part_below : ℕ → Part → Bool
part_below limit (parts.Mention keyword tag entry) = true
part_below limit (parts.StructBody keyword layout) = true
part_below limit (parts.EnumeratorValue spot constancy) = true
part_below limit (parts.Expression x) = nat_lt x.0 limit
part_below limit (parts.ArraySize size too_large) = nat_lt size.0 limit
part_below limit (parts.Declarator facts) = true

abbrev pub parts_below : ℕ → List Part → Bool
parts_below limit [] = true
parts_below limit (p ∷ ps) = part_below limit p && parts_below limit ps

-- a node names expressions of smaller numbers than this
abbrev pub reads_below : ℕ → ExprNode → Bool
reads_below limit (nodes.Name facts entry) = true
reads_below limit (nodes.Constant facts) = true
reads_below limit (nodes.Strings facts others) = true
reads_below limit (nodes.Paren facts inner) = nat_lt inner.0 limit
reads_below limit (nodes.Postfix primary row) = nat_lt primary.0 limit && steps_below limit row.items
reads_below limit (nodes.Unary facts operator operand) = nat_lt operand.0 limit
reads_below limit (nodes.SizeofType facts written) = parts_below limit written.items
reads_below limit (nodes.Cast facts operand written) = parts_below limit written.items && nat_lt operand.0 limit
reads_below limit (nodes.Chain first links) = nat_lt first.0 limit && links_below limit links.items
reads_below limit (nodes.Conditional facts test second third) =
    nat_lt test.0 limit && (nat_lt second.0 limit && nat_lt third.0 limit)
reads_below limit (nodes.Assignment facts operator target value) = nat_lt target.0 limit && nat_lt value.0 limit

-- each node names smaller numbers than its own
abbrev pub IsOrdered : List ExprNode → Type 0
IsOrdered ns = AreOrdered reads_below ns

-- A table has this node at this number, and it stands for the node's tree, whatever the other tables' numbers stand
-- for.
pub record IsNode (ns : List ExprNode) (i : ℕ) (n : ExprNode) : Type 0 where
  pub below : reads_below i n ≡ true
  pub tree : (w : Readings) → tree_at w ns i ≡ make w (tree_at w ns) n

-- A table has grown at its end, or not at all: its numbers stay, and stand for what they stood for, alone and in rows.
pub record Keeps (old new : List ExprNode) : Type 0 where
  pub no_less : length old ≤ length new
  pub same : (w : Readings) (i : ℕ) → i < length old → tree_at w new i ≡ tree_at w old i
  pub same_links :
      (w : Readings) (ls : List Link) → links_below (length old) ls ≡ true
      → links_of w (tree_at w new) ls ≡ links_of w (tree_at w old) ls
  pub same_arguments :
      (w : Readings) (xs : List ExprId) → arguments_below (length old) xs ≡ true
      → arguments_of (tree_at w new) xs ≡ arguments_of (tree_at w old) xs
  pub same_steps :
      (w : Readings) (ss : List Step) → steps_below (length old) ss ≡ true
      → steps_of w (tree_at w new) ss ≡ steps_of w (tree_at w old) ss
  pub same_parts :
      (w : Readings) (ps : List Part) → parts_below (length old) ps ≡ true
      → parts_of w (tree_at w new) ps ≡ parts_of w (tree_at w old) ps
  pub more_links : (ls : List Link) → links_below (length old) ls ≡ true → links_below (length new) ls ≡ true
  pub more_arguments :
      (xs : List ExprId) → arguments_below (length old) xs ≡ true → arguments_below (length new) xs ≡ true
  pub more_steps : (ss : List Step) → steps_below (length old) ss ≡ true → steps_below (length new) ss ≡ true
  pub more_parts : (ps : List Part) → parts_below (length old) ps ≡ true → parts_below (length new) ps ≡ true
