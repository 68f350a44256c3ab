-- What a node stands for, where its parts are these: one lemma for each production.
use Rattle.std.proofs.Common.{◌≡◌, ◌<◌, ℕ, Bool, true, false, List, [], ◌∷◌, length, refl, ap, ◌∙◌}
use Rattle.std.specs.Prelude.{◌&&◌, ◌||◌, Option, None}
use Rattle.ck_base.specs.declared.tokens.Token.{Token}
use Rattle.ck_grammar.specs.Trees as plain
use Rattle.ck_prog.specs.AssignmentSenses.{assignment_sense, choice_sense}
use Rattle.ck_prog.specs.Declarations.{Place}
use Rattle.ck_prog.specs.Senses as senses
use Rattle.ck_prog.specs.TypedExpressions.{typed_expression, facts_of, unary_facts}
use Rattle.ck_prog.specs.TypedTrees as typed
use Rattle.ck_prog.specs.TypedTrees.{Typed, Links, Steps, TypeParts, facts, last_link, last_step}
use Rattle.ck_prog.specs.Typing.{name_sense, constant_sense, strings_sense}
use Rattle.ck_prog.specs.UnarySenses.{prefix_sense, size_of, cast_sense}
use Rattle.ck_prog.specs.declared.operators.Assigning.{Assigning}
use Rattle.ck_prog.specs.declared.operators.Prefix.{Prefix}
use Rattle.ck_prog.specs.declared.operators.Prefix.TheVariants as prefixes
use Rattle.ck_prog.specs.declared.operators.Role.{Role}
use Rattle.ck_tables.specs.ExprTable.{IsNode, Keeps, tree_at, links_below, links_of, steps_below, steps_of, parts_below}
use Rattle.ck_tables.specs.ExprTable.{parts_of}
use Rattle.ck_tables.specs.Readings.{Readings, plain_entry, plain_facts}
use Rattle.ck_tables.specs.declared.exprs.ExprNode.{ExprNode}
use Rattle.ck_tables.specs.declared.exprs.ExprNode.TheVariants as nodes
use Rattle.ck_tables.specs.declared.exprs.Link.{Link}
use Rattle.ck_tables.specs.declared.exprs.Part.{Part}
use Rattle.ck_tables.specs.declared.exprs.Step.{Step}
use Rattle.ck_tables.specs.declared.facts.Facts.{Facts}
use Rattle.ck_types.specs.Types.{CType}
use Rattle.ck_expr_nodes.specs.Finding.{IsFound}
use Rattle.ck_expr_nodes.specs.Made.{is_evaluated, paren_of, unary_of, sizeof_of, cast_of, conditional_of}
use Rattle.ck_expr_nodes.specs.Made.{assignment_of}
use Rattle.ck_expr_nodes.specs.SenseViews.{known_facts, plain_sense, sense_in}
use Rattle.ck_expr_nodes.specs.Walked.{IsValue}
use Rattle.ck_expr_nodes.specs.declared.nodes.Value.{Value}
use Rattle.ck_expr_nodes.specs.declared.senses.Found.{Found}
use Rattle.ck_expr_nodes.specs.declared.senses.Sense.{Sense}

-- what is known of a value that a function makes of a sense
known : (w : Readings) (role : Role) (first : Token) (f : Facts) (s : Sense) (t : senses.Sense) (holds call : Bool)
    → plain_facts w f ≡ known_facts role first (plain_sense w s) holds → plain_sense w s ≡ t → holds ≡ call
    → plain_facts w f ≡ known_facts role first t call
known w role first f s t holds call made sense same =
    made ∙ (ap (λ x. known_facts role first x holds) sense ∙ ap (known_facts role first t) same)

or-false : (b : Bool) → b ≡ (b || false)
or-false true = refl
or-false false = refl

-- two values of which something is made
either : (a b c d : Bool) → a ≡ c → b ≡ d → (a || b) ≡ (c || (d || false))
either a b c d first second = ap (λ x. x || b) first ∙ ap (λ x. c || x) (second ∙ or-false d)

any-of : (a b c d e f : Bool) → a ≡ d → b ≡ e → c ≡ f → (a || b || c) ≡ (d || (e || (f || false)))
any-of true b c d e f first second third = ap (λ x. x || (e || (f || false))) first
any-of false b c d e f first second third =
    either b c e f second third ∙ ap (λ x. x || (e || (f || false))) first

module _ (w : Readings) (ns : List ExprNode) (role : Role) (v : Value) where
  pub name_value : (p : Place) (name : Token) (f : Found) → IsFound w p name f
      → plain_facts w v.facts ≡ known_facts role name (plain_sense w f.sense) false
      → IsNode ns v.id.0 (nodes.Name v.facts f.entry) → v.function ≡ f.function
      → IsValue w ns (typed_expression p role (plain.Name name)) v
  name_value p name f found made node function =
      let told = known w role name v.facts f.sense (name_sense p name) false false made found.sense_is refl in
      record {
        tree_is =
            node.tree w
            ∙ (ap (λ x. typed.Name x (plain_entry w f.entry)) told
            ∙ ap (typed.Name (facts_of role name (name_sense p name) [])) found.entry_is);
        facts_are = told;
        function_is = ap (plain_entry w) function ∙ found.function_is;
      }

  pub constant_value : (p : Place) (token : Token) (s : Sense) → plain_sense w s ≡ constant_sense p token
      → plain_facts w v.facts ≡ known_facts role token (plain_sense w s) false
      → IsNode ns v.id.0 (nodes.Constant v.facts) → v.function ≡ None
      → IsValue w ns (typed_expression p role (plain.Constant token)) v
  constant_value p token s sense made node function =
      let told = known w role token v.facts s (constant_sense p token) false false made sense refl in
      record {
        tree_is = node.tree w ∙ ap typed.Constant told;
        facts_are = told;
        function_is = ap (plain_entry w) function;
      }

  pub strings_value : (p : Place) (first : Token) (others : List Token) (s : Sense)
      → plain_sense w s ≡ strings_sense p first others
      → plain_facts w v.facts ≡ known_facts role first (plain_sense w s) false
      → tree_at w ns v.id.0 ≡ typed.Strings (plain_facts w v.facts) others → v.function ≡ None
      → IsValue w ns (typed_expression p role (plain.Strings first others)) v
  strings_value p first others s sense made tree function =
      let told = known w role first v.facts s (strings_sense p first others) false false made sense refl in
      record {
        tree_is = tree ∙ ap (λ f. typed.Strings f others) told;
        facts_are = told;
        function_is = ap (plain_entry w) function;
      }

  -- a part is what it was before the node came
  module _ (ms : List ExprNode) (stay : (i : ℕ) → i < length ms → tree_at w ns i ≡ tree_at w ms i) where
    pub paren_value : (opening : Token) (x : Typed) (inner : Value) → IsValue w ms x inner → inner.id.0 < length ms
        → plain_facts w v.facts
        ≡ known_facts role opening (plain_sense w (sense_in inner.facts)) inner.facts.holds_call
        → IsNode ns v.id.0 (nodes.Paren v.facts inner.id) → v.function ≡ inner.function
        → IsValue w ns (paren_of role opening x) v
    paren_value opening x inner is below made node function =
        let told : plain_facts w v.facts ≡ facts_of role opening (facts x).sense (facts x ∷ []) =
        known w role opening v.facts (sense_in inner.facts) (facts x).sense inner.facts.holds_call
        ((facts x).holds_call || false) made (ap (λ (f : typed.Facts). f.sense) is.facts_are)
        (ap (λ (f : typed.Facts). f.holds_call) is.facts_are ∙ or-false (facts x).holds_call) in
        record {
          tree_is =
              node.tree w
              ∙ (ap (λ f. typed.Paren f (tree_at w ns inner.id.0)) told
              ∙ ap (typed.Paren (facts_of role opening (facts x).sense (facts x ∷ [])))
              (stay inner.id.0 below ∙ is.tree_is));
          facts_are = told;
          function_is = ap (plain_entry w) function ∙ is.function_is;
        }

    unary-holds : (op : Prefix) (b c : Bool) (p : Place) (first : Token) (of_star : Bool) (f : typed.Facts)
        → b ≡ f.holds_call
        → (is_evaluated op && b) ≡ (unary_facts p role first of_star op f).holds_call
    unary-holds prefixes.SizeOf b c p first of_star f e = refl
    unary-holds (prefixes.Unary op) b c p first of_star f e = e ∙ or-false f.holds_call
    unary-holds prefixes.Increment b c p first of_star f e = e ∙ or-false f.holds_call
    unary-holds prefixes.Decrement b c p first of_star f e = e ∙ or-false f.holds_call
    unary-holds prefixes.Address b c p first of_star f e = e ∙ or-false f.holds_call
    unary-holds prefixes.Dereference b c p first of_star f e = e ∙ or-false f.holds_call

    pub unary_value : (p : Place) (first : Token) (of_star : Bool) (op : Prefix) (x : Typed) (s : Sense)
        (operand : Value) → IsValue w ms x operand → operand.id.0 < length ms
        → plain_sense w s ≡ prefix_sense p of_star op (plain_sense w (sense_in operand.facts))
        → plain_facts w v.facts
        ≡ known_facts role first (plain_sense w s) (is_evaluated op && operand.facts.holds_call)
        → IsNode ns v.id.0 (nodes.Unary v.facts op operand.id) → v.function ≡ None
        → IsValue w ns (unary_of p role first of_star op x) v
    unary_value p first of_star op x s operand is below sense made node function =
        let told : plain_facts w v.facts ≡ unary_facts p role first of_star op (facts x) =
        known w role first v.facts s (prefix_sense p of_star op (facts x).sense)
        (is_evaluated op && operand.facts.holds_call) (unary_facts p role first of_star op (facts x)).holds_call made
        (sense ∙ ap (λ (f : typed.Facts). prefix_sense p of_star op f.sense) is.facts_are)
        (unary-holds op operand.facts.holds_call false p first of_star (facts x)
        (ap (λ (f : typed.Facts). f.holds_call) is.facts_are)) in
        record {
          tree_is =
              node.tree w
              ∙ (ap (λ f. typed.Unary f op (tree_at w ns operand.id.0)) told
              ∙ ap (typed.Unary (unary_facts p role first of_star op (facts x)) op)
              (stay operand.id.0 below ∙ is.tree_is));
          facts_are = told;
          function_is = ap (plain_entry w) function;
        }

    pub conditional_value : (x y z : Typed) (s : Sense) (a b c : Value) → IsValue w ms x a → IsValue w ms y b
        → IsValue w ms z c → a.id.0 < length ms → b.id.0 < length ms → c.id.0 < length ms
        → plain_sense w s
        ≡ choice_sense (plain_sense w (sense_in a.facts)) (plain_sense w (sense_in b.facts))
        (plain_sense w (sense_in c.facts))
        → plain_facts w v.facts
        ≡ known_facts role a.facts.first (plain_sense w s)
        (a.facts.holds_call || b.facts.holds_call || c.facts.holds_call)
        → IsNode ns v.id.0 (nodes.Conditional v.facts a.id b.id c.id) → v.function ≡ None
        → IsValue w ns (conditional_of role x y z) v
    conditional_value x y z s a b c is also third below_a below_b below_c sense made node function =
        let sense_of = λ (f : typed.Facts). f.sense in
        let whole : plain_sense w s ≡ choice_sense (facts x).sense (facts y).sense (facts z).sense =
        sense
        ∙ (ap (λ (f : typed.Facts). choice_sense f.sense (plain_sense w (sense_in b.facts))
        (plain_sense w (sense_in c.facts))) is.facts_are
        ∙ (ap (λ (f : typed.Facts). choice_sense (facts x).sense f.sense (plain_sense w (sense_in c.facts)))
        also.facts_are
        ∙ ap (λ (f : typed.Facts). choice_sense (facts x).sense (facts y).sense f.sense) third.facts_are)) in
        let told : plain_facts w v.facts ≡ typed.facts (conditional_of role x y z) =
        known w role a.facts.first v.facts s (choice_sense (facts x).sense (facts y).sense (facts z).sense)
        (a.facts.holds_call || b.facts.holds_call || c.facts.holds_call)
        ((facts x).holds_call || ((facts y).holds_call || ((facts z).holds_call || false))) made whole
        (any-of a.facts.holds_call b.facts.holds_call c.facts.holds_call (facts x).holds_call (facts y).holds_call
        (facts z).holds_call (ap (λ (f : typed.Facts). f.holds_call) is.facts_are)
        (ap (λ (f : typed.Facts). f.holds_call) also.facts_are)
        (ap (λ (f : typed.Facts). f.holds_call) third.facts_are))
        ∙ ap (λ (f : typed.Facts). facts_of role f.first (choice_sense (facts x).sense (facts y).sense (facts z).sense)
        (facts x ∷ facts y ∷ facts z ∷ [])) is.facts_are in
        record {
          tree_is =
              node.tree w
              ∙ (ap (λ f. typed.Conditional f (tree_at w ns a.id.0) (tree_at w ns b.id.0) (tree_at w ns c.id.0)) told
              ∙ (ap (λ t. typed.Conditional (facts (conditional_of role x y z)) t (tree_at w ns b.id.0)
              (tree_at w ns c.id.0)) (stay a.id.0 below_a ∙ is.tree_is)
              ∙ (ap (λ t. typed.Conditional (facts (conditional_of role x y z)) x t (tree_at w ns c.id.0))
              (stay b.id.0 below_b ∙ also.tree_is)
              ∙ ap (typed.Conditional (facts (conditional_of role x y z)) x y) (stay c.id.0 below_c ∙ third.tree_is))));
          facts_are = told;
          function_is = ap (plain_entry w) function;
        }

    pub assignment_value : (p : Place) (op : Assigning) (x y : Typed) (s : Sense) (a b : Value) → IsValue w ms x a
        → IsValue w ms y b → a.id.0 < length ms → b.id.0 < length ms
        → plain_sense w s
        ≡ assignment_sense p op (plain_sense w (sense_in a.facts)) (plain_sense w (sense_in b.facts))
        → plain_facts w v.facts
        ≡ known_facts role a.facts.first (plain_sense w s) (a.facts.holds_call || b.facts.holds_call)
        → IsNode ns v.id.0 (nodes.Assignment v.facts op a.id b.id) → v.function ≡ None
        → IsValue w ns (assignment_of p role op x y) v
    assignment_value p op x y s a b is also below_a below_b sense made node function =
        let whole : plain_sense w s ≡ assignment_sense p op (facts x).sense (facts y).sense =
        sense
        ∙ (ap (λ (f : typed.Facts). assignment_sense p op f.sense (plain_sense w (sense_in b.facts))) is.facts_are
        ∙ ap (λ (f : typed.Facts). assignment_sense p op (facts x).sense f.sense) also.facts_are) in
        let told : plain_facts w v.facts ≡ facts (assignment_of p role op x y) =
        known w role a.facts.first v.facts s (assignment_sense p op (facts x).sense (facts y).sense)
        (a.facts.holds_call || b.facts.holds_call) ((facts x).holds_call || ((facts y).holds_call || false)) made whole
        (either a.facts.holds_call b.facts.holds_call (facts x).holds_call (facts y).holds_call
        (ap (λ (f : typed.Facts). f.holds_call) is.facts_are) (ap (λ (f : typed.Facts). f.holds_call) also.facts_are))
        ∙ ap (λ (f : typed.Facts). facts_of role f.first (assignment_sense p op (facts x).sense (facts y).sense)
        (facts x ∷ facts y ∷ [])) is.facts_are in
        record {
          tree_is =
              node.tree w
              ∙ (ap (λ f. typed.Assignment f op (tree_at w ns a.id.0) (tree_at w ns b.id.0)) told
              ∙ (ap (λ t. typed.Assignment (facts (assignment_of p role op x y)) op t (tree_at w ns b.id.0))
              (stay a.id.0 below_a ∙ is.tree_is)
              ∙ ap (typed.Assignment (facts (assignment_of p role op x y)) op x) (stay b.id.0 below_b ∙ also.tree_is)));
          facts_are = told;
          function_is = ap (plain_entry w) function;
        }

-- rows and the parts of types
module _ (w : Readings) (ms ns : List ExprNode) (kept : Keeps ms ns) (v : Value) where
  pub chain_value : (x : Typed) (ls : Links) (row : List Link) (first : Value) → IsValue w ms x first
      → first.id.0 < length ms → links_below (length ms) row ≡ true → links_of w (tree_at w ms) row ≡ ls
      → plain_facts w v.facts ≡ last_link (facts x) ls
      → tree_at w ns v.id.0 ≡ typed.Chain (tree_at w ns first.id.0) (links_of w (tree_at w ns) row)
      → v.function ≡ None → IsValue w ns (typed.Chain x ls) v
  chain_value x ls row first is below rows_below row_is told tree function =
      record {
        tree_is =
            tree
            ∙ (ap (λ t. typed.Chain t (links_of w (tree_at w ns) row)) (kept.same w first.id.0 below ∙ is.tree_is)
            ∙ ap (typed.Chain x) (kept.same_links w row rows_below ∙ row_is));
        facts_are = told;
        function_is = ap (plain_entry w) function;
      }

  pub postfix_value : (x : Typed) (ss : Steps) (row : List Step) (primary : Value) → IsValue w ms x primary
      → primary.id.0 < length ms → steps_below (length ms) row ≡ true → steps_of w (tree_at w ms) row ≡ ss
      → plain_facts w v.facts ≡ last_step (facts x) ss
      → tree_at w ns v.id.0 ≡ typed.Postfix (tree_at w ns primary.id.0) (steps_of w (tree_at w ns) row)
      → v.function ≡ None → IsValue w ns (typed.Postfix x ss) v
  postfix_value x ss row primary is below rows_below row_is told tree function =
      record {
        tree_is =
            tree
            ∙ (ap (λ t. typed.Postfix t (steps_of w (tree_at w ns) row)) (kept.same w primary.id.0 below ∙ is.tree_is)
            ∙ ap (typed.Postfix x) (kept.same_steps w row rows_below ∙ row_is));
        facts_are = told;
        function_is = ap (plain_entry w) function;
      }

  pub sizeof_value : (p : Place) (role : Role) (keyword : Token) (t : Option CType) (parts : TypeParts)
      (written : List Part) (s : Sense) → parts_below (length ms) written ≡ true
      → parts_of w (tree_at w ms) written ≡ parts → plain_sense w s ≡ size_of p t
      → plain_facts w v.facts ≡ known_facts role keyword (plain_sense w s) false
      → tree_at w ns v.id.0 ≡ typed.SizeofType (plain_facts w v.facts) (parts_of w (tree_at w ns) written)
      → v.function ≡ None → IsValue w ns (sizeof_of p role keyword t parts) v
  sizeof_value p role keyword t parts written s rows_below row_is sense made tree function =
      let told = known w role keyword v.facts s (size_of p t) false false made sense refl in
      record {
        tree_is =
            tree
            ∙ (ap (λ f. typed.SizeofType f (parts_of w (tree_at w ns) written)) told
            ∙ ap (typed.SizeofType (facts_of role keyword (size_of p t) []))
            (kept.same_parts w written rows_below ∙ row_is));
        facts_are = told;
        function_is = ap (plain_entry w) function;
      }

  pub cast_value : (role : Role) (opening : Token) (t : Option CType) (parts : TypeParts) (x : Typed)
      (written : List Part) (s : Sense) (operand : Value) → IsValue w ms x operand → operand.id.0 < length ms
      → parts_below (length ms) written ≡ true → parts_of w (tree_at w ms) written ≡ parts
      → plain_sense w s ≡ cast_sense t (plain_sense w (sense_in operand.facts))
      → plain_facts w v.facts ≡ known_facts role opening (plain_sense w s) operand.facts.holds_call
      → tree_at w ns v.id.0
      ≡ typed.Cast (plain_facts w v.facts) (parts_of w (tree_at w ns) written) (tree_at w ns operand.id.0)
      → v.function ≡ None → IsValue w ns (cast_of role opening t parts x) v
  cast_value role opening t parts x written s operand is below rows_below row_is sense made tree function =
      let told : plain_facts w v.facts ≡ facts (cast_of role opening t parts x) =
      known w role opening v.facts s (cast_sense t (facts x).sense) operand.facts.holds_call
      ((facts x).holds_call || false) made
      (sense ∙ ap (λ (f : typed.Facts). cast_sense t f.sense) is.facts_are)
      (ap (λ (f : typed.Facts). f.holds_call) is.facts_are ∙ or-false (facts x).holds_call) in
      record {
        tree_is =
            tree
            ∙ (ap (λ f. typed.Cast f (parts_of w (tree_at w ns) written) (tree_at w ns operand.id.0)) told
            ∙ (ap (λ ps. typed.Cast (facts (cast_of role opening t parts x)) ps (tree_at w ns operand.id.0))
            (kept.same_parts w written rows_below ∙ row_is)
            ∙ ap (typed.Cast (facts (cast_of role opening t parts x)) parts)
            (kept.same w operand.id.0 below ∙ is.tree_is)));
        facts_are = told;
        function_is = ap (plain_entry w) function;
      }

pub ruleset standing = (
  name_value,
  constant_value,
  strings_value,
  paren_value,
  unary_value,
  chain_value,
  postfix_value,
  sizeof_value,
  cast_value,
  conditional_value,
  assignment_value,
)
