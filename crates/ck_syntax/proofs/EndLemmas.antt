-- The first and the last of tokens that are written one after the other.
use Rattle.std.proofs.Common.{◌≡◌, List, [], ◌∷◌, ◌++◌, Option, Some, None, refl, ap, ◌∙◌}
use Rattle.ck_base.specs.declared.tokens.Token.{Token}
use Rattle.ck_grammar.proofs.Appended.{written_appended, operands_appended, specifiers_appended, declarator_appended}
use Rattle.ck_grammar.proofs.Appended.{members_appended, enumerators_appended}
use Rattle.ck_grammar.specs.Statements.{Equals}
use Rattle.ck_grammar.specs.StatementsWritten.{designators}
use Rattle.ck_grammar.specs.Trees as plain
use Rattle.ck_grammar.specs.Written.{written, operands, specifiers, declarator, members, enumerators, optional}
use Rattle.ck_syntax.specs.Ends.{first, last_after, IsFirst, IsLast}
use Rattle.ck_syntax.specs.ExpressionViews.{expr_tree}
use Rattle.ck_syntax.specs.InitialiserViews.{designator_before}
use Rattle.ck_syntax.specs.Rows.{row_before}
use Rattle.ck_syntax.specs.declared.initialisers.Designator.{Designator}
use Rattle.ck_syntax.specs.declared.initialisers.Designator.TheVariants.{DotName, AtIndex}

-- what holds of a plain tree, said of a tree that stands for it
pub first_along : {X : Type 0} (write : X → List Token → List Token) (token : Token) {x y : X}
    → x ≡ y → IsFirst (Some token) (write y) → IsFirst (Some token) (write x)
first_along write token is one = λ more. ap (λ x. first (write x more)) is ∙ one more

pub last_along : {X : Type 0} (write : X → List Token → List Token) (token : Token) {x y : X}
    → x ≡ y → IsLast (Some token) (write y) → IsLast (Some token) (write x)
last_along write token is one = λ before more. ap (λ x. last_after before (write x more)) is ∙ one before more

pub last_after-append : (t : Option Token) (xs ys : List Token)
    → last_after t (xs ++ ys) ≡ last_after (last_after t xs) ys
last_after-append t [] ys = refl
last_after-append t (x ∷ xs) ys = last_after-append (Some x) xs ys

-- the last token of an expression and more tokens
pub last-written : (t : Option Token) (e : plain.Expr) (more : List Token)
    → last_after t (written e more) ≡ last_after (last_after t (written e [])) more
last-written t e more = ap (last_after t) (written_appended e [] more) ∙ last_after-append t (written e []) more

pub last-operands : (t : Option Token) (ops : plain.Operands) (more : List Token)
    → last_after t (operands ops more) ≡ last_after (last_after t (operands ops [])) more
last-operands t ops more =
    ap (last_after t) (operands_appended ops [] more) ∙ last_after-append t (operands ops []) more

pub last-specifiers : (t : Option Token) (s : plain.Specifiers) (more : List Token)
    → last_after t (specifiers s more) ≡ last_after (last_after t (specifiers s [])) more
last-specifiers t s more =
    ap (last_after t) (specifiers_appended s [] more) ∙ last_after-append t (specifiers s []) more

pub last-declarator : (t : Option Token) (d : plain.Declarator) (more : List Token)
    → last_after t (declarator d more) ≡ last_after (last_after t (declarator d [])) more
last-declarator t d more =
    ap (last_after t) (declarator_appended d [] more) ∙ last_after-append t (declarator d []) more

-- the last token of a call's arguments and more tokens
pub last-arguments : (t : Option Token) (e : plain.Expr) (ops : plain.Operands) (c : Token) (more : List Token)
    → last_after t (written e (operands ops (c ∷ more))) ≡ last_after (Some c) more
last-arguments t e ops c more = last-written t e (operands ops (c ∷ more))
    ∙ last-operands (last_after t (written e [])) ops (c ∷ more)

-- what closes a node is its last token
pub closes : (write : List Token → List Token) → ((us more : List Token) → write (us ++ more) ≡ (write us ++ more))
    → (t : Option Token) (c : Token) (more : List Token) → last_after t (write (c ∷ more)) ≡ last_after (Some c) more
closes write appends t c more = ap (last_after t) (appends [] (c ∷ more)) ∙ last_after-append t (write []) (c ∷ more)

-- a node before more tokens
pub last-through : (write : List Token → List Token)
    → ((us more : List Token) → write (us ++ more) ≡ (write us ++ more))
    → (t : Option Token) (more : List Token) → last_after t (write more) ≡ last_after (last_after t (write [])) more
last-through write appends t more = ap (last_after t) (appends [] more) ∙ last_after-append t (write []) more

-- a struct or an enum ends with its brace
pub last-struct : (tag : Option Token) (o : Token) (ms : plain.Members) (k c : Token) (more : List Token)
    → last_after (Some k) (optional tag (o ∷ members ms (c ∷ more))) ≡ last_after (Some c) more
last-struct None o ms k c more = closes (members ms) (members_appended ms) (Some o) c more
last-struct (Some tag) o ms k c more = closes (members ms) (members_appended ms) (Some o) c more

pub last-enum : (tag : Option Token) (o : Token) (es : plain.Enumerators) (k c : Token) (more : List Token)
    → last_after (Some k) (optional tag (o ∷ enumerators es (c ∷ more))) ≡ last_after (Some c) more
last-enum None o es k c more = closes (enumerators es) (enumerators_appended es) (Some o) c more
last-enum (Some tag) o es k c more = closes (enumerators es) (enumerators_appended es) (Some o) c more

-- designators end with their `=`
pub last-designation : {A : Type 0} (t : Option Token) (ds : List (Designator A)) (equals : Token) (more : List Token)
    → last_after t (designators (row_before designator_before ds (Equals equals)) more) ≡ last_after (Some equals) more
last-designation t [] equals more = refl
last-designation t (DotName dot name ∷ ds) equals more = last-designation (Some name) ds equals more
last-designation t (AtIndex opening index closing ∷ ds) equals more =
    last-written (Some opening) (expr_tree index.value)
    (closing ∷ designators (row_before designator_before ds (Equals equals)) more)
    ∙ last-designation (Some closing) ds equals more
