-- The place after an initialiser, a declaration, a statement or a file comes after the place before it.
use Rattle.std.specs.Prelude.{Bool, true, false, List, [], ◌∷◌, Option, Some, None}
use Rattle.std.proofs.Common.{refl}
use Rattle.ck_grammar.specs.Statements as tree
use Rattle.ck_grammar.specs.Statements.{Designators, Init, Inits, Declared, MoreDeclared, Declaration, ForStart}
use Rattle.ck_grammar.specs.Statements.{Statement}
use Rattle.ck_grammar.specs.Statements.{BlockItems, External, Equals, DotName, AtIndex, Value, Braced, LastInit}
use Rattle.ck_grammar.specs.Statements.{NextInit}
use Rattle.ck_grammar.specs.Statements.{Plainly, Initialised, NoMoreDeclared, AndPlainly, AndInitialised, Bare}
use Rattle.ck_grammar.specs.Statements.{StartEmpty, StartExpr, StartDeclaration, Block, Empty, ExpressionStatement, If}
use Rattle.ck_grammar.specs.Statements.{IfElse, Switch, While, Do, For, Case, Default, Goto, Jump, Return, ReturnValue}
use Rattle.ck_grammar.specs.Statements.{NoBlockItems, DeclarationItem, StatementItem, FileDeclaration}
use Rattle.ck_grammar.specs.Statements.{FunctionDefinition}
use Rattle.ck_grammar.specs.Trees.{Expr, Declarator}
use Rattle.ck_prog.specs.Declarations.{Label, Place, text, inside, outside}
use Rattle.ck_prog.specs.Declaring.{alone, around_by, after_first_specifiers, after_function_name, defined_params}
use Rattle.ck_prog.specs.Declaring.{at_body}
use Rattle.ck_prog.specs.Declaring.{declares_function}
use Rattle.ck_prog.specs.Growing.{ComesAfter, AtOnce, AfterScope}
use Rattle.ck_prog.specs.Linking.{storage_class}
use Rattle.ck_prog.specs.TypeClasses.{Qualified}
use Rattle.ck_prog.specs.TypedDeclarations.{Specified, specified, own_type, size_by, declared_at, resized_at}
use Rattle.ck_prog.specs.TypedDeclarations.{after_plain}
use Rattle.ck_prog.specs.TypedDeclarations.{at_initialiser, after_initialised, after_more, after_all, after_declaration}
use Rattle.ck_prog.specs.TypedFiles.{after_external, after_externals}
use Rattle.ck_prog.specs.TypedInitialisers.{after_designators, after_designation, after_initialiser, after_initialisers}
use Rattle.ck_prog.specs.TypedStatements.{after_maybe, after_start, at_for, with_label, after_statement, after_items}
use Rattle.ck_prog.specs.Typing.{after, after_declarator, after_params, derivations, name_of}
use Rattle.ck_prog.specs.declared.names.Defining.TheVariants.{Defines}
use Rattle.ck_prog.proofs.TreesDeclare.{and_then, after_one, expression_declares, specifiers_declare}
use Rattle.ck_prog.proofs.TreesDeclare.{declarator_declares}
use Rattle.ck_prog.proofs.TreesDeclare.{params_declare, after_with_declared, function_name_declares}

-- initialisers -------------------------------------------------------------------------------------------------------

designators_declare : (p : Place) (ds : Designators) → ComesAfter p (after_designators p ds)
designators_declare p (Equals equals) = AtOnce p
designators_declare p (DotName dot name rest) = designators_declare p rest
designators_declare p (AtIndex opening e closing rest) =
    let q = after p e in
    and_then p q (after_designators q rest) (expression_declares p e) (designators_declare q rest)

designation_declares : (p : Place) (ds : Option Designators) → ComesAfter p (after_designation p ds)
designation_declares p None = AtOnce p
designation_declares p (Some ds) = designators_declare p ds

mutual
  pub initialiser_declares : (p : Place) (i : Init) → ComesAfter p (after_initialiser p i)
  initialiser_declares p (Value e) = expression_declares p e
  initialiser_declares p (Braced opening is closing) = initialisers_declare p is

  initialisers_declare : (p : Place) (is : Inits) → ComesAfter p (after_initialisers p is)
  initialisers_declare p (LastInit ds i comma) =
      let q = after_designation p ds in
      and_then p q (after_initialiser q i) (designation_declares p ds) (initialiser_declares q i)
  initialisers_declare p (NextInit ds i comma rest) =
      let q = after_designation p ds in
      let r = after_initialiser q i in
      and_then p q (after_initialisers r rest) (designation_declares p ds)
      (and_then q r (after_initialisers r rest) (initialiser_declares q i) (initialisers_declare r rest))

-- declarations -------------------------------------------------------------------------------------------------------

at_declares : (p q : Place) (b : Specified) (initialised : Bool) (d : Declarator) (t : Option Qualified)
    → ComesAfter q (declared_at p q b initialised d t)
at_declares p q b initialised d t =
    after_with_declared q b.class (declares_function (derivations p d) t) initialised (name_of d) t

resized_declares : (p q : Place) (b : Specified) (d : Declarator) (t : Option Qualified)
    → ComesAfter q (resized_at p q b d t)
resized_declares p q b d None = AtOnce q
resized_declares p q b d (Some t) = at_declares p q b true d (Some t)

plain_declares : (p : Place) (b : Specified) (d : Declarator) → ComesAfter p (after_plain p b d)
plain_declares p b d =
    let q = after_declarator p d in
    and_then p q (after_plain p b d) (declarator_declares p d) (at_declares p q b false d (own_type p b d))

initialised_declares : (p : Place) (b : Specified) (d : Declarator) (i : Init)
    → ComesAfter p (after_initialised p b d i)
initialised_declares p b d i =
    let q = after_declarator p d in
    let r = at_initialiser p b d in
    let s = after_initialiser r i in
    let end = after_initialised p b d i in
    and_then p q end (declarator_declares p d)
    (and_then q r end (at_declares p q b true d (own_type p b d))
    (and_then r s end (initialiser_declares r i) (resized_declares p s b d (size_by p b d i))))

more_declare : (p : Place) (b : Specified) (m : MoreDeclared) → ComesAfter p (after_more p b m)
more_declare p b NoMoreDeclared = AtOnce p
more_declare p b (AndPlainly comma d rest) =
    let q = after_plain p b d in and_then p q (after_more q b rest) (plain_declares p b d) (more_declare q b rest)
more_declare p b (AndInitialised comma d equals i rest) =
    let q = after_initialised p b d i in
    and_then p q (after_more q b rest) (initialised_declares p b d i) (more_declare q b rest)

all_declare : (p : Place) (b : Specified) (d : Declarator) (m : Declared) → ComesAfter p (after_all p b d m)
all_declare p b d (Plainly rest) =
    let q = after_plain p b d in and_then p q (after_more q b rest) (plain_declares p b d) (more_declare q b rest)
all_declare p b d (Initialised equals i rest) =
    let q = after_initialised p b d i in
    and_then p q (after_more q b rest) (initialised_declares p b d i) (more_declare q b rest)

pub declaration_declares : (p : Place) (d : Declaration) → ComesAfter p (after_declaration p d)
declaration_declares p (Bare s semicolon) = specifiers_declare p alone s
declaration_declares p (tree.Declares s d declared semicolon) =
    let q = after_first_specifiers p s d in
    let b = specified p q semicolon s in
    and_then p q (after_all q b d declared) (specifiers_declare p (around_by p (storage_class p s) d) s)
    (all_declare q b d declared)

-- statements ---------------------------------------------------------------------------------------------------------

maybe_declares : (p : Place) (e : Option Expr) → ComesAfter p (after_maybe p e)
maybe_declares p None = AtOnce p
maybe_declares p (Some e) = expression_declares p e

start_declares : (p : Place) (start : ForStart) → ComesAfter p (after_start p start)
start_declares p (StartEmpty semicolon) = AtOnce p
start_declares p (StartExpr e semicolon) = expression_declares p e
start_declares p (StartDeclaration d) = declaration_declares p d

for_declares : (p : Place) (start : ForStart) (test step : Option Expr) → ComesAfter p (at_for p start test step)
for_declares p start test step =
    let q = after_start p start in
    let r = after_maybe q test in
    and_then p q (after_maybe r step) (start_declares p start)
    (and_then q r (after_maybe r step) (maybe_declares q test) (maybe_declares r step))

-- a scope in which a statement is in a scope of its own
in_scopes : (p q r : Place) → ComesAfter (inside p) q → ComesAfter (inside q) r → ComesAfter p (outside p r)
in_scopes p q r c d =
    AfterScope p p (outside q r) (AtOnce p) (and_then (inside p) q (outside q r) c (AfterScope q q r (AtOnce q) d))

mutual
  pub statement_declares : (p : Place) (s : Statement) → ComesAfter p (after_statement p s)
  statement_declares p (Block opening is closing) =
      AfterScope p p (after_items (inside p) is) (AtOnce p) (items_declare (inside p) is)
  statement_declares p (Empty semicolon) = AtOnce p
  statement_declares p (ExpressionStatement e semicolon) = expression_declares p e
  statement_declares p (If keyword opening e closing s) =
      let q = after (inside p) e in
      in_scopes p q (after_statement (inside q) s) (expression_declares (inside p) e) (statement_declares (inside q) s)
  statement_declares p (IfElse keyword opening e closing s otherwise t) =
      let q = after (inside p) e in
      let r = outside q (after_statement (inside q) s) in
      in_scopes p r (after_statement (inside r) t)
      (and_then (inside p) q r (expression_declares (inside p) e)
      (AfterScope q q (after_statement (inside q) s) (AtOnce q) (statement_declares (inside q) s)))
      (statement_declares (inside r) t)
  statement_declares p (Switch keyword opening e closing s) =
      let q = after (inside p) e in
      in_scopes p q (after_statement (inside q) s) (expression_declares (inside p) e) (statement_declares (inside q) s)
  statement_declares p (While keyword opening e closing s) =
      let q = after (inside p) e in
      in_scopes p q (after_statement (inside q) s) (expression_declares (inside p) e) (statement_declares (inside q) s)
  statement_declares p (Do keyword s while opening e closing semicolon) =
      let q = inside p in
      let r = outside q (after_statement (inside q) s) in
      AfterScope p p (after r e) (AtOnce p)
      (and_then q r (after r e)
      (AfterScope q q (after_statement (inside q) s) (AtOnce q) (statement_declares (inside q) s))
      (expression_declares r e))
  statement_declares p (For keyword opening start test semicolon step closing s) =
      let q = at_for (inside p) start test step in
      in_scopes p q (after_statement (inside q) s) (for_declares (inside p) start test step)
      (statement_declares (inside q) s)
  statement_declares p (Case keyword e colon s) =
      let q = after p e in
      and_then p q (after_statement q s) (expression_declares p e) (statement_declares q s)
  statement_declares p (Default keyword colon s) = statement_declares p s
  statement_declares p (tree.Label name colon s) =
      let q = with_label p name in
      and_then p q (after_statement q s) (after_one p (text p name) name Label refl) (statement_declares q s)
  statement_declares p (Goto keyword name semicolon) = AtOnce p
  statement_declares p (Jump keyword semicolon) = AtOnce p
  statement_declares p (Return keyword semicolon) = AtOnce p
  statement_declares p (ReturnValue keyword e semicolon) = expression_declares p e

  pub items_declare : (p : Place) (is : BlockItems) → ComesAfter p (after_items p is)
  items_declare p NoBlockItems = AtOnce p
  items_declare p (DeclarationItem d rest) =
      let q = after_declaration p d in
      and_then p q (after_items q rest) (declaration_declares p d) (items_declare q rest)
  items_declare p (StatementItem s rest) =
      let q = after_statement p s in
      and_then p q (after_items q rest) (statement_declares p s) (items_declare q rest)

-- files --------------------------------------------------------------------------------------------------------------

body_declares : (q : Place) (d : Declarator) (is : BlockItems)
    → ComesAfter q (outside q (after_items (after_params Defines (inside q) (defined_params d)) is))
body_declares q d is =
    let r = after_params Defines (inside q) (defined_params d) in
    AfterScope q q (after_items r is) (AtOnce q)
    (and_then (inside q) r (after_items r is) (params_declare Defines (inside q) (defined_params d))
    (items_declare r is))

pub external_declares : (p : Place) (x : External) → ComesAfter p (after_external p x)
external_declares p (FileDeclaration d) = declaration_declares p d
external_declares p (FunctionDefinition s d opening is closing) =
    let q = after_function_name p s d in
    and_then p q (outside q (after_items (at_body p s d) is)) (function_name_declares p s d) (body_declares q d is)

pub externals_declare : (p : Place) (xs : List External) → ComesAfter p (after_externals p xs)
externals_declare p [] = AtOnce p
externals_declare p (x ∷ xs) =
    let q = after_external p x in
    and_then p q (after_externals q xs) (external_declares p x) (externals_declare q xs)
