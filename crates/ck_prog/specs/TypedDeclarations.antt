-- The typed tree of a declaration at a place, and the place after it (C99 6.7, 6.7.8).
use Rattle.std.specs.Prelude.{ℕ, Bool, true, false, ◌&&◌, ◌||◌, not, List, [], Option, Some, None}
use Rattle.ck_base.specs.declared.tokens.Token.{Token}
use Rattle.ck_grammar.specs.Statements as tree
use Rattle.ck_grammar.specs.Statements.{Init, Declared, MoreDeclared, Plainly, Initialised, NoMoreDeclared, AndPlainly}
use Rattle.ck_grammar.specs.Statements.{AndInitialised, Bare, Declares}
use Rattle.ck_grammar.specs.Trees.{Specifiers, Declarator, NoSpecifiers, Word, TypedefName, Named, NoDims}
use Rattle.ck_types.specs.Types.{CType, Array}
use Rattle.ck_prog.specs.BaseTypes.{base_type}
use Rattle.ck_prog.specs.Declarations.{Entry, Meaning, Variable, Place, text, is_written, is_file_scope}
use Rattle.ck_prog.specs.Declaring.{alone, around_by, after_first_specifiers, with_declared, declares_function}
use Rattle.ck_prog.specs.Derivations.{made}
use Rattle.ck_prog.specs.Linking.{StorageClass, storage_class, declared_as, unqualified_type, type_of}
use Rattle.ck_prog.specs.Sizes.{layout, is_complete_type, is_large}
use Rattle.ck_prog.specs.TypeClasses.{Qualified}
use Rattle.ck_prog.specs.TypedBodies.{DeclaredFacts, TypedDeclarators, NoDeclared, TypedDeclaration, Declaration}
use Rattle.ck_prog.specs.TypedBodies as typed
use Rattle.ck_prog.specs.TypedExpressions.{in_specifiers, in_declarator, declarator_facts, first_of_specifiers}
use Rattle.ck_prog.specs.TypedExpressions.{or_token}
use Rattle.ck_prog.specs.TypedInitialisers.{typed_whole, after_initialiser, size_given}
use Rattle.ck_prog.specs.TypedTrees.{TypeParts, NoParts, WholeDeclarator, OfDeclaration}
use Rattle.ck_prog.specs.Typing.{derivations, after_specifiers, after_declarator, name_of, is_static}

-- what the specifiers of a declaration say
pub record Specified : Type 0 where
  pub class : StorageClass
  pub base : Option Qualified
  pub first : Token
  -- they are those of a variable that may keep the kernel's status
  pub status : Bool

-- the kernel's status: a variable of a block, of the type name `syssts_t` with at most `const` and `volatile` ---------

abbrev pub are_qualifiers : Place → Specifiers → Bool
are_qualifiers p NoSpecifiers = true
are_qualifiers p (Word t rest) = (is_written p t "const" || is_written p t "volatile") && are_qualifiers p rest
are_qualifiers p _ = false

abbrev pub are_of_status : Place → Specifiers → Bool
are_of_status p (Word t rest) = (is_written p t "const" || is_written p t "volatile") && are_of_status p rest
are_of_status p (TypedefName t rest) = is_written p t "syssts_t" && are_qualifiers p rest
are_of_status p _ = false

-- a declarator that is its name alone
abbrev pub is_name : Declarator → Bool
is_name (Named [] name NoDims) = true
is_name _ = false

-- specifiers, at the place before them, and the first token of the declaration ----------------------------------------

abbrev pub specified : Place → Place → Token → Specifiers → Specified
specified before after first s =
    record {
      class = storage_class before s;
      base = base_type after s;
      first = first_of_specifiers first s;
      status = not (is_file_scope before.scope) && are_of_status before s;
    }

-- the name and its size -----------------------------------------------------------------------------------------------

abbrev pub text_or_nothing : Place → Option Token → List ℕ
text_or_nothing p None = []
text_or_nothing p (Some name) = text p name

-- the type of the declarator alone
abbrev pub own_type : Place → Specified → Declarator → Option Qualified
own_type p b d = made (after_declarator p d) (derivations p d) b.base

-- a declarator at a place says what its name is; the name is declared at a later place with a type, before an
-- initialiser or not
abbrev pub declared_entry : Place → Place → Specified → Bool → Declarator → Option Qualified → Entry
declared_entry p q b initialised d t =
    let name = text_or_nothing q (name_of d) in
    record {
      file = q.file;
      scope = q.scope;
      name = name;
      at = or_token b.first (name_of d);
      meaning = declared_as q b.class (declares_function (derivations p d) t) initialised name t;
    }

abbrev pub declared_at : Place → Place → Specified → Bool → Declarator → Option Qualified → Place
declared_at p q b initialised d t =
    with_declared q b.class (declares_function (derivations p d) t) initialised (name_of d) t

-- 6.7.8: at the end of its initialiser an array of unknown size has the size that the initialiser gives it
abbrev pub with_elements : ℕ → CType → Option CType
with_elements n (Array q t None) = Some (Array q t (Some n))
with_elements n t = None

abbrev pub retyped : Qualified → Option CType → Option Qualified
retyped q None = None
retyped q (Some t) = Some (record q { type = t })

abbrev pub sized_by : Option ℕ → Option Qualified → Option Qualified
sized_by (Some n) (Some q) = retyped q (with_elements n q.type)
sized_by _ _ = None

-- a name that has got a size is declared anew with it
abbrev pub resized_at : Place → Place → Specified → Declarator → Option Qualified → Place
resized_at p q b d None = q
resized_at p q b d (Some t) = declared_at p q b true d (Some t)

abbrev pub resized_entry : Entry → Place → Place → Specified → Declarator → Option Qualified → Entry
resized_entry before p q b d None = before
resized_entry before p q b d (Some t) = declared_entry p q b true d (Some t)

-- facts ---------------------------------------------------------------------------------------------------------------

abbrev pub is_static_object : Meaning → Bool
is_static_object (Variable t l d s) = is_static s
is_static_object _ = false

abbrev pub is_large_type : Place → Option CType → Bool
is_large_type p None = false
is_large_type p (Some t) = is_large (layout p t)

abbrev pub declared_facts : Place → Specified → Declarator → Entry → DeclaredFacts
declared_facts p b d e =
    record {
      entry = e;
      complete = is_complete_type p (type_of e.meaning);
      large = is_large_type p (type_of e.meaning);
      status = b.status && is_name d;
    }

-- what is written in a declarator
abbrev pub in_whole_declarator : Place → Specified → Declarator → TypeParts
in_whole_declarator p b d =
    let r = after_declarator p d in
    in_declarator p r b.base [] d
    (WholeDeclarator (declarator_facts OfDeclaration r (derivations p d) b.first d b.base) NoParts)

-- declarators, with and without an initialiser ------------------------------------------------------------------------

abbrev pub after_plain : Place → Specified → Declarator → Place
after_plain p b d = declared_at p (after_declarator p d) b false d (own_type p b d)

abbrev pub typed_plain : Place → Specified → Declarator → TypedDeclarators → TypedDeclarators
typed_plain p b d more =
    let q = after_declarator p d in
    let entry = declared_entry p q b false d (own_type p b d) in
    typed.Declared (in_whole_declarator p b d) (declared_facts (after_plain p b d) b d entry) None more

-- 6.2.1: the name is in sight in its initialiser
abbrev pub at_initialiser : Place → Specified → Declarator → Place
at_initialiser p b d = declared_at p (after_declarator p d) b true d (own_type p b d)

abbrev pub typed_value : Place → Specified → Declarator → Init → typed.TypedInitialiser
typed_value p b d i =
    let entry = declared_entry p (after_declarator p d) b true d (own_type p b d) in
    typed_whole (at_initialiser p b d) (is_static_object entry.meaning) (unqualified_type (own_type p b d)) i

abbrev pub size_by : Place → Specified → Declarator → Init → Option Qualified
size_by p b d i = sized_by (size_given (typed_value p b d i)) (own_type p b d)

abbrev pub after_initialised : Place → Specified → Declarator → Init → Place
after_initialised p b d i = resized_at p (after_initialiser (at_initialiser p b d) i) b d (size_by p b d i)

abbrev pub typed_initialised : Place → Specified → Declarator → Init → TypedDeclarators → TypedDeclarators
typed_initialised p b d i more =
    let entry = declared_entry p (after_declarator p d) b true d (own_type p b d) in
    let r = after_initialiser (at_initialiser p b d) i in
    let last = resized_entry entry p r b d (size_by p b d i) in
    typed.Declared (in_whole_declarator p b d) (declared_facts (after_initialised p b d i) b d last)
    (Some (typed_value p b d i)) more

-- declarations --------------------------------------------------------------------------------------------------------

abbrev pub after_more : Place → Specified → MoreDeclared → Place
after_more p b NoMoreDeclared = p
after_more p b (AndPlainly comma d rest) = after_more (after_plain p b d) b rest
after_more p b (AndInitialised comma d equals i rest) = after_more (after_initialised p b d i) b rest

abbrev pub typed_more : Place → Specified → MoreDeclared → TypedDeclarators
typed_more p b NoMoreDeclared = NoDeclared
typed_more p b (AndPlainly comma d rest) = typed_plain p b d (typed_more (after_plain p b d) b rest)
typed_more p b (AndInitialised comma d equals i rest) =
    typed_initialised p b d i (typed_more (after_initialised p b d i) b rest)

abbrev pub after_all : Place → Specified → Declarator → Declared → Place
after_all p b d (Plainly rest) = after_more (after_plain p b d) b rest
after_all p b d (Initialised equals i rest) = after_more (after_initialised p b d i) b rest

abbrev pub typed_all : Place → Specified → Declarator → Declared → TypedDeclarators
typed_all p b d (Plainly rest) = typed_plain p b d (typed_more (after_plain p b d) b rest)
typed_all p b d (Initialised equals i rest) =
    typed_initialised p b d i (typed_more (after_initialised p b d i) b rest)

abbrev pub after_declaration : Place → tree.Declaration → Place
after_declaration p (Bare s semicolon) = after_specifiers p alone s
after_declaration p (Declares s d declared semicolon) =
    let q = after_first_specifiers p s d in after_all q (specified p q semicolon s) d declared

abbrev pub typed_declaration : Place → tree.Declaration → TypedDeclaration
typed_declaration p (Bare s semicolon) =
    Declaration (first_of_specifiers semicolon s) (in_specifiers p alone s NoParts) NoDeclared
typed_declaration p (Declares s d declared semicolon) =
    let q = after_first_specifiers p s d in
    Declaration (first_of_specifiers semicolon s) (in_specifiers p (around_by p (storage_class p s) d) s NoParts)
    (typed_all q (specified p q semicolon s) d declared)
