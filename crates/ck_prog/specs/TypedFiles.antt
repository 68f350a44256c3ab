-- The typed trees of files, and what a project declares (C99 6.9).
use Rattle.std.specs.Prelude.{ℕ, suc, Bool, true, false, ◌||◌, List, [], ◌∷◌, Option, Some, None}
use Rattle.ck_base.specs.declared.tokens.Token.{Token}
use Rattle.ck_grammar.specs.Statements as tree
use Rattle.ck_grammar.specs.Statements.{BlockItems, External}
use Rattle.ck_grammar.specs.Trees.{Specifiers, Declarator}
use Rattle.ck_types.specs.Types.{CType, Function}
use Rattle.ck_prog.specs.BaseTypes.{base_type}
use Rattle.ck_prog.specs.Declarations.{Entry, Meaning, FunctionNamed, Place, inside, outside}
use Rattle.ck_prog.specs.Declaring.{after_function_name, defined_params, at_body}
use Rattle.ck_prog.specs.Derivations.{made}
use Rattle.ck_prog.specs.Linking.{storage_class, function_declared}
use Rattle.ck_prog.specs.Sizes.{is_complete}
use Rattle.ck_prog.specs.Tags.{nothing_around}
use Rattle.ck_prog.specs.TypeClasses.{is_void}
use Rattle.ck_prog.specs.TypedBodies.{DeclaredFacts, TypedFunction, TypedExternal, TypedFile, FileDeclaration}
use Rattle.ck_prog.specs.TypedBodies.{FunctionDefinition}
use Rattle.ck_prog.specs.TypedDeclarations.{specified, text_or_nothing, after_declaration, typed_declaration}
use Rattle.ck_prog.specs.TypedDeclarations.{in_whole_declarator}
use Rattle.ck_prog.specs.TypedExpressions.{in_specifiers, in_params, or_token}
use Rattle.ck_prog.specs.TypedExpressions.{first_of_specifiers}
use Rattle.ck_prog.specs.TypedStatements.{Enclosing, after_items, typed_items}
use Rattle.ck_prog.specs.TypedTrees.{TypeParts, NoParts}
use Rattle.ck_prog.specs.Typing.{derivations, after_specifiers, after_declarator, name_of}
use Rattle.ck_prog.specs.declared.names.Defining.TheVariants.{Defines}

-- a file, as it is read
pub record ReadFile : Type 0 where
  pub bytes : List ℕ
  pub externals : List External

-- function definitions (6.9.1) ---------------------------------------------------------------------------------------

abbrev pub result_of_type : Option CType → Option CType
result_of_type (Some (Function q t ps more)) = Some t
result_of_type _ = None

abbrev pub result_of : Meaning → Option CType
result_of (FunctionNamed t l d) = result_of_type t
result_of _ = None

-- 6.9.1: the result is `void` or of a complete type
abbrev pub is_complete_result : Place → Option CType → Bool
is_complete_result p None = true
is_complete_result p (Some t) = is_void t || is_complete p t

-- 6.9.1: the name of the function, as it is declared before its body
abbrev pub defined_entry : Place → Token → Specifiers → Declarator → Entry
defined_entry p opening s d =
    let q = after_specifiers p nothing_around s in
    let r = after_declarator q d in
    let name = text_or_nothing p (name_of d) in
    record {
      file = p.file;
      scope = p.scope;
      name = name;
      at = or_token (first_of_specifiers opening s) (name_of d);
      meaning = function_declared r (storage_class p s) Defines name (made r (derivations q d) (base_type q s));
    }

abbrev pub defined_facts : Place → Entry → DeclaredFacts
defined_facts p e =
    record { entry = e; complete = is_complete_result p (result_of e.meaning); large = false; status = false }

abbrev pub in_definition : Place → Token → Specifiers → Declarator → TypeParts
in_definition p opening s d =
    let q = after_specifiers p nothing_around s in
    in_specifiers p nothing_around s (in_whole_declarator q (specified p q opening s) d)

abbrev pub enclosed_by : Entry → Enclosing
enclosed_by e = record { result = result_of e.meaning; loop = false; switch = false; labels = None }

abbrev pub typed_function : Place → Token → Specifiers → Declarator → BlockItems → TypedFunction
typed_function p opening s d is =
    let named = after_function_name p s d in
    let entry = defined_entry p opening s d in
    record {
      declared = defined_facts named entry;
      scope = (inside named).scope;
      written = in_definition p opening s d;
      parameters = in_params Defines (inside named) opening (defined_params d) NoParts;
      items = typed_items (at_body p s d) (enclosed_by entry) is;
    }

-- files --------------------------------------------------------------------------------------------------------------

abbrev pub after_external : Place → External → Place
after_external p (tree.FileDeclaration d) = after_declaration p d
after_external p (tree.FunctionDefinition s d opening is closing) =
    outside (after_function_name p s d) (after_items (at_body p s d) is)

abbrev pub typed_external : Place → External → TypedExternal
typed_external p (tree.FileDeclaration d) = FileDeclaration (typed_declaration p d)
typed_external p (tree.FunctionDefinition s d opening is closing) =
    FunctionDefinition (typed_function p opening s d is)

abbrev pub after_externals : Place → List External → Place
after_externals p [] = p
after_externals p (x ∷ xs) = after_externals (after_external p x) xs

abbrev pub typed_externals : Place → List External → List TypedExternal
typed_externals p [] = []
typed_externals p (x ∷ xs) = typed_external p x ∷ typed_externals (after_external p x) xs

-- projects: the files from a number on, after the declarations of those before ---------------------------------------

abbrev pub at_file : List Entry → ℕ → List ℕ → Place
at_file declared k bytes = record { declared = declared; file = k; bytes = bytes; scope = [] }

abbrev pub declared_from : List Entry → ℕ → List ReadFile → List Entry
declared_from declared k [] = declared
declared_from declared k (f ∷ fs) =
    declared_from (after_externals (at_file declared k f.bytes) f.externals).declared (suc k) fs

abbrev pub typed_from : List Entry → ℕ → List ReadFile → List TypedFile
typed_from declared k [] = []
typed_from declared k (f ∷ fs) =
    let p = at_file declared k f.bytes in
    record { bytes = f.bytes; externals = typed_externals p f.externals }
    ∷ typed_from (after_externals p f.externals).declared (suc k) fs

-- all declarations of a project, the latest first
abbrev pub declarations : List ReadFile → List Entry
declarations fs = declared_from [] 0 fs

abbrev pub typed_files : List ReadFile → List TypedFile
typed_files fs = typed_from [] 0 fs
