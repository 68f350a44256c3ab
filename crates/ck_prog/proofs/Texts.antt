-- How worked texts are stated: files are written with one blank between two tokens. What is declared in bodies and
-- initialisers is left out here. For worked texts alone.
use Rattle.std.specs.Prelude.{ℕ, ◌+◌, suc, Bool, true, false, ◌||◌, List, [], ◌∷◌, length, Option, Some, None, codes}
use Rattle.ck_base.specs.Characters.{◌∈◌, ◌∈range◌}
use Rattle.ck_base.specs.declared.tokens.Token.{Token}
use Rattle.ck_base.specs.declared.tokens.TokenKind.{TokenKind}
use Rattle.ck_base.specs.declared.tokens.TokenKind.TheVariants as kinds
use Rattle.ck_grammar.specs.Levels as level
use Rattle.ck_grammar.specs.Reading.{expr_at}
use Rattle.ck_grammar.specs.ReadingStatements.{file_at}
use Rattle.ck_grammar.specs.Spelling.{most}
use Rattle.ck_grammar.specs.Statements.{External, FileDeclaration, FunctionDefinition, Bare, Declares}
use Rattle.ck_grammar.specs.Statements.{MoreDeclared, NoMoreDeclared, AndPlainly, AndInitialised, Declared, Plainly}
use Rattle.ck_grammar.specs.Statements.{Initialised}
use Rattle.ck_grammar.specs.Trees.{Expr, Declarator}
use Rattle.ck_grammar.specs.Words.{words, ◌∈words◌, word_of}
use Rattle.ck_prog.specs.BaseTypes.{base_type}
use Rattle.ck_prog.specs.Declarations.{Entry, Meaning, Place, meant, meaning_of, inside, outside}
use Rattle.ck_types.specs.Types.{CType}
use Rattle.ck_prog.specs.Declaring.{at_body}
use Rattle.ck_prog.specs.Declaring.{alone, after_first_specifiers, after_declared, after_function_name, defined_params}
use Rattle.ck_prog.specs.Linking.{StorageClass, storage_class, type_of}
use Rattle.ck_prog.specs.Senses.{Sense, Constancy, no_type}
use Rattle.ck_prog.specs.TypeClasses.{Qualified}
use Rattle.ck_prog.specs.TypedExpressions.{typed_expression}
use Rattle.ck_prog.specs.TypedTrees.{Typed}
use Rattle.ck_prog.specs.Typing.{sense, after_specifiers, after_params}
use Rattle.ck_prog.specs.declared.names.Defining.TheVariants.{Defines}
use Rattle.ck_prog.specs.declared.operators.Role.TheVariants.{Value}
use Prim.Native.String.{String}

-- the kind of the token that a word is, by its first byte
abbrev kind_by : Bool → Bool → Bool → Bool → Bool → TokenKind
kind_by true name digit quote character = kinds.Key
kind_by false true digit quote character = kinds.Word
kind_by false false true quote character = kinds.Number
kind_by false false false true character = kinds.Text
kind_by false false false false true = kinds.Char
kind_by false false false false false = kinds.Mark

abbrev is_keyword : List ℕ → Bool
is_keyword text =
    text ∈words "auto break case char const continue default do else enum extern for goto if inline int long register"
    || text ∈words "restrict return short signed sizeof static struct switch typedef unsigned void volatile while _Bool"

abbrev kind_of : List ℕ → TokenKind
kind_of [] = kinds.Mark
kind_of (b ∷ rest) =
    kind_by (is_keyword (b ∷ rest)) (b ∈range "az" || b ∈range "AZ" || b ∈ "_") (b ∈range "09") (b ∈ "\"") (b ∈ "'")

-- the tokens that these words are, from a byte on
abbrev pub tokens_from : ℕ → ℕ → List (List ℕ) → List Token
tokens_from file start [] = []
tokens_from file start (text ∷ texts) =
    record { kind = kind_of text; span = record { file = file; start = start; end = start + length text } }
    ∷ tokens_from file (suc (start + length text)) texts

abbrev pub tokens_of : ℕ → String → List Token
tokens_of file line = tokens_from file 0 (words line)

-- an expression, where these are the typedef names
abbrev pub expression_of : List (List ℕ) → String → Option (Expr × List Token)
expression_of typedefs line = expr_at (word_of (codes line) typedefs) most level.comma (tokens_of 0 line)

abbrev pub or_empty : Option (List External) → List External
or_empty None = []
or_empty (Some xs) = xs

abbrev pub externals_of : ℕ → String → List External
externals_of file line = or_empty (file_at (codes line) (tokens_of file line))

-- the place after declarations without initialisers and the names of functions that are defined
abbrev after_others : Place → StorageClass → Option Qualified → MoreDeclared → Place
after_others p class base NoMoreDeclared = p
after_others p class base (AndPlainly comma d rest) = after_others (after_declared p class false base d) class base rest
after_others p class base (AndInitialised comma d equals i rest) =
    after_others (after_declared p class true base d) class base rest

abbrev after_all : Place → StorageClass → Option Qualified → Declarator → Declared → Place
after_all p class base d (Plainly rest) = after_others (after_declared p class false base d) class base rest
after_all p class base d (Initialised equals i rest) = after_others (after_declared p class true base d) class base rest

abbrev after_external : Place → External → Place
after_external p (FileDeclaration (Bare s semicolon)) = after_specifiers p alone s
after_external p (FileDeclaration (Declares s d declared semicolon)) =
    let q = after_first_specifiers p s d in
    after_all q (storage_class p s) (base_type q s) d declared
after_external p (FunctionDefinition s d opening items closing) =
    let q = after_function_name p s d in
    outside q (after_params Defines (inside q) (defined_params d))

abbrev pub after_externals : Place → List External → Place
after_externals p [] = p
after_externals p (x ∷ xs) = after_externals (after_external p x) xs

-- the place after one more file, which has this number
abbrev pub after_file : List Entry → ℕ → String → Place
after_file declared file line =
    after_externals (record { declared = declared; file = file; bytes = codes line; scope = [] })
    (externals_of file line)

abbrev pub after_text : String → Place
after_text line = after_file [] 0 line

-- what a name means after a file
abbrev pub means : String → String → Option Meaning
means line name = meaning_of (meant (after_text line) (codes name))

-- in another text of the same file, as if it began there
abbrev pub in_text : Place → String → Place
in_text p line = record p { bytes = codes line }

abbrev pub sense_of_read : Place → Option (Expr × List Token) → Sense
sense_of_read p None = no_type
sense_of_read p (Some e) = sense p e.0

-- the sense of an expression after a file, where these are the typedef names
abbrev pub sense_with : List (List ℕ) → String → String → Sense
sense_with typedefs line expression =
    sense_of_read (in_text (after_text line) expression) (expression_of typedefs expression)

abbrev pub sense_in : String → String → Sense
sense_in line expression = sense_with [] line expression

abbrev typed_of_read : Place → Option (Expr × List Token) → Option Typed
typed_of_read p None = None
typed_of_read p (Some e) = Some (typed_expression p Value e.0)

-- the typed tree of an expression after a file
abbrev pub typed_in : String → String → Option Typed
typed_in line expression = typed_of_read (in_text (after_text line) expression) (expression_of [] expression)

-- the place where the body of the last function begins
abbrev body_of : Place → External → Place
body_of p (FunctionDefinition s d opening items closing) = at_body p s d
body_of p (FileDeclaration d) = p

abbrev last_body : Place → List External → Place
last_body p [] = p
last_body p (x ∷ []) = body_of p x
last_body p (x ∷ y ∷ xs) = last_body (after_external p x) (y ∷ xs)

abbrev pub in_body : String → Place
in_body line = last_body (record { declared = []; file = 0; bytes = codes line; scope = [] }) (externals_of 0 line)

-- the sense of an expression in the body of the last function
abbrev pub sense_in_body : String → String → Sense
sense_in_body line expression = sense_of_read (in_text (in_body line) expression) (expression_of [] expression)

abbrev type_of_meaning : Option Meaning → Option CType
type_of_meaning None = None
type_of_meaning (Some m) = type_of m

-- the types of names after a file
abbrev pub types_at : Place → List String → List (Option CType)
types_at p [] = []
types_at p (name ∷ names) = type_of_meaning (meaning_of (meant p (codes name))) ∷ types_at p names

abbrev pub types_of : String → List String → List (Option CType)
types_of line names = types_at (after_text line) names

abbrev constancies_at : Place → List String → List Constancy
constancies_at p [] = []
constancies_at p (e ∷ es) = (sense_of_read (in_text p e) (expression_of [] e)).constancy ∷ constancies_at p es

-- whether expressions are constant after a file
abbrev pub constancies : String → List String → List Constancy
constancies line es = constancies_at (after_text line) es
