-- Which declarations, statements and files are well formed (C99 6.7 to 6.9), in the manner of `Fitting`. File scope
-- threads the typedef names through a file: the scope of a name begins after its declarator (6.2.1).
use Rattle.std.specs.Prelude.{◌≡◌, ◌⊎◌, ℕ, Bool, true, false, List, [], ◌∷◌, Option, Some, None, codes, if◌then◌else◌}
use Rattle.ck_base.specs.TokenText.{text_of}
use Rattle.ck_base.specs.declared.tokens.Token.{Token}
use Rattle.ck_grammar.specs.Fitting.{Fits, FitsEach, FitsDeclarator, IsComma, NewName, AtMost, GoTogether}
use Rattle.ck_grammar.specs.Levels as level
use Rattle.ck_grammar.specs.Specified.{Place, InBlock, InFile}
use Rattle.ck_grammar.specs.Statements.{Designators, Init, Inits, Declared, MoreDeclared, Declaration, ForStart}
use Rattle.ck_grammar.specs.Statements.{Statement, BlockItems, External, Equals, DotName, AtIndex, Value, Braced}
use Rattle.ck_grammar.specs.Statements.{LastInit, NextInit, Plainly, Initialised, NoMoreDeclared, AndPlainly}
use Rattle.ck_grammar.specs.Statements.{AndInitialised, Bare, Declares, StartEmpty, StartExpr, StartDeclaration, Block}
use Rattle.ck_grammar.specs.Statements.{Empty, ExpressionStatement, If, IfElse, Switch, While, Do, For, Case, Default}
use Rattle.ck_grammar.specs.Statements.{Label, Goto, Jump, Return, ReturnValue, NoBlockItems, DeclarationItem}
use Rattle.ck_grammar.specs.Statements.{StatementItem, FileDeclaration, FunctionDefinition}
use Rattle.ck_grammar.specs.Trees as trees
use Rattle.ck_grammar.specs.Trees.{Expr, Specifiers, Declarator, Dims, Params, MoreParams, Abstract, Named, Nested}
use Rattle.ck_grammar.specs.Trees.{NoDims, Open, Sized, Function, NoParams, VoidParams, Parameters, NoMore, Ellipsis}
use Rattle.ck_grammar.specs.Trees.{More, NoSpecifiers, TypedefName, Tagged, Struct, Enum}
use Rattle.ck_grammar.specs.Words.{Word, Fixed, Is, is_text, is_identifier, word_of}
use Prim.Native.String.{String}

abbrev pub has_designator : Designators → Bool
has_designator (Equals equals) = false
has_designator _ = true

-- the name that a declarator declares (6.7.5)
abbrev pub name_of : Declarator → Option Token
name_of (Abstract stars ds) = None
name_of (Named stars t ds) = Some t
name_of (Nested stars opening d closing ds) = name_of d

abbrev pub with_name : List ℕ → Option Token → List (List ℕ) → List (List ℕ)
with_name bytes None typedefs = typedefs
with_name bytes (Some t) typedefs = text_of bytes t ∷ typedefs

-- the typedef names after a declarator of a declaration that does or doesn't declare types
abbrev pub names_after : Bool → List ℕ → Declarator → List (List ℕ) → List (List ℕ)
names_after true bytes d typedefs = with_name bytes (name_of d) typedefs
names_after false bytes d typedefs = typedefs

-- a statement that ends with an `if` without `else`, which a following `else` would belong to (6.8.4.1)
abbrev pub ends_open : Statement → Bool
ends_open (If keyword opening test closing s) = true
ends_open (IfElse keyword opening test closing s else_ t) = ends_open t
ends_open (Switch keyword opening e closing s) = ends_open s
ends_open (While keyword opening test closing s) = ends_open s
ends_open (For keyword opening start test semicolon step closing s) = ends_open s
ends_open (Case keyword e colon s) = ends_open s
ends_open (Default keyword colon s) = ends_open s
ends_open (Label name colon s) = ends_open s
ends_open _ = false

-- `break` or `continue` (6.8.6)
abbrev pub IsJump : Word → Type 0
IsJump word = (word ≡ Fixed (codes "break")) ⊎ (word ≡ Fixed (codes "continue"))

module _ (w : Token → Word) where
  -- specifiers with `typedef` among them
  abbrev pub is_typedef : Specifiers → Bool
  is_typedef NoSpecifiers = false
  is_typedef (trees.Word t rest) = if is_text (codes "typedef") (w t) then true else is_typedef rest
  is_typedef (TypedefName t rest) = is_typedef rest
  is_typedef (Tagged keyword t rest) = is_typedef rest
  is_typedef (Struct keyword tag opening m closing rest) = is_typedef rest
  is_typedef (Enum keyword tag opening m closing rest) = is_typedef rest

  -- designators (6.7.8)
  abbrev pub FitsDesignators : Designators → Type 0
  FitsDesignators (Equals equals) = Is w equals "="
  FitsDesignators (DotName t name rest) = Is w t "." × (is_identifier (w name) ≡ true) × FitsDesignators rest
  FitsDesignators (AtIndex opening e closing rest) =
      Is w opening "[" × (Fits w e × AtMost w level.conditional e) × Is w closing "]" × FitsDesignators rest

  abbrev pub FitsDesignation : Option Designators → Type 0
  FitsDesignation None = Unit {0}
  FitsDesignation (Some ds) = FitsDesignators ds × (has_designator ds ≡ true)

  -- initialisers (6.7.8)
  abbrev mutual
    pub FitsInit : Init → Type 0
    FitsInit (Value e) = Fits w e × AtMost w level.assignment e
    FitsInit (Braced opening all closing) = Is w opening "{" × FitsInits all × Is w closing "}"

    pub FitsInits : Inits → Type 0
    FitsInits (LastInit ds i comma) = FitsDesignation ds × FitsInit i × IsComma w comma
    FitsInits (NextInit ds i comma rest) = FitsDesignation ds × FitsInit i × Is w comma "," × FitsInits rest

  -- an expression, if there is one
  abbrev pub FitsMaybe : Option Expr → Type 0
  FitsMaybe None = Unit {0}
  FitsMaybe (Some e) = Fits w e

  -- keyword, `(`, expression, `)`
  abbrev pub FitsTest : String → Token → Token → Expr → Token → Type 0
  FitsTest text keyword opening e closing = Is w keyword text × Is w opening "(" × Fits w e × Is w closing ")"

  -- specifiers that go together at this place
  abbrev pub FitsSpecifiers : Place → Specifiers → Type 0
  FitsSpecifiers place s = FitsEach w false s × GoTogether w place s

module _ (bytes : List ℕ) where
  -- further declarators; the flag says that types are declared, which have no initialisers
  abbrev pub FitsMoreDeclared : List (List ℕ) → Bool → MoreDeclared → Type 0
  FitsMoreDeclared typedefs types NoMoreDeclared = Unit {0}
  FitsMoreDeclared typedefs types (AndPlainly comma d rest) =
      Is (word_of bytes typedefs) comma "," × FitsDeclarator (word_of bytes typedefs) NewName d
      × FitsMoreDeclared (names_after types bytes d typedefs) types rest
  FitsMoreDeclared typedefs types (AndInitialised comma d equals i rest) =
      Is (word_of bytes typedefs) comma "," × FitsDeclarator (word_of bytes typedefs) NewName d × (types ≡ false)
      × Is (word_of bytes typedefs) equals "=" × FitsInit (word_of bytes typedefs) i
      × FitsMoreDeclared typedefs types rest

  -- what is after the first declarator
  abbrev pub FitsDeclared : List (List ℕ) → Bool → Declared → Type 0
  FitsDeclared typedefs types (Plainly rest) = FitsMoreDeclared typedefs types rest
  FitsDeclared typedefs types (Initialised equals i rest) =
      (types ≡ false) × Is (word_of bytes typedefs) equals "=" × FitsInit (word_of bytes typedefs) i
      × FitsMoreDeclared typedefs types rest

  module _ (typedefs : List (List ℕ)) where
    -- the word of a token, where these are the typedef names
    abbrev pub word : Token → Word
    word = word_of bytes typedefs

    -- declarations (6.7)
    abbrev pub FitsDeclaration : Place → Declaration → Type 0
    FitsDeclaration place (Bare s semicolon) =
        FitsSpecifiers word place s × Is word semicolon ";"
    FitsDeclaration place (Declares s d rest semicolon) =
        FitsSpecifiers word place s × FitsDeclarator word NewName d
        × FitsDeclared (names_after (is_typedef word s) bytes d typedefs)
        (is_typedef word s) rest
        × Is word semicolon ";"

    abbrev pub FitsStart : ForStart → Type 0
    FitsStart (StartEmpty semicolon) = Is word semicolon ";"
    FitsStart (StartExpr e semicolon) = Fits word e × Is word semicolon ";"
    FitsStart (StartDeclaration d) = FitsDeclaration InBlock d

    -- statements (6.8)
    abbrev mutual
      pub FitsStatement : Statement → Type 0
      FitsStatement (Block opening items closing) =
          Is word opening "{" × FitsItems items × Is word closing "}"
      FitsStatement (Empty semicolon) = Is word semicolon ";"
      FitsStatement (ExpressionStatement e semicolon) =
          Fits word e × Is word semicolon ";"
      FitsStatement (If keyword opening test closing s) =
          FitsTest word "if" keyword opening test closing × FitsStatement s
      FitsStatement (IfElse keyword opening test closing s else_ t) =
          FitsTest word "if" keyword opening test closing × FitsStatement s × (ends_open s ≡ false)
          × Is word else_ "else" × FitsStatement t
      FitsStatement (Switch keyword opening e closing s) =
          FitsTest word "switch" keyword opening e closing × FitsStatement s
      FitsStatement (While keyword opening test closing s) =
          FitsTest word "while" keyword opening test closing × FitsStatement s
      FitsStatement (Do keyword s while_ opening test closing semicolon) =
          Is word keyword "do" × FitsStatement s
          × FitsTest word "while" while_ opening test closing
          × Is word semicolon ";"
      FitsStatement (For keyword opening start test semicolon step closing s) =
          Is word keyword "for" × Is word opening "(" × FitsStart start
          × FitsMaybe word test × Is word semicolon ";"
          × FitsMaybe word step × Is word closing ")" × FitsStatement s
      FitsStatement (Case keyword e colon s) =
          Is word keyword "case"
          × (Fits word e × AtMost word level.conditional e)
          × Is word colon ":" × FitsStatement s
      FitsStatement (Default keyword colon s) =
          Is word keyword "default" × Is word colon ":" × FitsStatement s
      FitsStatement (Label name colon s) =
          (is_identifier (word name) ≡ true) × Is word colon ":" × FitsStatement s
      FitsStatement (Goto keyword label semicolon) =
          Is word keyword "goto" × (is_identifier (word label) ≡ true)
          × Is word semicolon ";"
      FitsStatement (Jump keyword semicolon) =
          IsJump (word keyword) × Is word semicolon ";"
      FitsStatement (Return keyword semicolon) =
          Is word keyword "return" × Is word semicolon ";"
      FitsStatement (ReturnValue keyword e semicolon) =
          Is word keyword "return" × Fits word e
          × Is word semicolon ";"

      -- no typedef name is declared in a block, so its typedef names are those before it
      pub FitsItems : BlockItems → Type 0
      FitsItems NoBlockItems = Unit {0}
      FitsItems (DeclarationItem d rest) = FitsDeclaration InBlock d × FitsItems rest
      FitsItems (StatementItem s rest) = FitsStatement s × FitsItems rest

-- whether parameters end with `...`
abbrev pub more_ellipsis : MoreParams → Bool
more_ellipsis NoMore = false
more_ellipsis (Ellipsis comma dots) = true
more_ellipsis (More comma s d rest) = more_ellipsis rest

abbrev pub has_ellipsis : Params → Bool
has_ellipsis (Parameters s d rest) = more_ellipsis rest
has_ellipsis _ = false

-- What a declarator makes of its name first: nothing yet, a function without `...`, or something else (6.7.5, 6.9.1).
pub data Shape : Type 0 where
  JustName : Shape
  FunctionShape : Shape
  OtherShape : Shape

abbrev pub shape_by : List Token → Dims → Shape
shape_by [] NoDims = JustName
shape_by (t ∷ ts) NoDims = OtherShape
shape_by stars (Open opening closing rest) = OtherShape
shape_by stars (Sized opening e closing rest) = OtherShape
shape_by stars (Function opening p closing rest) = if has_ellipsis p then OtherShape else FunctionShape

abbrev pub shape_inside : Shape → Shape → Shape
shape_inside JustName outer = outer
shape_inside FunctionShape outer = FunctionShape
shape_inside OtherShape outer = OtherShape

abbrev pub shape : Declarator → Shape
shape (Abstract stars ds) = OtherShape
shape (Named stars t ds) = shape_by stars ds
shape (Nested stars opening d closing ds) = shape_inside (shape d) (shape_by stars ds)

-- external declarations (6.9): a body is after a function's declarator, and a declaration of types has none (6.9.1)
abbrev pub FitsExternal : List ℕ → List (List ℕ) → External → Type 0
FitsExternal bytes typedefs (FileDeclaration d) = FitsDeclaration bytes typedefs InFile d
FitsExternal bytes typedefs (FunctionDefinition s d opening items closing) =
    (FitsEach (word_of bytes typedefs) false s × GoTogether (word_of bytes typedefs) InFile s
    × (is_typedef (word_of bytes typedefs) s ≡ false))
    × (FitsDeclarator (word_of bytes typedefs) NewName d × (shape d ≡ FunctionShape))
    × Is (word_of bytes typedefs) opening "{" × FitsItems bytes typedefs items × Is (word_of bytes typedefs) closing "}"

-- the typedef names after a declaration at file scope
abbrev pub more_after : Bool → List ℕ → MoreDeclared → List (List ℕ) → List (List ℕ)
more_after types bytes NoMoreDeclared typedefs = typedefs
more_after types bytes (AndPlainly comma d rest) typedefs =
    more_after types bytes rest (names_after types bytes d typedefs)
more_after types bytes (AndInitialised comma d equals i rest) typedefs =
    more_after types bytes rest (names_after types bytes d typedefs)

abbrev pub declared_after : Bool → List ℕ → Declared → List (List ℕ) → List (List ℕ)
declared_after types bytes (Plainly rest) typedefs = more_after types bytes rest typedefs
declared_after types bytes (Initialised equals i rest) typedefs = more_after types bytes rest typedefs

abbrev pub external_after : List ℕ → External → List (List ℕ) → List (List ℕ)
external_after bytes (FileDeclaration (Declares s d rest semicolon)) typedefs =
    declared_after (is_typedef (word_of bytes typedefs) s) bytes rest
    (names_after (is_typedef (word_of bytes typedefs) s) bytes d typedefs)
external_after bytes _ typedefs = typedefs

-- a file (6.9): its external declarations one after another
abbrev pub FitsFile : List ℕ → List (List ℕ) → List External → Type 0
FitsFile bytes typedefs [] = Unit {0}
FitsFile bytes typedefs (x ∷ xs) =
    FitsExternal bytes typedefs x × FitsFile bytes (external_after bytes x typedefs) xs
