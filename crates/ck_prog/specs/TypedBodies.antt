-- Typed trees of initialisers, declarations, statements and files (C99 6.7, 6.7.8, 6.8, 6.9), on those of expressions.
use Rattle.std.specs.Prelude.{ℕ, ℤ, Bool, List, Option}
use Rattle.ck_base.specs.declared.tokens.Token.{Token}
use Rattle.ck_types.specs.Types.{CType}
use Rattle.ck_prog.specs.CurrentObjects.{Object}
use Rattle.ck_prog.specs.Declarations.{Entry}
use Rattle.ck_prog.specs.TypedTrees.{Typed, TypeParts}

-- initialisers (6.7.8) -----------------------------------------------------------------------------------------------

-- what is known of an initialiser
pub record InitialiserFacts : Type 0 where
  -- the object or part that it is for; none where there is no such part
  pub object : Option Object
  -- where it begins
  pub first : Token
  -- the whole object has static storage duration, so its initialisers are constants or addresses
  pub static : Bool

-- `.` and a member, or `[` and an index: the first token, and whether there is such a part
pub data TypedDesignators : Type 0 where
  NoDesignators : TypedDesignators
  ToMember : Token → Bool → TypedDesignators → TypedDesignators
  -- of what is an array or isn't
  ToElement : Token → Bool → Typed → Bool → TypedDesignators → TypedDesignators

mutual
  pub data TypedInitialiser : Type 0 where
    Value : InitialiserFacts → Typed → TypedInitialiser
    Braces : InitialiserFacts → TypedInitialisers → TypedInitialiser

  pub data TypedInitialisers : Type 0 where
    NoInitialisers : TypedInitialisers
    Initialiser : TypedDesignators → TypedInitialiser → TypedInitialisers → TypedInitialisers

abbrev pub initialiser_facts : TypedInitialiser → InitialiserFacts
initialiser_facts (Value f e) = f
initialiser_facts (Braces f is) = f

-- declarations (6.7) -------------------------------------------------------------------------------------------------

-- what is known of a name that a declaration or a definition declares, at the end of its declarator and initialiser
pub record DeclaredFacts : Type 0 where
  -- as the list of declarations has it
  pub entry : Entry
  -- its type is complete (6.2.5), as the result of a function is
  pub complete : Bool
  -- its initialiser makes it too large
  pub large : Bool
  -- it is declared as a variable that may keep the kernel's status
  pub status : Bool

pub data TypedDeclarators : Type 0 where
  NoDeclared : TypedDeclarators
  -- what is written in the declarator, the name, and its initialiser, if any
  Declared : TypeParts → DeclaredFacts → Option TypedInitialiser → TypedDeclarators → TypedDeclarators

-- what is written in the specifiers, and the declarators
pub data TypedDeclaration : Type 0 where
  Declaration : Token → TypeParts → TypedDeclarators → TypedDeclaration

-- statements (6.8) ---------------------------------------------------------------------------------------------------

pub data TypedStart : Type 0 where
  StartEmpty : TypedStart
  StartExpression : Typed → TypedStart
  StartDeclaration : TypedDeclaration → TypedStart

-- where a jump leads (6.8.6)
pub data Jumping : Type 0 where
  Breaks : Jumping
  Continues : Jumping

mutual
  -- each with its first token: that is its spot in a refusal and its site
  pub data TypedStatement : Type 0 where
    -- 6.8.2
    Block : Token → TypedItems → TypedStatement
    -- 6.8.3
    Empty : Token → TypedStatement
    ExpressionStatement : Typed → TypedStatement
    -- 6.8.4
    If : Token → Typed → TypedStatement → TypedStatement
    IfElse : Token → Typed → TypedStatement → TypedStatement → TypedStatement
    Switch : Token → Typed → TypedStatement → TypedStatement
    -- 6.8.5
    While : Token → Typed → TypedStatement → TypedStatement
    Do : Token → TypedStatement → Typed → TypedStatement
    For : Token → TypedStart → Option Typed → Option Typed → TypedStatement → TypedStatement
    -- 6.8.1: whether it is in a `switch`; the value of the label in the type of the `switch`
    Case : Token → Bool → Typed → Option ℤ → TypedStatement → TypedStatement
    Default : Token → Bool → TypedStatement → TypedStatement
    Label : Token → List ℕ → TypedStatement → TypedStatement
    -- 6.8.6: the label's name; whether it is in what it leaves or goes on with
    Goto : Token → List ℕ → TypedStatement
    Jump : Token → Jumping → Bool → TypedStatement
    -- the result that the function declares
    Return : Token → TypedStatement
    ReturnValue : Token → Option CType → Typed → TypedStatement

  pub data TypedItems : Type 0 where
    NoItems : TypedItems
    DeclarationItem : TypedDeclaration → TypedItems → TypedItems
    StatementItem : TypedStatement → TypedItems → TypedItems

-- files (6.9) --------------------------------------------------------------------------------------------------------

-- a definition (6.9.1): what is written in its specifiers and its declarator, and in its parameters again; its items
pub record TypedFunction : Type 0 where
  pub declared : DeclaredFacts
  -- the scope of its parameters and of its outermost block
  pub scope : List ℕ
  pub written : TypeParts
  pub parameters : TypeParts
  pub items : TypedItems

pub data TypedExternal : Type 0 where
  FileDeclaration : TypedDeclaration → TypedExternal
  FunctionDefinition : TypedFunction → TypedExternal

pub record TypedFile : Type 0 where
  pub bytes : List ℕ
  pub externals : List TypedExternal
