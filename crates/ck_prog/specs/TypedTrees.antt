-- Typed trees of expressions (C99 6.5): the shape of the tree that is written, with operators as values, for each name
-- its meaning and for each value its sense. What stands above names and types speaks of these alone.
use Rattle.std.specs.Prelude.{Bool, List, [], ◌∷◌, Option}
use Rattle.ck_base.specs.declared.tokens.Token.{Token}
use Rattle.ck_prog.specs.Declarations.{Layout, MemberOf, Entry}
use Rattle.ck_prog.specs.Senses.{Constancy, Sense}
use Rattle.ck_prog.specs.TypeClasses.{Qualified}
use Rattle.ck_prog.specs.declared.names.Defining.{Defining}
use Rattle.ck_prog.specs.declared.operators.Operator.{Operator}
use Rattle.ck_prog.specs.declared.operators.Prefix.{Prefix}
use Rattle.ck_prog.specs.declared.operators.Assigning.{Assigning}
use Rattle.ck_prog.specs.declared.operators.Role.{Role}

-- what is known of a value
pub record Facts : Type 0 where
  pub sense : Sense
  pub role : Role
  -- where its expression begins: that is its spot in a refusal and its site
  pub first : Token
  -- a call is evaluated with it: none is in the operand of `sizeof` (6.5.3.4), nor in a type, whose sizes are constants
  pub holds_call : Bool

-- whose name a declarator declares, if any
pub data Owner : Type 0 where
  OfTypeName : Owner
  OfMember : Owner
  OfParameter : Defining → Owner
  OfDeclaration : Owner

-- what is known of a declarator
pub record DeclaratorFacts : Type 0 where
  pub owner : Owner
  -- its name, else the first token of its specifiers
  pub spot : Token
  -- its first token, else the first token of its specifiers
  pub first : Token
  -- the type that it makes of its base type; none where that, a size or a parameter's type is missing
  pub type : Option Qualified
  -- an array of elements, or a function with a result, of a type that can't be so
  pub impossible : Bool
  -- its type is complete after it (6.2.5)
  pub complete : Bool

mutual
  pub data Typed : Type 0 where
    -- 6.5.1
    Name : Facts → Option Entry → Typed
    Constant : Facts → Typed
    Strings : Facts → List Token → Typed
    Paren : Facts → Typed → Typed
    -- 6.5.2: an expression and its suffixes
    Postfix : Typed → Steps → Typed
    -- 6.5.3
    Unary : Facts → Prefix → Typed → Typed
    SizeofType : Facts → TypeParts → Typed
    -- 6.5.4
    Cast : Facts → TypeParts → Typed → Typed
    -- 6.5.5 to 6.5.14, 6.5.17: a first operand, and operators with their right operands
    Chain : Typed → Links → Typed
    -- 6.5.15
    Conditional : Facts → Typed → Typed → Typed → Typed
    -- 6.5.16
    Assignment : Facts → Assigning → Typed → Typed → Typed

  -- an operator, its right operand, and the value of the chain up to there
  pub data Links : Type 0 where
    NoLinks : Links
    Link : Operator → Typed → Facts → Links → Links

  pub data Arguments : Type 0 where
    NoArguments : Arguments
    Argument : Typed → Arguments → Arguments

  -- a suffix, with its token, and the value of the row up to there
  pub data Steps : Type 0 where
    NoSteps : Steps
    -- 6.5.2.1: the `[`
    Index : Token → Typed → Facts → Steps → Steps
    -- 6.5.2.2: the `(`, and the function that is called by its name, if one is
    Call : Token → Option Entry → Arguments → Facts → Steps → Steps
    -- 6.5.2.3: `.` or `->`, by whether it is `.`; the member's name, and the member
    Access : Bool → Token → Option MemberOf → Facts → Steps → Steps
    -- 6.5.2.4: `++` or `--`
    PostIncrement : Token → Prefix → Facts → Steps → Steps

  -- what is written in specifiers and declarators, in written order
  pub data TypeParts : Type 0 where
    NoParts : TypeParts
    -- 6.7.2.3: `struct` or `enum`, a tag without a body, and what the tag means
    Mention : Token → Token → Option Entry → TypeParts → TypeParts
    -- 6.7.2.1: the `struct` of a body, and the size of all its members
    StructBody : Token → Option Layout → TypeParts → TypeParts
    -- 6.7.2.2: an enumeration constant's value, with the token where it is written or else the constant's name
    EnumeratorValue : Token → Constancy → TypeParts → TypeParts
    -- the expression of an enumeration constant's value
    Expression : Typed → TypeParts → TypeParts
    -- 6.7.5.2: a size, and whether the array with that size is too large
    ArraySize : Typed → Bool → TypeParts → TypeParts
    -- 6.7.5
    WholeDeclarator : DeclaratorFacts → TypeParts → TypeParts

-- the value of the whole expression
abbrev mutual
  pub facts : Typed → Facts
  facts (Name f e) = f
  facts (Constant f) = f
  facts (Strings f ts) = f
  facts (Paren f e) = f
  facts (Postfix e steps) = last_step (facts e) steps
  facts (Unary f op e) = f
  facts (SizeofType f parts) = f
  facts (Cast f parts e) = f
  facts (Chain e links) = last_link (facts e) links
  facts (Conditional f test a b) = f
  facts (Assignment f op a b) = f

  pub last_link : Facts → Links → Facts
  last_link f NoLinks = f
  last_link f (Link op e g rest) = last_link g rest

  pub last_step : Facts → Steps → Facts
  last_step f NoSteps = f
  last_step f (Index opening e g rest) = last_step g rest
  last_step f (Call opening function es g rest) = last_step g rest
  last_step f (Access is_dot name m g rest) = last_step g rest
  last_step f (PostIncrement t op g rest) = last_step g rest

abbrev pub argument_facts : Arguments → List Facts
argument_facts NoArguments = []
argument_facts (Argument e es) = facts e ∷ argument_facts es
