-- The plain tree that a tree of the program stands for, by the program's types, constructor by constructor. Memory is
-- left out: `p`, `q` and `r` are a box's or a vector's own parts.
use Rattle.std.specs.Prelude.{List, Option, None, Some}
use Rattle.ck_base.specs.declared.tokens.Token.{Token}
use Rattle.ck_grammar.specs.Trees as plain
use Rattle.ck_syntax.specs.declared.declarators.Declarator.{Declarator, Abstract', Named', Nested'}
use Rattle.ck_syntax.specs.declared.declarators.Declarator.{Row_of-Dim, end_of-Dim, more_of-Dim}
use Rattle.ck_syntax.specs.declared.declarators.Dim.{Dim, Open, Sized', Function'}
use Rattle.ck_syntax.specs.declared.declarators.Ellipsis.{Ellipsis}
use Rattle.ck_syntax.specs.declared.declarators.NextDeclarator.{NextDeclarator}
use Rattle.ck_syntax.specs.declared.declarators.NextParameter.{NextParameter}
use Rattle.ck_syntax.specs.declared.declarators.Parameters.{Parameters, Empty, Void, Listed'}
use Rattle.ck_syntax.specs.declared.declarators.Parameters.{Row_of-NextParameter, end_of-NextParameter}
use Rattle.ck_syntax.specs.declared.declarators.Parameters.{more_of-NextParameter}
use Rattle.ck_syntax.specs.declared.declarators.Parameters.{Row_of-Specifier, end_of-Specifier, more_of-Specifier}
use Rattle.ck_syntax.specs.declared.expressions.Expr.{Expr, Name, Constant, Strings, Paren', Postfix', Unary'}
use Rattle.ck_syntax.specs.declared.expressions.Expr.{SizeofType'}
use Rattle.ck_syntax.specs.declared.expressions.Expr.{Cast', Chain', Conditional', Assignment'}
use Rattle.ck_syntax.specs.declared.expressions.Expr.{Row_of-Operand, end_of-Operand, more_of-Operand}
use Rattle.ck_syntax.specs.declared.expressions.Expr.{Row_of-Suffix, end_of-Suffix, more_of-Suffix}
use Rattle.ck_syntax.specs.declared.expressions.Operand.{Operand}
use Rattle.ck_syntax.specs.declared.expressions.Suffix.{Suffix, Index', CallEmpty, Call', MemberAccess, PostIncrement}
use Rattle.ck_syntax.specs.declared.specifiers.EnumSpecifier.{EnumSpecifier, EnumSpecifier'}
use Rattle.ck_syntax.specs.declared.specifiers.EnumSpecifier.{Row_of-EarlierEnumerator, end_of-EarlierEnumerator}
use Rattle.ck_syntax.specs.declared.specifiers.EnumSpecifier.{more_of-EarlierEnumerator}
use Rattle.ck_syntax.specs.declared.specifiers.Enumerator.{Enumerator, Plain, Valued'}
use Rattle.ck_syntax.specs.declared.specifiers.EarlierEnumerator.{EarlierEnumerator}
use Rattle.ck_syntax.specs.declared.specifiers.Member.{Member, Member'}
use Rattle.ck_syntax.specs.declared.specifiers.Member.{Row_of-NextDeclarator, end_of-NextDeclarator}
use Rattle.ck_syntax.specs.declared.specifiers.Member.{more_of-NextDeclarator}
use Rattle.ck_syntax.specs.declared.specifiers.Specifier.{Specifier, Word, TypedefName, Tagged, Struct', Enum'}
use Rattle.ck_syntax.specs.declared.specifiers.StructSpecifier.{StructSpecifier, StructSpecifier', Row_of-Member}
use Rattle.ck_syntax.specs.declared.specifiers.StructSpecifier.{end_of-Member, more_of-Member}
use Rattle.ck_syntax.specs.Rows.{row_before}

-- what may end parameters
abbrev pub ellipsis_tree : Option Ellipsis → plain.MoreParams
ellipsis_tree None = plain.NoMore
ellipsis_tree (Some e) = plain.Ellipsis e.comma e.dots

unfoldable mutual
  pub expr_tree : {A : Type 0} → Expr A → plain.Expr
  expr_tree (Name token) = plain.Name token
  expr_tree (Constant token) = plain.Constant token
  expr_tree (Strings first others) = plain.Strings first others.items
  expr_tree (Paren' opening p inner closing) = plain.Paren opening (expr_tree inner) closing
  expr_tree (Postfix' p primary q suffixes) = plain.Postfix (expr_tree primary) (suffix_row suffixes)
  expr_tree (Unary' operator p operand) = plain.Unary operator (expr_tree operand)
  expr_tree (SizeofType' keyword p opening q specifiers declarator closing) =
      plain.SizeofType keyword opening (specifier_row specifiers) (declarator_tree declarator) closing
  expr_tree (Cast' p opening q specifiers declarator closing r operand) =
      plain.Cast opening (specifier_row specifiers) (declarator_tree declarator) closing (expr_tree operand)
  expr_tree (Chain' p first q operands) = plain.Chain (expr_tree first) (operand_row operands)
  expr_tree (Conditional' p test question q then colon r otherwise) =
      plain.Conditional (expr_tree test) question (expr_tree then) colon (expr_tree otherwise)
  expr_tree (Assignment' p target operator q value) = plain.Assignment (expr_tree target) operator (expr_tree value)

  pub operand_row : {A : Type 0} → {n : _} → Row_of-Operand A n → plain.Operands
  operand_row end_of-Operand = plain.NoOperands
  operand_row (more_of-Operand operator operand others) =
      plain.Operand operator (expr_tree operand) (operand_row others)

  -- a suffix before others
  pub suffix_before : {A : Type 0} → Suffix A → plain.Suffixes → plain.Suffixes
  suffix_before (Index' opening p index closing) others = plain.Index opening (expr_tree index) closing others
  suffix_before (CallEmpty opening closing) others = plain.CallEmpty opening closing others
  suffix_before (Call' opening p first q arguments closing) others =
      plain.Call opening (expr_tree first) (operand_row arguments) closing others
  suffix_before (MemberAccess operator member) others = plain.MemberAccess operator member others
  suffix_before (PostIncrement operator) others = plain.PostIncrement operator others

  pub suffix_row : {A : Type 0} → {n : _} → Row_of-Suffix A n → plain.Suffixes
  suffix_row end_of-Suffix = plain.NoSuffixes
  suffix_row (more_of-Suffix suffix others) = suffix_before suffix (suffix_row others)

  -- a specifier before others
  pub specifier_before : {A : Type 0} → Specifier A → plain.Specifiers → plain.Specifiers
  specifier_before (Word token) others = plain.Word token others
  specifier_before (TypedefName token) others = plain.TypedefName token others
  specifier_before (Tagged keyword tag) others = plain.Tagged keyword tag others
  specifier_before (Struct' p specifier) others = struct_before specifier others
  specifier_before (Enum' p specifier) others = enum_before specifier others

  -- a struct with its members before other specifiers
  pub struct_before : {A : Type 0} → StructSpecifier A → plain.Specifiers → plain.Specifiers
  struct_before (StructSpecifier' keyword tag opening q members closing) others =
      plain.Struct keyword tag opening (member_row members) closing others

  -- an enum with its enumerators before other specifiers
  pub enum_before : {A : Type 0} → EnumSpecifier A → plain.Specifiers → plain.Specifiers
  enum_before (EnumSpecifier' keyword tag opening q earlier last comma closing) others =
      plain.Enum keyword tag opening (enumerator_row earlier (last_enumerator last comma)) closing others

  pub specifier_row : {A : Type 0} → {n : _} → Row_of-Specifier A n → plain.Specifiers
  specifier_row end_of-Specifier = plain.NoSpecifiers
  specifier_row (more_of-Specifier specifier others) = specifier_before specifier (specifier_row others)

  -- a member declaration before others
  pub member_before : {A : Type 0} → Member A → plain.Members → plain.Members
  member_before (Member' q specifiers first r declarators semicolon) others =
      plain.Member (specifier_row specifiers) (declarator_tree first) (declarator_row declarators) semicolon others

  pub member_row : {A : Type 0} → {n : _} → Row_of-Member A n → plain.Members
  member_row end_of-Member = plain.NoMembers
  member_row (more_of-Member member others) = member_before member (member_row others)

  pub declarator_row : {A : Type 0} → {n : _} → Row_of-NextDeclarator A n → plain.Declarators
  declarator_row end_of-NextDeclarator = plain.NoDeclarators
  declarator_row (more_of-NextDeclarator comma declarator others) =
      plain.Also comma (declarator_tree declarator) (declarator_row others)

  pub declarator_tree : {A : Type 0} → Declarator A → plain.Declarator
  declarator_tree (Abstract' stars q dims) = plain.Abstract stars.items (dim_row dims)
  declarator_tree (Named' stars name q dims) = plain.Named stars.items name (dim_row dims)
  declarator_tree (Nested' stars opening p inner closing q dims) =
      plain.Nested stars.items opening (declarator_tree inner) closing (dim_row dims)

  -- a suffix of a declarator before others
  pub dim_before : {A : Type 0} → Dim A → plain.Dims → plain.Dims
  dim_before (Open opening closing) others = plain.Open opening closing others
  dim_before (Sized' opening p size closing) others = plain.Sized opening (expr_tree size) closing others
  dim_before (Function' opening p parameters closing) others =
      plain.Function opening (parameters_tree parameters) closing others

  pub dim_row : {A : Type 0} → {n : _} → Row_of-Dim A n → plain.Dims
  dim_row end_of-Dim = plain.NoDims
  dim_row (more_of-Dim dim others) = dim_before dim (dim_row others)

  pub parameters_tree : {A : Type 0} → Parameters A → plain.Params
  parameters_tree Empty = plain.NoParams
  parameters_tree (Void token) = plain.VoidParams token
  parameters_tree (Listed' q specifiers declarator r others ellipsis) =
      plain.Parameters (specifier_row specifiers) (declarator_tree declarator)
      (parameter_row others (ellipsis_tree ellipsis))

  pub parameter_row : {A : Type 0} → {n : _} → Row_of-NextParameter A n → plain.MoreParams → plain.MoreParams
  parameter_row end_of-NextParameter end = end
  parameter_row (more_of-NextParameter comma q specifiers declarator others) end =
      plain.More comma (specifier_row specifiers) (declarator_tree declarator) (parameter_row others end)

  -- the last enumerator, maybe with a comma
  pub last_enumerator : {A : Type 0} → Enumerator A → Option Token → plain.Enumerators
  last_enumerator (Plain name) comma = plain.LastOne name comma
  last_enumerator (Valued' name equals p value) comma = plain.LastValued name equals (expr_tree value) comma

  -- an enumerator and a comma before others
  pub enumerator_before : {A : Type 0} → Enumerator A → Token → plain.Enumerators → plain.Enumerators
  enumerator_before (Plain name) comma others = plain.One name comma others
  enumerator_before (Valued' name equals p value) comma others = plain.Valued name equals (expr_tree value) comma others

  pub enumerator_row : {A : Type 0} → {n : _} → Row_of-EarlierEnumerator A n → plain.Enumerators → plain.Enumerators
  enumerator_row end_of-EarlierEnumerator last = last
  enumerator_row (more_of-EarlierEnumerator enumerator comma others) last =
      enumerator_before enumerator comma (enumerator_row others last)

-- an operator and an operand before others
abbrev pub operand_before : {A : Type 0} → Operand A → plain.Operands → plain.Operands
operand_before o others = plain.Operand o.operator (expr_tree o.operand) others

-- a comma and a declarator before others
abbrev pub declarator_before : {A : Type 0} → NextDeclarator A → plain.Declarators → plain.Declarators
declarator_before d others = plain.Also d.comma (declarator_tree d.declarator) others

abbrev pub operand_trees : {A : Type 0} → List (Operand A) → plain.Operands
operand_trees os = row_before operand_before os plain.NoOperands

abbrev pub suffix_trees : {A : Type 0} → List (Suffix A) → plain.Suffixes
suffix_trees ss = row_before suffix_before ss plain.NoSuffixes

abbrev pub specifier_trees : {A : Type 0} → List (Specifier A) → plain.Specifiers
specifier_trees ss = row_before specifier_before ss plain.NoSpecifiers

abbrev pub member_trees : {A : Type 0} → List (Member A) → plain.Members
member_trees ms = row_before member_before ms plain.NoMembers

abbrev pub declarator_trees : {A : Type 0} → List (NextDeclarator A) → plain.Declarators
declarator_trees ds = row_before declarator_before ds plain.NoDeclarators

abbrev pub dim_trees : {A : Type 0} → List (Dim A) → plain.Dims
dim_trees ds = row_before dim_before ds plain.NoDims

-- a comma and a parameter before others
abbrev pub parameter_before : {A : Type 0} → NextParameter A → plain.MoreParams → plain.MoreParams
parameter_before p others =
    plain.More p.comma (specifier_trees p.specifiers.items) (declarator_tree p.declarator) others

-- further parameters, and what may end them
abbrev pub parameter_trees : {A : Type 0} → List (NextParameter A) → Option Ellipsis → plain.MoreParams
parameter_trees ps end = row_before parameter_before ps (ellipsis_tree end)

-- an enumerator and the comma behind it before others
abbrev pub earlier_enumerator_before : {A : Type 0} → EarlierEnumerator A → plain.Enumerators → plain.Enumerators
earlier_enumerator_before e others = enumerator_before e.enumerator e.comma others

-- enumerators: those with others behind them, the last one, and maybe a comma
abbrev pub enumerator_trees : {A : Type 0}
    → List (EarlierEnumerator A) → Enumerator A → Option Token → plain.Enumerators
enumerator_trees earlier last comma = row_before earlier_enumerator_before earlier (last_enumerator last comma)
