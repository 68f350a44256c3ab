-- How deep a tree nests: its depth counted in expressions, declarators and the bodies of structs and enums. A leaf
-- counts one; a declarator of which nothing is written counts none.
use Rattle.std.specs.Prelude.{ℕ, suc, max, List, [], ◌∷◌}
use Rattle.ck_base.specs.declared.tokens.Token.{Token}
use Rattle.ck_grammar.specs.Trees.{Expr, Operands, Suffixes, Specifiers, Members, Declarators, Declarator, Dims, Params}
use Rattle.ck_grammar.specs.Trees.{MoreParams, Enumerators, Name, Constant, Strings, Paren, Postfix, Unary, SizeofType}
use Rattle.ck_grammar.specs.Trees.{Cast, Chain, Conditional, Assignment, NoOperands, Operand, NoSuffixes, Index}
use Rattle.ck_grammar.specs.Trees.{CallEmpty, Call, MemberAccess, PostIncrement, NoSpecifiers, Word, TypedefName}
use Rattle.ck_grammar.specs.Trees.{Tagged, Struct, Enum, NoMembers, Member, NoDeclarators, Also, Abstract, Named}
use Rattle.ck_grammar.specs.Trees.{Nested, NoDims, Open, Sized, Function, NoParams, VoidParams, Parameters, NoMore}
use Rattle.ck_grammar.specs.Trees.{Ellipsis, More, LastOne, LastValued, One, Valued}

-- of an abstract declarator with these stars and dimensions that nest so deep: nothing written, nothing counted
abbrev pub abstract_nesting : List Token → Dims → ℕ → ℕ
abstract_nesting [] NoDims n = 0
abstract_nesting [] (Open o c rest) n = suc n
abstract_nesting [] (Sized o e c rest) n = suc n
abstract_nesting [] (Function o p c rest) n = suc n
abstract_nesting (t ∷ ts) ds n = suc n

abbrev mutual
  pub nesting : Expr → ℕ
  nesting (Name t) = 1
  nesting (Constant t) = 1
  nesting (Strings t ts) = 1
  nesting (Paren o e c) = suc (nesting e)
  nesting (Postfix e s) = suc (max (nesting e) (suffixes_nesting s))
  nesting (Unary op e) = suc (nesting e)
  nesting (SizeofType k o s d c) = suc (max (specifiers_nesting s) (declarator_nesting d))
  nesting (Cast o s d c e) = suc (max (max (specifiers_nesting s) (declarator_nesting d)) (nesting e))
  nesting (Chain e ops) = suc (max (nesting e) (operands_nesting ops))
  nesting (Conditional e q a c b) = suc (max (nesting e) (max (nesting a) (nesting b)))
  nesting (Assignment e op b) = suc (max (nesting e) (nesting b))

  pub operands_nesting : Operands → ℕ
  operands_nesting NoOperands = 0
  operands_nesting (Operand op e rest) = max (nesting e) (operands_nesting rest)

  pub suffixes_nesting : Suffixes → ℕ
  suffixes_nesting NoSuffixes = 0
  suffixes_nesting (Index o e c rest) = max (nesting e) (suffixes_nesting rest)
  suffixes_nesting (CallEmpty o c rest) = suffixes_nesting rest
  suffixes_nesting (Call o e ops c rest) = max (max (nesting e) (operands_nesting ops)) (suffixes_nesting rest)
  suffixes_nesting (MemberAccess t n rest) = suffixes_nesting rest
  suffixes_nesting (PostIncrement t rest) = suffixes_nesting rest

  pub specifiers_nesting : Specifiers → ℕ
  specifiers_nesting NoSpecifiers = 0
  specifiers_nesting (Word t rest) = specifiers_nesting rest
  specifiers_nesting (TypedefName t rest) = specifiers_nesting rest
  specifiers_nesting (Tagged k t rest) = specifiers_nesting rest
  specifiers_nesting (Struct k tag o m c rest) = max (suc (members_nesting m)) (specifiers_nesting rest)
  specifiers_nesting (Enum k tag o m c rest) = max (suc (enumerators_nesting m)) (specifiers_nesting rest)

  pub members_nesting : Members → ℕ
  members_nesting NoMembers = 0
  members_nesting (Member s d ds semicolon rest) = max (max (specifiers_nesting s) (declarator_nesting d))
      (max (declarators_nesting ds) (members_nesting rest))

  pub declarators_nesting : Declarators → ℕ
  declarators_nesting NoDeclarators = 0
  declarators_nesting (Also comma d rest) = max (declarator_nesting d) (declarators_nesting rest)

  pub declarator_nesting : Declarator → ℕ
  declarator_nesting (Abstract stars ds) = abstract_nesting stars ds (dims_nesting ds)
  declarator_nesting (Named stars t ds) = suc (dims_nesting ds)
  declarator_nesting (Nested stars o d c ds) = suc (max (declarator_nesting d) (dims_nesting ds))

  pub dims_nesting : Dims → ℕ
  dims_nesting NoDims = 0
  dims_nesting (Open o c rest) = dims_nesting rest
  dims_nesting (Sized o e c rest) = max (nesting e) (dims_nesting rest)
  dims_nesting (Function o p c rest) = max (params_nesting p) (dims_nesting rest)

  pub params_nesting : Params → ℕ
  params_nesting NoParams = 0
  params_nesting (VoidParams t) = 0
  params_nesting (Parameters s d rest) = max (max (specifiers_nesting s) (declarator_nesting d))
      (more_params_nesting rest)

  pub more_params_nesting : MoreParams → ℕ
  more_params_nesting NoMore = 0
  more_params_nesting (Ellipsis comma dots) = 0
  more_params_nesting (More comma s d rest) = max (max (specifiers_nesting s) (declarator_nesting d))
      (more_params_nesting rest)

  pub enumerators_nesting : Enumerators → ℕ
  enumerators_nesting (LastOne t comma) = 0
  enumerators_nesting (LastValued t eq e comma) = nesting e
  enumerators_nesting (One t comma rest) = enumerators_nesting rest
  enumerators_nesting (Valued t eq e comma rest) = max (nesting e) (enumerators_nesting rest)
