-- The tokens that a tree is written with, in order, and more tokens after them (C99 6.5, 6.7).
use Rattle.std.specs.Prelude.{List, ◌∷◌, ◌++◌, Option, Some, None}
use Rattle.ck_base.specs.declared.tokens.Token.{Token}
use Rattle.ck_grammar.specs.Trees.{Expr, Operands, Suffixes, Specifiers, Members, Declarators, Declarator, Dims, Params}
use Rattle.ck_grammar.specs.Trees.{MoreParams, Enumerators, Name, Constant, Strings, Paren, Postfix, Unary, SizeofType}
use Rattle.ck_grammar.specs.Trees.{Cast, Chain, Conditional, Assignment, NoOperands, Operand, NoSuffixes, Index}
use Rattle.ck_grammar.specs.Trees.{CallEmpty, Call, MemberAccess, PostIncrement, NoSpecifiers, Word, TypedefName}
use Rattle.ck_grammar.specs.Trees.{Tagged, Struct, Enum, NoMembers, Member, NoDeclarators, Also, Abstract, Named}
use Rattle.ck_grammar.specs.Trees.{Nested, NoDims, Open, Sized, Function, NoParams, VoidParams, Parameters, NoMore}
use Rattle.ck_grammar.specs.Trees.{Ellipsis, More, LastOne, LastValued, One, Valued}

abbrev pub optional : Option Token → List Token → List Token
optional None more = more
optional (Some t) more = t ∷ more

abbrev mutual
  pub written : Expr → List Token → List Token
  written (Name t) more = t ∷ more
  written (Constant t) more = t ∷ more
  written (Strings t ts) more = t ∷ (ts ++ more)
  written (Paren o e c) more = o ∷ written e (c ∷ more)
  written (Postfix e s) more = written e (suffixes s more)
  written (Unary op e) more = op ∷ written e more
  written (SizeofType k o s d c) more = k ∷ o ∷ specifiers s (declarator d (c ∷ more))
  written (Cast o s d c e) more = o ∷ specifiers s (declarator d (c ∷ written e more))
  written (Chain e ops) more = written e (operands ops more)
  written (Conditional e q a c b) more = written e (q ∷ written a (c ∷ written b more))
  written (Assignment e op b) more = written e (op ∷ written b more)

  pub operands : Operands → List Token → List Token
  operands NoOperands more = more
  operands (Operand op e rest) more = op ∷ written e (operands rest more)

  pub suffixes : Suffixes → List Token → List Token
  suffixes NoSuffixes more = more
  suffixes (Index o e c rest) more = o ∷ written e (c ∷ suffixes rest more)
  suffixes (CallEmpty o c rest) more = o ∷ c ∷ suffixes rest more
  suffixes (Call o e ops c rest) more = o ∷ written e (operands ops (c ∷ suffixes rest more))
  suffixes (MemberAccess t n rest) more = t ∷ n ∷ suffixes rest more
  suffixes (PostIncrement t rest) more = t ∷ suffixes rest more

  pub specifiers : Specifiers → List Token → List Token
  specifiers NoSpecifiers more = more
  specifiers (Word t rest) more = t ∷ specifiers rest more
  specifiers (TypedefName t rest) more = t ∷ specifiers rest more
  specifiers (Tagged k t rest) more = k ∷ t ∷ specifiers rest more
  specifiers (Struct k tag o m c rest) more = k ∷ optional tag (o ∷ members m (c ∷ specifiers rest more))
  specifiers (Enum k tag o m c rest) more = k ∷ optional tag (o ∷ enumerators m (c ∷ specifiers rest more))

  pub members : Members → List Token → List Token
  members NoMembers more = more
  members (Member s d ds semicolon rest) more =
      specifiers s (declarator d (declarators ds (semicolon ∷ members rest more)))

  pub declarators : Declarators → List Token → List Token
  declarators NoDeclarators more = more
  declarators (Also comma d rest) more = comma ∷ declarator d (declarators rest more)

  pub declarator : Declarator → List Token → List Token
  declarator (Abstract stars ds) more = stars ++ dims ds more
  declarator (Named stars t ds) more = stars ++ (t ∷ dims ds more)
  declarator (Nested stars o d c ds) more = stars ++ (o ∷ declarator d (c ∷ dims ds more))

  pub dims : Dims → List Token → List Token
  dims NoDims more = more
  dims (Open o c rest) more = o ∷ c ∷ dims rest more
  dims (Sized o e c rest) more = o ∷ written e (c ∷ dims rest more)
  dims (Function o p c rest) more = o ∷ params p (c ∷ dims rest more)

  pub params : Params → List Token → List Token
  params NoParams more = more
  params (VoidParams t) more = t ∷ more
  params (Parameters s d rest) more = specifiers s (declarator d (more_params rest more))

  pub more_params : MoreParams → List Token → List Token
  more_params NoMore more = more
  more_params (Ellipsis comma dots) more = comma ∷ dots ∷ more
  more_params (More comma s d rest) more = comma ∷ specifiers s (declarator d (more_params rest more))

  pub enumerators : Enumerators → List Token → List Token
  enumerators (LastOne t comma) more = t ∷ optional comma more
  enumerators (LastValued t eq e comma) more = t ∷ eq ∷ written e (optional comma more)
  enumerators (One t comma rest) more = t ∷ comma ∷ enumerators rest more
  enumerators (Valued t eq e comma rest) more = t ∷ eq ∷ written e (comma ∷ enumerators rest more)
