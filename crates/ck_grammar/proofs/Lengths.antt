-- What is written with more after it is at least as long.
use Rattle.std.proofs.Common.{◌≤◌, List, [], ◌∷◌, ◌++◌, length, Option, Some, None, arith}
use Rattle.ck_base.specs.declared.tokens.Token.{Token}
use Rattle.ck_grammar.specs.Trees.{Expr, Operands, Suffixes, Specifiers, Members, Declarators, Declarator, Dims, Params}
use Rattle.ck_grammar.specs.Trees.{MoreParams, Enumerators, Name, Constant, Strings, Paren, Postfix, Unary, SizeofType}
use Rattle.ck_grammar.specs.Trees.{Cast, Chain, Conditional, Assignment, NoOperands, Operand, NoSuffixes, Index}
use Rattle.ck_grammar.specs.Trees.{CallEmpty, Call, MemberAccess, PostIncrement, NoSpecifiers, Word, TypedefName}
use Rattle.ck_grammar.specs.Trees.{Tagged, Struct, Enum, NoMembers, Member, NoDeclarators, Also, Abstract, Named}
use Rattle.ck_grammar.specs.Trees.{Nested, NoDims, Open, Sized, Function, NoParams, VoidParams, Parameters, NoMore}
use Rattle.ck_grammar.specs.Trees.{Ellipsis, More, LastOne, LastValued, One, Valued}
use Rattle.ck_grammar.specs.Written.{written, operands, suffixes, specifiers, members, declarators, declarator, dims}
use Rattle.ck_grammar.specs.Written.{params, more_params, enumerators, optional}

pub longer_append : (ts more : List Token) → length more ≤ length (ts ++ more)
longer_append [] more = omega arith
longer_append (t ∷ ts) more = omega (arith, longer_append ts more)

pub longer_optional : (t : Option Token) (more : List Token) → length more ≤ length (optional t more)
longer_optional None more = omega arith
longer_optional (Some t) more = omega arith

mutual
  pub longer : (e : Expr) (more : List Token) → length more ≤ length (written e more)
  longer (Name t) more = omega arith
  longer (Constant t) more = omega arith
  longer (Strings t ts) more = omega (arith, longer_append ts more)
  longer (Paren o e c) more = omega (arith, longer e (c ∷ more))
  longer (Postfix e s) more = omega (arith, longer e (suffixes s more), longer_suffixes s more)
  longer (Unary op e) more = omega (arith, longer e more)
  longer (SizeofType k o s d c) more =
      omega (arith, longer_specifiers s (declarator d (c ∷ more)), longer_declarator d (c ∷ more))
  longer (Cast o s d c e) more =
      omega (
        arith,
        longer_specifiers s (declarator d (c ∷ written e more)),
        longer_declarator d (c ∷ written e more),
        longer e more,
      )
  longer (Chain e ops) more = omega (arith, longer e (operands ops more), longer_operands ops more)
  longer (Conditional e q a c b) more =
      omega (arith, longer e (q ∷ written a (c ∷ written b more)), longer a (c ∷ written b more), longer b more)
  longer (Assignment e op b) more = omega (arith, longer e (op ∷ written b more), longer b more)

  pub longer_operands : (ops : Operands) (more : List Token) → length more ≤ length (operands ops more)
  longer_operands NoOperands more = omega arith
  longer_operands (Operand op e rest) more = omega (arith, longer e (operands rest more), longer_operands rest more)

  pub longer_suffixes : (s : Suffixes) (more : List Token) → length more ≤ length (suffixes s more)
  longer_suffixes NoSuffixes more = omega arith
  longer_suffixes (Index o e c rest) more = omega (arith, longer e (c ∷ suffixes rest more), longer_suffixes rest more)
  longer_suffixes (CallEmpty o c rest) more = omega (arith, longer_suffixes rest more)
  longer_suffixes (Call o e ops c rest) more =
      omega (
        arith,
        longer e (operands ops (c ∷ suffixes rest more)),
        longer_operands ops (c ∷ suffixes rest more),
        longer_suffixes rest more,
      )
  longer_suffixes (MemberAccess t n rest) more = omega (arith, longer_suffixes rest more)
  longer_suffixes (PostIncrement t rest) more = omega (arith, longer_suffixes rest more)

  pub longer_specifiers : (s : Specifiers) (more : List Token) → length more ≤ length (specifiers s more)
  longer_specifiers NoSpecifiers more = omega arith
  longer_specifiers (Word t rest) more = omega (arith, longer_specifiers rest more)
  longer_specifiers (TypedefName t rest) more = omega (arith, longer_specifiers rest more)
  longer_specifiers (Tagged k t rest) more = omega (arith, longer_specifiers rest more)
  longer_specifiers (Struct k tag o m c rest) more =
      omega (
        arith,
        longer_optional tag (o ∷ members m (c ∷ specifiers rest more)),
        longer_members m (c ∷ specifiers rest more),
        longer_specifiers rest more,
      )
  longer_specifiers (Enum k tag o m c rest) more =
      omega (
        arith,
        longer_optional tag (o ∷ enumerators m (c ∷ specifiers rest more)),
        longer_enumerators m (c ∷ specifiers rest more),
        longer_specifiers rest more,
      )

  pub longer_members : (m : Members) (more : List Token) → length more ≤ length (members m more)
  longer_members NoMembers more = omega arith
  longer_members (Member s d ds semicolon rest) more =
      omega (
        arith,
        longer_specifiers s (declarator d (declarators ds (semicolon ∷ members rest more))),
        longer_declarator d (declarators ds (semicolon ∷ members rest more)),
        longer_declarators ds (semicolon ∷ members rest more),
        longer_members rest more,
      )

  pub longer_declarators : (ds : Declarators) (more : List Token) → length more ≤ length (declarators ds more)
  longer_declarators NoDeclarators more = omega arith
  longer_declarators (Also comma d rest) more =
      omega (arith, longer_declarator d (declarators rest more), longer_declarators rest more)

  pub longer_declarator : (d : Declarator) (more : List Token) → length more ≤ length (declarator d more)
  longer_declarator (Abstract stars ds) more = omega (arith, longer_append stars (dims ds more), longer_dims ds more)
  longer_declarator (Named stars t ds) more = omega (arith, longer_append stars (t ∷ dims ds more), longer_dims ds more)
  longer_declarator (Nested stars o d c ds) more =
      omega (
        arith,
        longer_append stars (o ∷ declarator d (c ∷ dims ds more)),
        longer_declarator d (c ∷ dims ds more),
        longer_dims ds more,
      )

  pub longer_dims : (ds : Dims) (more : List Token) → length more ≤ length (dims ds more)
  longer_dims NoDims more = omega arith
  longer_dims (Open o c rest) more = omega (arith, longer_dims rest more)
  longer_dims (Sized o e c rest) more = omega (arith, longer e (c ∷ dims rest more), longer_dims rest more)
  longer_dims (Function o p c rest) more = omega (arith, longer_params p (c ∷ dims rest more), longer_dims rest more)

  pub longer_params : (p : Params) (more : List Token) → length more ≤ length (params p more)
  longer_params NoParams more = omega arith
  longer_params (VoidParams t) more = omega arith
  longer_params (Parameters s d rest) more =
      omega (
        arith,
        longer_specifiers s (declarator d (more_params rest more)),
        longer_declarator d (more_params rest more),
        longer_more_params rest more,
      )

  pub longer_more_params : (p : MoreParams) (more : List Token) → length more ≤ length (more_params p more)
  longer_more_params NoMore more = omega arith
  longer_more_params (Ellipsis comma dots) more = omega arith
  longer_more_params (More comma s d rest) more =
      omega (
        arith,
        longer_specifiers s (declarator d (more_params rest more)),
        longer_declarator d (more_params rest more),
        longer_more_params rest more,
      )

  pub longer_enumerators : (m : Enumerators) (more : List Token) → length more ≤ length (enumerators m more)
  longer_enumerators (LastOne t comma) more = omega (arith, longer_optional comma more)
  longer_enumerators (LastValued t eq e comma) more =
      omega (arith, longer e (optional comma more), longer_optional comma more)
  longer_enumerators (One t comma rest) more = omega (arith, longer_enumerators rest more)
  longer_enumerators (Valued t eq e comma rest) more =
      omega (arith, longer e (comma ∷ enumerators rest more), longer_enumerators rest more)
