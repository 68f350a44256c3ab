-- A tree before some tokens and more is written as it is before the first of them, and then the others. Crates above
-- may
-- cite these equations.
use Rattle.std.proofs.Common.{◌≡◌, List, [], ◌∷◌, ◌++◌, Option, Some, None, refl, ap}
use Rattle.ck_base.specs.declared.tokens.Token.{Token}
use Rattle.ck_grammar.specs.Trees.{Expr, Operands, Suffixes, Specifiers, Members, Declarators, Declarator, Dims, Params}
use Rattle.ck_grammar.specs.Trees.{MoreParams, Enumerators, Name, Constant, Strings, Paren, Postfix, Unary, SizeofType}
use Rattle.ck_grammar.specs.Trees.{Cast, Chain, Conditional, Assignment, NoOperands, Operand, NoSuffixes, Index}
use Rattle.ck_grammar.specs.Trees.{CallEmpty, Call, MemberAccess, PostIncrement, NoSpecifiers, Word, TypedefName}
use Rattle.ck_grammar.specs.Trees.{Tagged, Struct, Enum, NoMembers, Member, NoDeclarators, Also, Abstract, Named}
use Rattle.ck_grammar.specs.Trees.{Nested, NoDims, Open, Sized, Function, NoParams, VoidParams, Parameters, NoMore}
use Rattle.ck_grammar.specs.Trees.{Ellipsis, More, LastOne, LastValued, One, Valued}
use Rattle.ck_grammar.specs.Written.{written, operands, suffixes, specifiers, members, declarators, declarator, dims}
use Rattle.ck_grammar.specs.Written.{params, more_params, enumerators, optional}

append_appended : (ts us more : List Token) → (ts ++ (us ++ more)) ≡ ((ts ++ us) ++ more)
append_appended [] us more = refl
append_appended (t ∷ ts) us more = ap (◌∷◌ t) (append_appended ts us more)

optional_appended : (t : Option Token) (us more : List Token) → optional t (us ++ more) ≡ (optional t us ++ more)
optional_appended None us more = refl
optional_appended (Some t) us more = refl

mutual
  pub written_appended : (x : Expr) (us more : List Token) → written x (us ++ more) ≡ (written x us ++ more)
  written_appended (Name t) us more = refl
  written_appended (Constant t) us more = refl
  written_appended (Strings t ts) us more = rw (append_appended ts us more) refl
  written_appended (Paren o e c) us more = rw (written_appended e (c ∷ us) more) refl
  written_appended (Postfix e s) us more = rw (suffixes_appended s us more, written_appended e (suffixes s us) more)
      refl
  written_appended (Unary op e) us more = rw (written_appended e us more) refl
  written_appended (SizeofType k o s d c) us more =
      rw (declarator_appended d (c ∷ us) more, specifiers_appended s (declarator d (c ∷ us)) more) refl
  written_appended (Cast o s d c e) us more =
      rw (
        written_appended e us more,
        declarator_appended d (c ∷ written e us) more,
        specifiers_appended s (declarator d (c ∷ written e us)) more,
      ) refl
  written_appended (Chain e ops) us more = rw (operands_appended ops us more, written_appended e (operands ops us) more)
      refl
  written_appended (Conditional e q a c b) us more =
      rw (
        written_appended b us more,
        written_appended a (c ∷ written b us) more,
        written_appended e (q ∷ written a (c ∷ written b us)) more,
      ) refl
  written_appended (Assignment e op b) us more =
      rw (written_appended b us more, written_appended e (op ∷ written b us) more) refl

  pub operands_appended : (x : Operands) (us more : List Token) → operands x (us ++ more) ≡ (operands x us ++ more)
  operands_appended NoOperands us more = refl
  operands_appended (Operand op e rest) us more =
      rw (operands_appended rest us more, written_appended e (operands rest us) more) refl

  pub suffixes_appended : (x : Suffixes) (us more : List Token) → suffixes x (us ++ more) ≡ (suffixes x us ++ more)
  suffixes_appended NoSuffixes us more = refl
  suffixes_appended (Index o e c rest) us more =
      rw (suffixes_appended rest us more, written_appended e (c ∷ suffixes rest us) more) refl
  suffixes_appended (CallEmpty o c rest) us more = rw (suffixes_appended rest us more) refl
  suffixes_appended (Call o e ops c rest) us more =
      rw (
        suffixes_appended rest us more,
        operands_appended ops (c ∷ suffixes rest us) more,
        written_appended e (operands ops (c ∷ suffixes rest us)) more,
      ) refl
  suffixes_appended (MemberAccess t n rest) us more = rw (suffixes_appended rest us more) refl
  suffixes_appended (PostIncrement t rest) us more = rw (suffixes_appended rest us more) refl

  pub specifiers_appended : (x : Specifiers) (us more : List Token) → specifiers x
      (us ++ more) ≡ (specifiers x us ++ more)
  specifiers_appended NoSpecifiers us more = refl
  specifiers_appended (Word t rest) us more = rw (specifiers_appended rest us more) refl
  specifiers_appended (TypedefName t rest) us more = rw (specifiers_appended rest us more) refl
  specifiers_appended (Tagged k t rest) us more = rw (specifiers_appended rest us more) refl
  specifiers_appended (Struct k tag o m c rest) us more =
      rw (
        specifiers_appended rest us more,
        members_appended m (c ∷ specifiers rest us) more,
        optional_appended tag (o ∷ members m (c ∷ specifiers rest us)) more,
      ) refl
  specifiers_appended (Enum k tag o m c rest) us more =
      rw (
        specifiers_appended rest us more,
        enumerators_appended m (c ∷ specifiers rest us) more,
        optional_appended tag (o ∷ enumerators m (c ∷ specifiers rest us)) more,
      ) refl

  pub members_appended : (x : Members) (us more : List Token) → members x (us ++ more) ≡ (members x us ++ more)
  members_appended NoMembers us more = refl
  members_appended (Member s d ds semicolon rest) us more =
      rw (
        members_appended rest us more,
        declarators_appended ds (semicolon ∷ members rest us) more,
        declarator_appended d (declarators ds (semicolon ∷ members rest us)) more,
        specifiers_appended s (declarator d (declarators ds (semicolon ∷ members rest us))) more,
      ) refl

  pub declarators_appended : (x : Declarators) (us more : List Token) → declarators x
      (us ++ more) ≡ (declarators x us ++ more)
  declarators_appended NoDeclarators us more = refl
  declarators_appended (Also comma d rest) us more =
      rw (declarators_appended rest us more, declarator_appended d (declarators rest us) more) refl

  pub declarator_appended : (x : Declarator) (us more : List Token) → declarator x
      (us ++ more) ≡ (declarator x us ++ more)
  declarator_appended (Abstract stars ds) us more =
      rw (dims_appended ds us more, append_appended stars (dims ds us) more) refl
  declarator_appended (Named stars t ds) us more =
      rw (dims_appended ds us more, append_appended stars (t ∷ dims ds us) more) refl
  declarator_appended (Nested stars o d c ds) us more =
      rw (
        dims_appended ds us more,
        declarator_appended d (c ∷ dims ds us) more,
        append_appended stars (o ∷ declarator d (c ∷ dims ds us)) more,
      ) refl

  pub dims_appended : (x : Dims) (us more : List Token) → dims x (us ++ more) ≡ (dims x us ++ more)
  dims_appended NoDims us more = refl
  dims_appended (Open o c rest) us more = rw (dims_appended rest us more) refl
  dims_appended (Sized o e c rest) us more = rw (dims_appended rest us more, written_appended e (c ∷ dims rest us) more)
      refl
  dims_appended (Function o p c rest) us more =
      rw (dims_appended rest us more, params_appended p (c ∷ dims rest us) more) refl

  pub params_appended : (x : Params) (us more : List Token) → params x (us ++ more) ≡ (params x us ++ more)
  params_appended NoParams us more = refl
  params_appended (VoidParams t) us more = refl
  params_appended (Parameters s d rest) us more =
      rw (
        more_params_appended rest us more,
        declarator_appended d (more_params rest us) more,
        specifiers_appended s (declarator d (more_params rest us)) more,
      ) refl

  pub more_params_appended : (x : MoreParams) (us more : List Token) → more_params x
      (us ++ more) ≡ (more_params x us ++ more)
  more_params_appended NoMore us more = refl
  more_params_appended (Ellipsis comma dots) us more = refl
  more_params_appended (More comma s d rest) us more =
      rw (
        more_params_appended rest us more,
        declarator_appended d (more_params rest us) more,
        specifiers_appended s (declarator d (more_params rest us)) more,
      ) refl

  pub enumerators_appended : (x : Enumerators) (us more : List Token) → enumerators x
      (us ++ more) ≡ (enumerators x us ++ more)
  enumerators_appended (LastOne t comma) us more = rw (optional_appended comma us more) refl
  enumerators_appended (LastValued t eq e comma) us more =
      rw (optional_appended comma us more, written_appended e (optional comma us) more) refl
  enumerators_appended (One t comma rest) us more = rw (enumerators_appended rest us more) refl
  enumerators_appended (Valued t eq e comma rest) us more =
      rw (enumerators_appended rest us more, written_appended e (comma ∷ enumerators rest us) more) refl
