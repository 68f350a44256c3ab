-- The typed tree of an expression at a place, and what is written in its type names (C99 6.5, 6.7.2 to 6.7.6).
use Rattle.std.specs.Prelude.{ℕ, Bool, true, false, ◌||◌, List, [], ◌∷◌, ◌++◌, Option, Some, None}
use Rattle.std.specs.Prelude.{if◌then◌else◌}
use Rattle.std.specs.Option.{is_some}
use Rattle.ck_base.specs.declared.tokens.Token.{Token}
use Rattle.ck_grammar.specs.Trees as trees
use Rattle.ck_grammar.specs.Trees.{Expr, Operands, Suffixes, Specifiers, Members, Declarators, Declarator, Dims, Params}
use Rattle.ck_grammar.specs.Trees.{MoreParams, Enumerators, Name, Constant, Strings, Paren, Postfix, Unary, SizeofType}
use Rattle.ck_grammar.specs.Trees.{Cast, Chain, Conditional, Assignment, NoOperands, Operand, NoSuffixes, Index}
use Rattle.ck_grammar.specs.Trees.{CallEmpty, Call, MemberAccess, PostIncrement, NoSpecifiers, TypedefName, Tagged}
use Rattle.ck_grammar.specs.Trees.{Struct, Enum, NoMembers, NoDeclarators, Also, Abstract, Named, Nested, NoDims, Open}
use Rattle.ck_grammar.specs.Trees.{Sized, Function, NoParams, VoidParams, Parameters, NoMore, Ellipsis, More}
use Rattle.ck_grammar.specs.Trees.{LastOne, LastValued, One, Valued}
use Rattle.ck_types.specs.Types.{StructIdentity}
use Rattle.ck_prog.specs.AssignmentSenses.{assignment_sense, choice_sense}
use Rattle.ck_prog.specs.BaseTypes.{base_type}
use Rattle.ck_prog.specs.BinarySenses.{binary_sense}
use Rattle.ck_prog.specs.Declarations.{Entry, Meaning, FunctionNamed, Layout, Place, text, is_written, meant}
use Rattle.ck_prog.specs.Declarations.{meant_tag, inside, outside}
use Rattle.ck_prog.specs.Derivations.{Derivation, made, array_of, element_count, is_impossible, pointers}
use Rattle.ck_prog.specs.Derivations.{is_no_parameter}
use Rattle.ck_prog.specs.Linking.{unqualified_type}
use Rattle.ck_prog.specs.Operators.{operator, prefix, assigning}
use Rattle.ck_prog.specs.PostfixSenses.{element, result, member, access}
use Rattle.ck_prog.specs.Senses.{Sense, Constancy}
use Rattle.ck_prog.specs.Sizes.{is_large, type_layout, padded, front_before, last_in_body}
use Rattle.ck_prog.specs.Tags.{as_parameter}
use Rattle.ck_prog.specs.Tags.{Around, nothing_around, parameter_around, member_around, struct_of_body, with_struct}
use Rattle.ck_prog.specs.Tags.{with_mention, with_member}
use Rattle.ck_prog.specs.Tags.{with_completion, with_enum, with_enumerator, first_value, next_value, with_parameter}
use Rattle.ck_prog.specs.TypeClasses.{Qualified}
use Rattle.ck_prog.specs.TypedTrees as typed
use Rattle.ck_prog.specs.TypedTrees.{Typed, Links, Arguments, Steps, TypeParts, Facts, Owner, OfTypeName, OfMember}
use Rattle.ck_prog.specs.TypedTrees.{OfParameter, DeclaratorFacts, NoLinks, Link, NoArguments, Argument, NoSteps}
use Rattle.ck_prog.specs.TypedTrees.{Access}
use Rattle.ck_prog.specs.TypedTrees.{NoParts, Mention, StructBody, EnumeratorValue, Expression, ArraySize}
use Rattle.ck_prog.specs.TypedTrees.{WholeDeclarator, facts, argument_facts}
use Rattle.ck_prog.specs.Typing.{name_sense, constant_sense, strings_sense, is_dereference, name_of, sense, derivations}
use Rattle.ck_prog.specs.Typing.{dims_derivations}
use Rattle.ck_prog.specs.Typing.{after, after_operands, after_specifiers, after_members, after_declarators}
use Rattle.ck_prog.specs.Typing.{after_enumerators, after_declarator, after_params}
use Rattle.ck_prog.specs.UnarySenses.{prefix_sense, step, size_of, cast_sense}
use Rattle.ck_prog.specs.declared.names.Defining.{Defining}
use Rattle.ck_prog.specs.declared.names.Defining.TheVariants.{Declares}
use Rattle.ck_prog.specs.declared.operators.Prefix.{Prefix}
use Rattle.ck_prog.specs.declared.operators.Prefix.TheVariants.{SizeOf}
use Rattle.ck_prog.specs.declared.operators.Role.{Role}
use Rattle.ck_prog.specs.declared.operators.Role.TheVariants.{Called, Whole, Value}

-- where an expression begins ------------------------------------------------------------------------------------------

abbrev pub first_token : Expr → Token
first_token (Name t) = t
first_token (Constant t) = t
first_token (Strings t ts) = t
first_token (Paren opening e closing) = opening
first_token (Postfix e ss) = first_token e
first_token (Unary op e) = op
first_token (SizeofType keyword opening s d closing) = keyword
first_token (Cast opening s d closing e) = opening
first_token (Chain e rest) = first_token e
first_token (Conditional test question a colon b) = first_token test
first_token (Assignment a op b) = first_token a

abbrev pub first_of_specifiers : Token → Specifiers → Token
first_of_specifiers before NoSpecifiers = before
first_of_specifiers before (trees.Word t rest) = t
first_of_specifiers before (TypedefName t rest) = t
first_of_specifiers before (Tagged keyword tag rest) = keyword
first_of_specifiers before (Struct keyword tag opening body closing rest) = keyword
first_of_specifiers before (Enum keyword tag opening body closing rest) = keyword

abbrev pub first_of_dims : Token → Dims → Token
first_of_dims before NoDims = before
first_of_dims before (Open opening closing rest) = opening
first_of_dims before (Sized opening e closing rest) = opening
first_of_dims before (Function opening ps closing rest) = opening

-- the first token of a declarator, or the token before it where nothing of it is written
abbrev pub first_of_declarator : Token → Declarator → Token
first_of_declarator before (Abstract [] dims) = first_of_dims before dims
first_of_declarator before (Abstract (star ∷ stars) dims) = star
first_of_declarator before (Named [] name dims) = name
first_of_declarator before (Named (star ∷ stars) name dims) = star
first_of_declarator before (Nested [] opening d closing dims) = opening
first_of_declarator before (Nested (star ∷ stars) opening d closing dims) = star

abbrev pub or_token : Token → Option Token → Token
or_token t None = t
or_token t (Some u) = u

-- roles ---------------------------------------------------------------------------------------------------------------

-- what is before suffixes is used so, where they and it together are used in a role
abbrev pub role_before : Role → Suffixes → Role
role_before role NoSuffixes = role
role_before role (Index opening e closing rest) = Whole
role_before role (CallEmpty opening closing rest) = Called
role_before role (Call opening e others closing rest) = Called
role_before role (MemberAccess t name rest) = Value
role_before role (PostIncrement t rest) = Value

abbrev pub role_in_chain : Role → Operands → Role
role_in_chain role NoOperands = role
role_in_chain role (Operand op e rest) = Value

abbrev pub role_under : Prefix → Role
role_under SizeOf = Whole
role_under _ = Value

-- facts ---------------------------------------------------------------------------------------------------------------

abbrev pub some_holds_call : List Facts → Bool
some_holds_call [] = false
some_holds_call (f ∷ fs) = f.holds_call || some_holds_call fs

abbrev pub senses : List Facts → List Sense
senses [] = []
senses (f ∷ fs) = f.sense ∷ senses fs

-- of an expression with these operands
abbrev pub facts_of : Role → Token → Sense → List Facts → Facts
facts_of role first sense operands =
    record { sense = sense; role = role; first = first; holds_call = some_holds_call operands }

abbrev pub call_facts : Role → Token → Sense → Facts
call_facts role first sense = record { sense = sense; role = role; first = first; holds_call = true }

-- 6.5.2.2: the function that an expression names, maybe in parentheses
abbrev pub is_function_named : Meaning → Bool
is_function_named (FunctionNamed t l d) = true
is_function_named _ = false

abbrev pub function_entry : Option Entry → Option Entry
function_entry None = None
function_entry (Some e) = if is_function_named e.meaning then Some e else None

abbrev pub named_function : Typed → Option Entry
named_function (typed.Name f e) = function_entry e
named_function (typed.Paren f e) = named_function e
named_function _ = None

-- nothing under `sizeof` is evaluated
abbrev pub evaluated : Prefix → Facts → List Facts
evaluated SizeOf f = []
evaluated _ f = f ∷ []

abbrev pub unary_facts : Place → Role → Token → Bool → Prefix → Facts → Facts
unary_facts p role first of_star op f = facts_of role first (prefix_sense p of_star op f.sense) (evaluated op f)

-- declarators ---------------------------------------------------------------------------------------------------------

-- 6.7.5.3: a parameter of an array or function type is a pointer
abbrev pub type_for : Owner → Option Qualified → Option Qualified
type_for (OfParameter defining) (Some t) = Some (as_parameter t)
type_for owner t = t

-- a declarator, where the place after it and what it says of its name are these
abbrev pub declarator_facts : Owner → Place → List Derivation → Token → Declarator → Option Qualified → DeclaratorFacts
declarator_facts owner after ds first_specifier d base =
    let type = made after ds base in
    record {
      owner = owner;
      spot = or_token first_specifier (name_of d);
      first = first_of_declarator first_specifier d;
      type = type_for owner type;
      impossible = is_impossible after ds base;
      complete = is_some (type_layout after (type_for owner type));
    }

abbrev pub parameter_part : Defining → Place → List Derivation → Token → Declarator → Option Qualified → MoreParams
    → TypeParts → TypeParts
parameter_part defining after ds first_specifier d base others more =
    if is_no_parameter (name_of d) (made after ds base) others then more
    else WholeDeclarator (declarator_facts (OfParameter defining) after ds first_specifier d base) more

-- 6.7.5.2: the array of so many elements of a type is too large
abbrev pub is_too_large : Place → Option ℕ → Option Qualified → Bool
is_too_large p None t = false
is_too_large p (Some n) t = is_large (type_layout p (array_of p (Some n) t))

-- 6.7.2.1: the size of a struct after its last member
abbrev pub whole_size : Place → StructIdentity → Option Layout
whole_size p s = padded (front_before (last_in_body p s))

abbrev mutual
  -- expressions (6.5) -------------------------------------------------------------------------------------------------

  pub typed_expression : Place → Role → Expr → Typed
  typed_expression p role (Name t) =
      typed.Name (facts_of role t (name_sense p t) []) (meant p (text p t))
  typed_expression p role (Constant t) = typed.Constant (facts_of role t (constant_sense p t) [])
  typed_expression p role (Strings t ts) = typed.Strings (facts_of role t (strings_sense p t ts) []) ts
  typed_expression p role (Paren opening e closing) =
      let x = typed_expression p role e in
      typed.Paren (facts_of role opening (facts x).sense (facts x ∷ [])) x
  typed_expression p role (Postfix e suffixes) =
      let x = typed_expression p (role_before role suffixes) e in
      typed.Postfix x (typed_steps (after p e) role (named_function x) (facts x) suffixes)
  typed_expression p role (Unary op e) =
      let x = typed_expression p (role_under (prefix (text p op))) e in
      typed.Unary (unary_facts p role op (is_dereference p e) (prefix (text p op)) (facts x)) (prefix (text p op)) x
  typed_expression p role (SizeofType keyword opening s d closing) =
      let q = after_specifiers p nothing_around s in
      let r = after_declarator q d in
      let ds = derivations q d in
      let base = base_type q s in
      let sense = size_of r (unqualified_type (made r ds base)) in
      typed.SizeofType (facts_of role keyword sense [])
      (in_specifiers p nothing_around s (in_declarator q r base [] d
      (WholeDeclarator (declarator_facts OfTypeName r ds (first_of_specifiers opening s) d base) NoParts)))
  typed_expression p role (Cast opening s d closing e) =
      let q = after_specifiers p nothing_around s in
      let r = after_declarator q d in
      let ds = derivations q d in
      let base = base_type q s in
      let x = typed_expression r Value e in
      let sense = cast_sense (unqualified_type (made r ds base)) (facts x).sense in
      typed.Cast (facts_of role opening sense (facts x ∷ []))
      (in_specifiers p nothing_around s (in_declarator q r base [] d
      (WholeDeclarator (declarator_facts OfTypeName r ds (first_of_specifiers opening s) d base) NoParts))) x
  typed_expression p role (Chain e operands) =
      let x = typed_expression p (role_in_chain role operands) e in
      typed.Chain x (typed_links (after p e) role (facts x) operands)
  typed_expression p role (Conditional test question a colon b) =
      let q = after p test in
      let x = typed_expression p Value test in
      let y = typed_expression q Value a in
      let z = typed_expression (after q a) Value b in
      let sense = choice_sense (facts x).sense (facts y).sense (facts z).sense in
      typed.Conditional (facts_of role (facts x).first sense (facts x ∷ facts y ∷ facts z ∷ [])) x y z
  typed_expression p role (Assignment a op b) =
      let x = typed_expression p Value a in
      let y = typed_expression (after p a) Value b in
      let sense = assignment_sense p (assigning (text p op)) (facts x).sense (facts y).sense in
      typed.Assignment (facts_of role (facts x).first sense (facts x ∷ facts y ∷ [])) (assigning (text p op)) x y

  -- after the value so far
  pub typed_links : Place → Role → Facts → Operands → Links
  typed_links p role so_far NoOperands = NoLinks
  typed_links p role so_far (Operand op e rest) =
      let x = typed_expression p Value e in
      let sense = binary_sense p (operator (text p op)) so_far.sense (facts x).sense in
      let value = facts_of (role_in_chain role rest) so_far.first sense (so_far ∷ facts x ∷ []) in
      Link (operator (text p op)) x value (typed_links (after p e) role value rest)

  pub typed_arguments : Place → Operands → Arguments
  typed_arguments p NoOperands = NoArguments
  typed_arguments p (Operand comma e rest) =
      Argument (typed_expression p Value e) (typed_arguments (after p e) rest)

  -- after the value so far, which may be a function that is named
  pub typed_steps : Place → Role → Option Entry → Facts → Suffixes → Steps
  typed_steps p role function so_far NoSuffixes = NoSteps
  typed_steps p role function so_far (Index opening e closing rest) =
      let x = typed_expression p Value e in
      let sense = element p so_far.sense (facts x).sense in
      let value = facts_of (role_before role rest) so_far.first sense (so_far ∷ facts x ∷ []) in
      typed.Index opening x value (typed_steps (after p e) role None value rest)
  typed_steps p role function so_far (CallEmpty opening closing rest) =
      let value = call_facts (role_before role rest) so_far.first (result p so_far.sense []) in
      typed.Call opening function NoArguments value (typed_steps p role None value rest)
  typed_steps p role function so_far (Call opening e others closing rest) =
      let es = Argument (typed_expression p Value e) (typed_arguments (after p e) others) in
      let sense = result p so_far.sense (senses (argument_facts es)) in
      let value = call_facts (role_before role rest) so_far.first sense in
      typed.Call opening function es value
      (typed_steps (after_operands (after p e) others) role None value rest)
  typed_steps p role function so_far (MemberAccess t name rest) =
      let is_dot = is_written p t "." in
      let sense = access p is_dot so_far.sense (text p name) in
      let value = facts_of (role_before role rest) so_far.first sense (so_far ∷ []) in
      Access is_dot name (member p is_dot so_far.sense (text p name)) value (typed_steps p role None value rest)
  typed_steps p role function so_far (PostIncrement t rest) =
      let value = facts_of (role_before role rest) so_far.first (step p so_far.sense) (so_far ∷ []) in
      typed.PostIncrement t (prefix (text p t)) value (typed_steps p role None value rest)

  -- what is written in types, before more of it (6.7.2) ---------------------------------------------------------------

  pub in_specifiers : Place → Around → Specifiers → TypeParts → TypeParts
  in_specifiers p around NoSpecifiers more = more
  in_specifiers p around (trees.Word t rest) more = in_specifiers p around rest more
  in_specifiers p around (TypedefName t rest) more = in_specifiers p around rest more
  in_specifiers p around (Tagged keyword tag rest) more =
      let q = with_mention p around keyword tag in
      Mention keyword tag (meant_tag q (text q tag)) (in_specifiers q around rest more)
  in_specifiers p around (Struct keyword tag opening members closing rest) more =
      let s = struct_of_body p around keyword tag in
      let q = with_struct p s keyword tag in
      let r = after_members q around s members in
      in_members q around s opening members
      (StructBody keyword (whole_size r s) (in_specifiers (with_completion r s keyword tag) around rest more))
  in_specifiers p around (Enum keyword tag opening enumerators closing rest) more =
      let q = with_enum p tag in
      in_enumerators q first_value enumerators
      (in_specifiers (after_enumerators q first_value enumerators) around rest more)

  -- 6.7.2.1
  pub in_members : Place → Around → StructIdentity → Token → Members → TypeParts → TypeParts
  in_members p around of before NoMembers more = more
  in_members p around of before (trees.Member s d others semicolon rest) more =
      let inner = member_around p around of in
      let q = after_specifiers p inner s in
      let r = after_declarator q d in
      let ds = derivations q d in
      let base = base_type q s in
      let first = with_member r of (name_of d) (made r ds base) in
      let first_specifier = first_of_specifiers before s in
      in_specifiers p inner s (in_declarator q r base [] d
      (WholeDeclarator (declarator_facts OfMember r ds first_specifier d base)
      (in_declarators first of first_specifier base others
      (in_members (after_declarators first of base others) around of semicolon rest more))))

  pub in_declarators : Place → StructIdentity → Token → Option Qualified → Declarators → TypeParts → TypeParts
  in_declarators p of first_specifier base NoDeclarators more = more
  in_declarators p of first_specifier base (Also comma d rest) more =
      let r = after_declarator p d in
      let ds = derivations p d in
      in_declarator p r base [] d
      (WholeDeclarator (declarator_facts OfMember r ds first_specifier d base)
      (in_declarators (with_member r of (name_of d) (made r ds base)) of first_specifier base rest more))

  -- 6.7.2.2
  pub in_enumerators : Place → Constancy → Enumerators → TypeParts → TypeParts
  in_enumerators p v (LastOne name comma) more = EnumeratorValue name v more
  in_enumerators p v (LastValued name equals e comma) more =
      let x = typed_expression p Value e in
      EnumeratorValue (facts x).first (facts x).sense.constancy (Expression x more)
  in_enumerators p v (One name comma rest) more =
      EnumeratorValue name v (in_enumerators (with_enumerator p name v) (next_value v) rest more)
  in_enumerators p v (Valued name equals e comma rest) more =
      let x = typed_expression p Value e in
      let v = (sense p e).constancy in
      EnumeratorValue (facts x).first v
      (Expression x (in_enumerators (with_enumerator (after p e) name v) (next_value v) rest more))

  -- 6.7.5: a declarator that makes a type of a base type and of what is around the declarator in it
  pub in_declarator : Place → Place → Option Qualified → List Derivation → Declarator → TypeParts → TypeParts
  in_declarator p end base around (Abstract stars dims) more =
      in_dims p end base (pointers p stars ++ around) dims more
  in_declarator p end base around (Named stars name dims) more =
      in_dims p end base (pointers p stars ++ around) dims more
  in_declarator p end base around (Nested stars opening d closing dims) more =
      let q = after_declarator p d in
      let outer = pointers p stars ++ around in
      in_declarator p end base (dims_derivations q dims ++ outer) d (in_dims q end base outer dims more)

  pub in_dims : Place → Place → Option Qualified → List Derivation → Dims → TypeParts → TypeParts
  in_dims p end base around NoDims more = more
  in_dims p end base around (Open opening closing rest) more = in_dims p end base around rest more
  in_dims p end base around (Sized opening e closing rest) more =
      let q = after p e in
      let x = typed_expression p Value e in
      let element = made end (dims_derivations q rest ++ around) base in
      ArraySize x (is_too_large end (element_count (facts x).sense.constancy) element)
      (in_dims q end base around rest more)
  in_dims p end base around (Function opening params closing rest) more =
      in_params Declares (inside p) opening params
      (in_dims (outside p (after_params Declares (inside p) params)) end base around rest more)

  -- 6.7.5.3
  pub in_params : Defining → Place → Token → Params → TypeParts → TypeParts
  in_params defining p before NoParams more = more
  in_params defining p before (VoidParams t) more = more
  in_params defining p before (Parameters s d others) more =
      let q = after_specifiers p parameter_around s in
      let r = after_declarator q d in
      let ds = derivations q d in
      let base = base_type q s in
      in_specifiers p parameter_around s (in_declarator q r base [] d
      (parameter_part defining r ds (first_of_specifiers before s) d base others
      (in_more_params defining (with_parameter r defining s (name_of d) (made r ds base)) others more)))

  pub in_more_params : Defining → Place → MoreParams → TypeParts → TypeParts
  in_more_params defining p NoMore more = more
  in_more_params defining p (Ellipsis comma dots) more = more
  in_more_params defining p (More comma s d others) more =
      let q = after_specifiers p parameter_around s in
      let r = after_declarator q d in
      let ds = derivations q d in
      let base = base_type q s in
      in_specifiers p parameter_around s (in_declarator q r base [] d
      (WholeDeclarator (declarator_facts (OfParameter defining) r ds (first_of_specifiers comma s) d base)
      (in_more_params defining (with_parameter r defining s (name_of d) (made r ds base)) others more)))
