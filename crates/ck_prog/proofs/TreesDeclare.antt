-- The place after a tree comes after the place before it.
use Rattle.std.specs.Prelude.{Bool, true, false, ◌&&◌, Option, Some, None, if◌then◌else◌, List, ℕ, ℤ}
use Rattle.std.proofs.Common.{◌≡◌, refl}
use Rattle.ck_base.specs.declared.tokens.Token.{Token}
use Rattle.ck_grammar.specs.Trees as trees
use Rattle.ck_grammar.specs.Trees.{Expr, Operands, Suffixes, Specifiers, Members, Declarators, Declarator, Dims, Params}
use Rattle.ck_grammar.specs.Trees.{MoreParams, Enumerators, Name, Constant, Strings, Paren, Postfix, Unary, SizeofType}
use Rattle.ck_grammar.specs.Trees.{Cast, Chain, Conditional, Assignment, NoOperands, Operand, NoSuffixes, Index}
use Rattle.ck_grammar.specs.Trees.{CallEmpty, Call, MemberAccess, PostIncrement, NoSpecifiers, TypedefName, Tagged}
use Rattle.ck_grammar.specs.Trees.{Struct, Enum, NoMembers, NoDeclarators, Also, Abstract, Named, Nested, NoDims, Open}
use Rattle.ck_grammar.specs.Trees.{Sized, Function, NoParams, VoidParams, Parameters, NoMore, Ellipsis, More}
use Rattle.ck_grammar.specs.Trees.{LastOne, LastValued, One, Valued}
use Rattle.ck_types.specs.IntegerTypes.{represents}
use Rattle.ck_types.specs.Types.{StructIdentity}
use Rattle.ck_types.specs.declared.integer_types.IntegerType.TheVariants.{Int}
use Rattle.ck_prog.specs.BaseTypes.{base_type}
use Rattle.ck_prog.specs.Declarations.{Meaning, Member, StructTag, EnumTag, Enumerator, Place, text, declaring}
use Rattle.ck_prog.specs.Declarations.{declaring_name, inside, outside, is_written}
use Rattle.ck_prog.specs.Declaring.{after_declared, after_function_name, with_declared, with_defined, declares_function}
use Rattle.ck_prog.specs.Derivations.{made}
use Rattle.ck_prog.specs.Growing.{ComesAfter, AtOnce, AfterName, AfterScope, is_fitting}
use Rattle.ck_prog.specs.Linking.{StorageClass, TypedefClass, ExternClass, StaticClass, RegisterClass, NoClass}
use Rattle.ck_prog.specs.Linking.{declared_as, function_declared, storage_class}
use Rattle.ck_prog.specs.Senses.{Constancy, Varying, Valueless, Known}
use Rattle.ck_prog.specs.Sizes.{completed, next_member}
use Rattle.ck_prog.specs.Tags.{Around, nothing_around, parameter_around, member_around, struct_of_body}
use Rattle.ck_prog.specs.Tags.{mentioned_struct, tag_name, tag_token, with_struct}
use Rattle.ck_prog.specs.Tags.{with_mention, with_member, with_completion, with_enum, with_enumerator, first_value}
use Rattle.ck_prog.specs.Tags.{next_value, with_parameter, enumerator_value, parameter_meaning, is_new_tag}
use Rattle.ck_prog.specs.TypeClasses.{Qualified}
use Rattle.ck_prog.specs.Typing.{sense, derivations, name_of, after, after_operands, after_suffixes, after_specifiers}
use Rattle.ck_prog.specs.Typing.{after_members, after_declarators, after_enumerators, after_declarator, after_dims}
use Rattle.ck_prog.specs.Typing.{after_params, after_more_params}
use Rattle.ck_prog.specs.declared.names.Defining.{Defining}
use Rattle.ck_prog.specs.declared.names.Defining.TheVariants.{Declares, Defines}

-- one after another
pub and_then : (p q r : Place) → ComesAfter p q → ComesAfter q r → ComesAfter p r
and_then p q r c (AtOnce o) = c
and_then p q r c (AfterName o s name at m d fit) = AfterName p s name at m (and_then p q s c d) fit
and_then p q r c (AfterScope o s t d e) = AfterScope p s t (and_then p q s c d) e

pub after_one : (p : Place) (name : List ℕ) (at : Token) (m : Meaning) → is_fitting m ≡ true
    → ComesAfter p (declaring p name at m)
after_one p name at m fit = AfterName p p name at m (AtOnce p) fit

after_name : (p : Place) (name : Option Token) (m : Meaning) → is_fitting m ≡ true
    → ComesAfter p (declaring_name p name m)
after_name p None m fit = AtOnce p
after_name p (Some name) m fit = after_one p (text p name) name m fit

fits_if : (b : Bool) (v : ℤ) → (b ≡ true → represents Int v ≡ true)
    → is_fitting (Enumerator (if b then Some v else None)) ≡ true
fits_if true v h = h refl
fits_if false v h = refl

enumerator_fits : (v : Constancy) → is_fitting (Enumerator (enumerator_value v)) ≡ true
enumerator_fits Varying = refl
enumerator_fits Valueless = refl
enumerator_fits (Known v) = fits_if (represents Int v) v (λ e. e)

after_constant : (p : Place) (name : Token) (v : Constancy) → ComesAfter p (with_enumerator p name v)
after_constant p name v =
    after_one p (text p name) name (Enumerator (enumerator_value v)) (enumerator_fits v)

declared_fits : (p : Place) (class : StorageClass) (is_function initialised : Bool) (name : List ℕ)
    (t : Option Qualified) → is_fitting (declared_as p class is_function initialised name t) ≡ true
declared_fits p TypedefClass is_function initialised name t = refl
declared_fits p ExternClass true initialised name t = refl
declared_fits p ExternClass false initialised name t = refl
declared_fits p StaticClass true initialised name t = refl
declared_fits p StaticClass false initialised name t = refl
declared_fits p RegisterClass true initialised name t = refl
declared_fits p RegisterClass false initialised name t = refl
declared_fits p NoClass true initialised name t = refl
declared_fits p NoClass false initialised name t = refl

after_if : (b : Bool) (p q : Place) → ComesAfter p q → ComesAfter p (if b then q else p)
after_if true p q c = c
after_if false p q c = AtOnce p

after_mention : (p : Place) (around : Around) (keyword tag : Token) → ComesAfter p (with_mention p around keyword tag)
after_mention p around keyword tag =
    after_if (is_written p keyword "struct" && is_new_tag p around tag) p
    (with_struct p (mentioned_struct p around tag) keyword (Some tag))
    (after_one p (text p tag) tag (StructTag (mentioned_struct p around tag)) refl)

after_parameter : (p : Place) (d : Defining) (s : Specifiers) (name : Option Token) (t : Option Qualified)
    → ComesAfter p (with_parameter p d s name t)
after_parameter p d s name t = after_name p name (parameter_meaning p d s t) refl

mutual
  pub expression_declares : (p : Place) (e : Expr) → ComesAfter p (after p e)
  expression_declares p (Name t) = AtOnce p
  expression_declares p (Constant t) = AtOnce p
  expression_declares p (Strings t ts) = AtOnce p
  expression_declares p (Paren opening e closing) = expression_declares p e
  expression_declares p (Postfix e suffixes) =
      and_then p (after p e) (after_suffixes (after p e) suffixes) (expression_declares p e)
      (suffixes_declare (after p e) suffixes)
  expression_declares p (Unary op e) = expression_declares p e
  expression_declares p (SizeofType keyword opening s d closing) =
      let q = after_specifiers p nothing_around s in
      and_then p q (after_declarator q d) (specifiers_declare p nothing_around s) (declarator_declares q d)
  expression_declares p (Cast opening s d closing e) =
      let q = after_specifiers p nothing_around s in
      let r = after_declarator q d in
      and_then p q (after r e) (specifiers_declare p nothing_around s)
      (and_then q r (after r e) (declarator_declares q d) (expression_declares r e))
  expression_declares p (Chain e operands) =
      and_then p (after p e) (after_operands (after p e) operands) (expression_declares p e)
      (operands_declare (after p e) operands)
  expression_declares p (Conditional test question a colon b) =
      let q = after p test in
      let r = after q a in
      and_then p q (after r b) (expression_declares p test)
      (and_then q r (after r b) (expression_declares q a) (expression_declares r b))
  expression_declares p (Assignment a op b) =
      let q = after p a in and_then p q (after q b) (expression_declares p a) (expression_declares q b)

  operands_declare : (p : Place) (operands : Operands) → ComesAfter p (after_operands p operands)
  operands_declare p NoOperands = AtOnce p
  operands_declare p (Operand op e rest) =
      let q = after p e in and_then p q (after_operands q rest) (expression_declares p e) (operands_declare q rest)

  suffixes_declare : (p : Place) (suffixes : Suffixes) → ComesAfter p (after_suffixes p suffixes)
  suffixes_declare p NoSuffixes = AtOnce p
  suffixes_declare p (Index opening e closing rest) =
      let q = after p e in and_then p q (after_suffixes q rest) (expression_declares p e) (suffixes_declare q rest)
  suffixes_declare p (CallEmpty opening closing rest) = suffixes_declare p rest
  suffixes_declare p (Call opening e others closing rest) =
      let q = after p e in
      let r = after_operands q others in
      and_then p q (after_suffixes r rest) (expression_declares p e)
      (and_then q r (after_suffixes r rest) (operands_declare q others) (suffixes_declare r rest))
  suffixes_declare p (MemberAccess t name rest) = suffixes_declare p rest
  suffixes_declare p (PostIncrement t rest) = suffixes_declare p rest

  pub specifiers_declare : (p : Place) (around : Around) (s : Specifiers) → ComesAfter p (after_specifiers p around s)
  specifiers_declare p around NoSpecifiers = AtOnce p
  specifiers_declare p around (trees.Word t rest) = specifiers_declare p around rest
  specifiers_declare p around (TypedefName t rest) = specifiers_declare p around rest
  specifiers_declare p around (Tagged keyword tag rest) =
      let q = with_mention p around keyword tag in
      and_then p q (after_specifiers q around rest) (after_mention p around keyword tag)
      (specifiers_declare q around rest)
  specifiers_declare p around (Struct keyword tag opening members closing rest) =
      let s = struct_of_body p around keyword tag in
      let q = with_struct p s keyword tag in
      let r = after_members q around s members in
      let t = with_completion r s keyword tag in
      and_then p q (after_specifiers t around rest)
      (after_one p (tag_name p keyword tag) (tag_token keyword tag) (StructTag s) refl)
      (and_then q r (after_specifiers t around rest) (members_declare q around s members)
      (and_then r t (after_specifiers t around rest)
      (after_one r (tag_name r keyword tag) (tag_token keyword tag) (completed r s) refl)
      (specifiers_declare t around rest)))
  specifiers_declare p around (Enum keyword tag opening enumerators closing rest) =
      let q = with_enum p tag in
      let r = after_enumerators q first_value enumerators in
      and_then p q (after_specifiers r around rest) (after_name p tag EnumTag refl)
      (and_then q r (after_specifiers r around rest) (enumerators_declare q first_value enumerators)
      (specifiers_declare r around rest))

  members_declare : (p : Place) (around : Around) (of : StructIdentity) (members : Members)
      → ComesAfter p (after_members p around of members)
  members_declare p around of NoMembers = AtOnce p
  members_declare p around of (trees.Member s d others semicolon rest) =
      let inner = member_around p around of in
      let q = after_specifiers p inner s in
      let r = after_declarator q d in
      let base = base_type q s in
      let t = made r (derivations q d) base in
      let first = with_member r of (name_of d) t in
      let second = after_declarators first of base others in
      let end = after_members second around of rest in
      and_then p q end (specifiers_declare p inner s)
      (and_then q r end (declarator_declares q d)
      (and_then r first end (after_name r (name_of d) (Member (next_member r of t)) refl)
      (and_then first second end (declarators_declare first of base others) (members_declare second around of rest))))

  declarators_declare : (p : Place) (of : StructIdentity) (base : Option Qualified) (ds : Declarators)
      → ComesAfter p (after_declarators p of base ds)
  declarators_declare p of base NoDeclarators = AtOnce p
  declarators_declare p of base (Also comma d rest) =
      let r = after_declarator p d in
      let t = made r (derivations p d) base in
      let first = with_member r of (name_of d) t in
      let end = after_declarators first of base rest in
      and_then p r end (declarator_declares p d)
      (and_then r first end (after_name r (name_of d) (Member (next_member r of t)) refl)
      (declarators_declare first of base rest))

  enumerators_declare : (p : Place) (v : Constancy) (es : Enumerators) → ComesAfter p (after_enumerators p v es)
  enumerators_declare p v (LastOne name comma) = after_constant p name v
  enumerators_declare p v (LastValued name equals e comma) =
      let q = after p e in
      let v = (sense p e).constancy in
      and_then p q (with_enumerator q name v) (expression_declares p e)
      (after_constant q name v)
  enumerators_declare p v (One name comma rest) =
      let q = with_enumerator p name v in
      and_then p q (after_enumerators q (next_value v) rest)
      (after_constant p name v) (enumerators_declare q (next_value v) rest)
  enumerators_declare p v (Valued name equals e comma rest) =
      let q = after p e in
      let v = (sense p e).constancy in
      let r = with_enumerator q name v in
      let end = after_enumerators r (next_value v) rest in
      and_then p q end (expression_declares p e)
      (and_then q r end (after_constant q name v)
      (enumerators_declare r (next_value v) rest))

  pub declarator_declares : (p : Place) (d : Declarator) → ComesAfter p (after_declarator p d)
  declarator_declares p (Abstract stars dims) = dims_declare p dims
  declarator_declares p (Named stars name dims) = dims_declare p dims
  declarator_declares p (Nested stars opening d closing dims) =
      let q = after_declarator p d in and_then p q (after_dims q dims) (declarator_declares p d) (dims_declare q dims)

  dims_declare : (p : Place) (dims : Dims) → ComesAfter p (after_dims p dims)
  dims_declare p NoDims = AtOnce p
  dims_declare p (Open opening closing rest) = dims_declare p rest
  dims_declare p (Sized opening e closing rest) =
      let q = after p e in and_then p q (after_dims q rest) (expression_declares p e) (dims_declare q rest)
  dims_declare p (Function opening params closing rest) =
      let r = after_params Declares (inside p) params in
      let q = outside p r in
      and_then p q (after_dims q rest) (AfterScope p p r (AtOnce p) (params_declare Declares (inside p) params))
      (dims_declare q rest)

  pub params_declare : (d : Defining) (p : Place) (params : Params) → ComesAfter p (after_params d p params)
  params_declare defining p NoParams = AtOnce p
  params_declare defining p (VoidParams t) = AtOnce p
  params_declare defining p (Parameters s d others) =
      let q = after_specifiers p parameter_around s in
      let r = after_declarator q d in
      let t = made r (derivations q d) (base_type q s) in
      let first = with_parameter r defining s (name_of d) t in
      let end = after_more_params defining first others in
      and_then p q end (specifiers_declare p parameter_around s)
      (and_then q r end (declarator_declares q d)
      (and_then r first end (after_parameter r defining s (name_of d) t) (more_params_declare defining first others)))

  more_params_declare : (d : Defining) (p : Place) (others : MoreParams) → ComesAfter p (after_more_params d p others)
  more_params_declare defining p NoMore = AtOnce p
  more_params_declare defining p (Ellipsis comma dots) = AtOnce p
  more_params_declare defining p (More comma s d others) =
      let q = after_specifiers p parameter_around s in
      let r = after_declarator q d in
      let t = made r (derivations q d) (base_type q s) in
      let first = with_parameter r defining s (name_of d) t in
      let end = after_more_params defining first others in
      and_then p q end (specifiers_declare p parameter_around s)
      (and_then q r end (declarator_declares q d)
      (and_then r first end (after_parameter r defining s (name_of d) t) (more_params_declare defining first others)))

-- declarations --------------------------------------------------------------------------------------------------------

pub after_with_declared : (p : Place) (class : StorageClass) (is_function initialised : Bool) (name : Option Token)
    (t : Option Qualified) → ComesAfter p (with_declared p class is_function initialised name t)
after_with_declared p class is_function initialised None t = AtOnce p
after_with_declared p class is_function initialised (Some name) t =
    after_one p (text p name) name (declared_as p class is_function initialised (text p name) t)
    (declared_fits p class is_function initialised (text p name) t)

pub declared_declares : (p : Place) (class : StorageClass) (initialised : Bool) (base : Option Qualified)
    (d : Declarator) → ComesAfter p (after_declared p class initialised base d)
declared_declares p class initialised base d =
    let q = after_declarator p d in
    let ds = derivations p d in
    let t = made q ds base in
    and_then p q (after_declared p class initialised base d) (declarator_declares p d)
    (after_with_declared q class (declares_function ds t) initialised (name_of d) t)

after_with_defined : (p : Place) (class : StorageClass) (name : Option Token) (t : Option Qualified)
    → ComesAfter p (with_defined p class name t)
after_with_defined p class None t = AtOnce p
after_with_defined p class (Some name) t =
    after_one p (text p name) name (function_declared p class Defines (text p name) t) refl

pub function_name_declares : (p : Place) (s : Specifiers) (d : Declarator) → ComesAfter p (after_function_name p s d)
function_name_declares p s d =
    let q = after_specifiers p nothing_around s in
    let r = after_declarator q d in
    and_then p q (after_function_name p s d) (specifiers_declare p nothing_around s)
    (and_then q r (after_function_name p s d) (declarator_declares q d)
    (after_with_defined r (storage_class p s) (name_of d) (made r (derivations q d) (base_type q s))))
