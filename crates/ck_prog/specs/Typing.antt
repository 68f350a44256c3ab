-- The sense of an expression, what a declarator says of its name, and the place after each tree (C99 6.5, 6.7.2 to
-- 6.7.6). These depend on each other: a size is an expression, `sizeof` takes a type, and a type may declare names.
use Rattle.std.specs.Prelude.{ℕ, ◌+◌, Bool, true, false, ◌&&◌, not, List, [], ◌∷◌, ◌++◌, length, Option, Some, None, ℤ}
use Rattle.ck_base.specs.declared.tokens.Token.{Token}
use Rattle.ck_base.specs.CharacterConstants.{string_values}
use Rattle.ck_grammar.specs.Trees as trees
use Rattle.ck_grammar.specs.Trees.{Expr, Operands, Suffixes, Specifiers, Members, Declarators, Declarator, Dims, Params}
use Rattle.ck_grammar.specs.Trees.{MoreParams, Enumerators, Name, Constant, Strings, Paren, Postfix, Unary, SizeofType}
use Rattle.ck_grammar.specs.Trees.{Cast, Chain, Conditional, Assignment, NoOperands, Operand, NoSuffixes, Index}
use Rattle.ck_grammar.specs.Trees.{CallEmpty, Call, MemberAccess, PostIncrement, NoSpecifiers, TypedefName, Tagged}
use Rattle.ck_grammar.specs.Trees.{Struct, Enum, NoMembers, NoDeclarators, Also, Abstract, Named, Nested, NoDims, Open}
use Rattle.ck_grammar.specs.Trees.{Sized, Function, NoParams, VoidParams, Parameters, NoMore, Ellipsis, More}
use Rattle.ck_grammar.specs.Trees.{LastOne, LastValued, One, Valued}
use Rattle.ck_types.specs.ConstantTypes.{constant}
use Rattle.ck_types.specs.Types.{StructIdentity, CType, Integer, Array, NoParameters}
use Rattle.ck_types.specs.declared.operators.IntegerValue.{IntegerValue}
use Rattle.ck_prog.specs.AssignmentSenses.{assignment_sense, choice_sense}
use Rattle.ck_prog.specs.BaseTypes.{base_type}
use Rattle.ck_prog.specs.BinarySenses.{binary_sense}
use Rattle.ck_prog.specs.Declarations.{Meaning, Variable, FunctionNamed, Enumerator, Place, text, is_written, meant}
use Rattle.ck_prog.specs.Declarations.{inside, outside, meaning_of}
use Rattle.ck_prog.specs.Derivations.{Derivation, OpenArray, SizedArray, FunctionOf, made, pointers, Signature}
use Rattle.ck_prog.specs.Derivations.{no_parameters, with_first_type, with_next_type, is_only_void}
use Rattle.ck_prog.specs.Linking.{unqualified_type}
use Rattle.ck_prog.specs.Operators.{operator, prefix, assigning}
use Rattle.ck_prog.specs.PostfixSenses.{element, result, access}
use Rattle.ck_prog.specs.Senses.{Sense, Constancy, Valueless, Known, no_type, integer, pointer}
use Rattle.ck_prog.specs.Tags.{Around, nothing_around, parameter_around, member_around, struct_of_body, with_struct}
use Rattle.ck_prog.specs.Tags.{with_mention, with_member}
use Rattle.ck_prog.specs.Tags.{with_completion, with_enum, with_enumerator, first_value, next_value, with_parameter}
use Rattle.ck_prog.specs.TypeClasses.{Qualified, plain, int, char}
use Rattle.ck_prog.specs.UnarySenses.{prefix_sense, step, size_of, cast_sense}
use Rattle.ck_prog.specs.declared.names.Defining.{Defining}
use Rattle.ck_prog.specs.declared.names.Defining.TheVariants.{Declares}
use Rattle.ck_prog.specs.declared.names.Storage.{Storage}
use Rattle.ck_prog.specs.declared.names.Storage.TheVariants.{Static, Register}
use Rattle.ck_prog.specs.declared.operators.Prefix.{Prefix}
use Rattle.ck_prog.specs.declared.operators.Prefix.TheVariants.{Dereference}

-- primary expressions (6.5.1) -----------------------------------------------------------------------------------------

abbrev pub is_static : Storage → Bool
is_static Static = true
is_static _ = false

abbrev pub is_register : Storage → Bool
is_register Register = true
is_register _ = false

-- 6.3.2.1: a name of type `void` designates no object
abbrev pub object_sense : Option Qualified → Storage → Sense
object_sense None s = no_type
object_sense (Some t) s =
    let object = not (is_only_void (Some t)) in
    record (pointer t.type (object && is_static s))
    { qualifiers = t.qualifiers; lvalue = object; register = is_register s }

abbrev pub function_sense : Option CType → Sense
function_sense None = no_type
function_sense (Some t) = pointer t true

-- 6.7.2.2
abbrev pub enumerator_sense : Option ℤ → Sense
enumerator_sense None = integer int Valueless
enumerator_sense (Some v) = integer int (Known v)

abbrev pub meaning_sense : Option Meaning → Sense
meaning_sense (Some (Variable t l d s)) = object_sense t s
meaning_sense (Some (FunctionNamed t l d)) = function_sense t
meaning_sense (Some (Enumerator v)) = enumerator_sense v
meaning_sense _ = no_type

abbrev pub name_sense : Place → Token → Sense
name_sense p t = meaning_sense (meaning_of (meant p (text p t)))

-- 6.4.4
abbrev pub value_sense : Option IntegerValue → Sense
value_sense None = no_type
value_sense (Some v) = integer (Integer v.of) (Known v.value)

abbrev pub constant_sense : Place → Token → Sense
constant_sense p t = value_sense (constant (text p t))

-- 6.4.5: the characters of neighbouring literals, and one of value 0
abbrev pub all_characters : Place → List Token → ℕ
all_characters p [] = 1
all_characters p (t ∷ ts) = length (string_values (text p t)) + all_characters p ts

abbrev pub strings_sense : Place → Token → List Token → Sense
strings_sense p t ts =
    record (pointer (Array plain char (Some (all_characters p (t ∷ ts)))) true) { lvalue = true }

-- 6.5.3.2: a `*` and its operand, maybe in parentheses
abbrev pub is_star : Prefix → Bool
is_star Dereference = true
is_star _ = false

abbrev pub is_dereference : Place → Expr → Bool
is_dereference p (Unary op e) = is_star (prefix (text p op))
is_dereference p (Paren opening e closing) = is_dereference p e
is_dereference p _ = false

-- the name in a declarator
abbrev pub name_of : Declarator → Option Token
name_of (Abstract stars dims) = None
name_of (Named stars name dims) = Some name
name_of (Nested stars opening d closing dims) = name_of d

abbrev mutual
  -- expressions (6.5) -------------------------------------------------------------------------------------------------

  pub sense : Place → Expr → Sense
  sense p (Name t) = name_sense p t
  sense p (Constant t) = constant_sense p t
  sense p (Strings t ts) = strings_sense p t ts
  sense p (Paren opening e closing) = sense p e
  sense p (Postfix e suffixes) = suffixes_sense (after p e) (sense p e) suffixes
  sense p (Unary op e) = prefix_sense p (is_dereference p e) (prefix (text p op)) (sense p e)
  sense p (SizeofType keyword opening s d closing) =
      let q = after_specifiers p nothing_around s in
      let r = after_declarator q d in
      size_of r (unqualified_type (made r (derivations q d) (base_type q s)))
  sense p (Cast opening s d closing e) =
      let q = after_specifiers p nothing_around s in
      let r = after_declarator q d in
      cast_sense (unqualified_type (made r (derivations q d) (base_type q s))) (sense r e)
  sense p (Chain e operands) = operands_sense (after p e) (sense p e) operands
  sense p (Conditional test question a colon b) =
      let q = after p test in
      choice_sense (sense p test) (sense q a) (sense (after q a) b)
  sense p (Assignment a op b) = assignment_sense p (assigning (text p op)) (sense p a) (sense (after p a) b)

  -- of the operands so far and these
  pub operands_sense : Place → Sense → Operands → Sense
  operands_sense p a NoOperands = a
  operands_sense p a (Operand op e rest) =
      operands_sense (after p e) (binary_sense p (operator (text p op)) a (sense p e)) rest

  pub argument_senses : Place → Operands → List Sense
  argument_senses p NoOperands = []
  argument_senses p (Operand comma e rest) = sense p e ∷ argument_senses (after p e) rest

  -- of what is before these suffixes, and they
  pub suffixes_sense : Place → Sense → Suffixes → Sense
  suffixes_sense p a NoSuffixes = a
  suffixes_sense p a (Index opening e closing rest) = suffixes_sense (after p e) (element p a (sense p e)) rest
  suffixes_sense p a (CallEmpty opening closing rest) = suffixes_sense p (result p a []) rest
  suffixes_sense p a (Call opening e others closing rest) =
      suffixes_sense (after_operands (after p e) others)
      (result p a (sense p e ∷ argument_senses (after p e) others)) rest
  suffixes_sense p a (MemberAccess t name rest) =
      suffixes_sense p (access p (is_written p t ".") a (text p name)) rest
  suffixes_sense p a (PostIncrement t rest) = suffixes_sense p (step p a) rest

  -- declarators (6.7.5) -----------------------------------------------------------------------------------------------

  -- what a declarator says of its name, the first part first: dimensions and parameters before pointers
  pub derivations : Place → Declarator → List Derivation
  derivations p (Abstract stars dims) = dims_derivations p dims ++ pointers p stars
  derivations p (Named stars name dims) = dims_derivations p dims ++ pointers p stars
  derivations p (Nested stars opening d closing dims) =
      derivations p d ++ (dims_derivations (after_declarator p d) dims ++ pointers p stars)

  pub dims_derivations : Place → Dims → List Derivation
  dims_derivations p NoDims = []
  dims_derivations p (Open opening closing rest) = OpenArray ∷ dims_derivations p rest
  dims_derivations p (Sized opening e closing rest) =
      SizedArray (sense p e).constancy ∷ dims_derivations (after p e) rest
  dims_derivations p (Function opening params closing rest) =
      FunctionOf (signature (inside p) params)
      ∷ dims_derivations (outside p (after_params Declares (inside p) params)) rest

  -- 6.7.5.3: the types of parameters
  pub signature : Place → Params → Signature
  signature p NoParams = no_parameters
  signature p (VoidParams t) = no_parameters
  signature p (Parameters s d others) =
      let q = after_specifiers p parameter_around s in
      let r = after_declarator q d in
      let t = made r (derivations q d) (base_type q s) in
      with_first_type (name_of d) t others (more_signature (with_parameter r Declares s (name_of d) t) others)

  pub more_signature : Place → MoreParams → Signature
  more_signature p NoMore = no_parameters
  more_signature p (Ellipsis comma dots) = Some (NoParameters, true)
  more_signature p (More comma s d others) =
      let q = after_specifiers p parameter_around s in
      let r = after_declarator q d in
      let t = made r (derivations q d) (base_type q s) in
      with_next_type t (more_signature (with_parameter r Declares s (name_of d) t) others)

  -- the place after an expression, whose type names may declare -------------------------------------------------------

  pub after : Place → Expr → Place
  after p (Name t) = p
  after p (Constant t) = p
  after p (Strings t ts) = p
  after p (Paren opening e closing) = after p e
  after p (Postfix e suffixes) = after_suffixes (after p e) suffixes
  after p (Unary op e) = after p e
  after p (SizeofType keyword opening s d closing) = after_declarator (after_specifiers p nothing_around s) d
  after p (Cast opening s d closing e) = after (after_declarator (after_specifiers p nothing_around s) d) e
  after p (Chain e operands) = after_operands (after p e) operands
  after p (Conditional test question a colon b) = after (after (after p test) a) b
  after p (Assignment a op b) = after (after p a) b

  pub after_operands : Place → Operands → Place
  after_operands p NoOperands = p
  after_operands p (Operand op e rest) = after_operands (after p e) rest

  pub after_suffixes : Place → Suffixes → Place
  after_suffixes p NoSuffixes = p
  after_suffixes p (Index opening e closing rest) = after_suffixes (after p e) rest
  after_suffixes p (CallEmpty opening closing rest) = after_suffixes p rest
  after_suffixes p (Call opening e others closing rest) =
      after_suffixes (after_operands (after p e) others) rest
  after_suffixes p (MemberAccess t name rest) = after_suffixes p rest
  after_suffixes p (PostIncrement t rest) = after_suffixes p rest

  -- the place after specifiers (6.7.2) --------------------------------------------------------------------------------

  pub after_specifiers : Place → Around → Specifiers → Place
  after_specifiers p around NoSpecifiers = p
  after_specifiers p around (trees.Word t rest) = after_specifiers p around rest
  after_specifiers p around (TypedefName t rest) = after_specifiers p around rest
  after_specifiers p around (Tagged keyword tag rest) =
      after_specifiers (with_mention p around keyword tag) around rest
  after_specifiers p around (Struct keyword tag opening members closing rest) =
      let s = struct_of_body p around keyword tag in
      let q = after_members (with_struct p s keyword tag) around s members in
      after_specifiers (with_completion q s keyword tag) around rest
  after_specifiers p around (Enum keyword tag opening enumerators closing rest) =
      after_specifiers (after_enumerators (with_enum p tag) first_value enumerators) around rest

  -- 6.7.2.1: a member's name is declared after its declarator
  pub after_members : Place → Around → StructIdentity → Members → Place
  after_members p around of NoMembers = p
  after_members p around of (trees.Member s d others semicolon rest) =
      let q = after_specifiers p (member_around p around of) s in
      let r = after_declarator q d in
      let base = base_type q s in
      let first = with_member r of (name_of d) (made r (derivations q d) base) in
      after_members (after_declarators first of base others) around of rest

  pub after_declarators : Place → StructIdentity → Option Qualified → Declarators → Place
  after_declarators p of base NoDeclarators = p
  after_declarators p of base (Also comma d rest) =
      let r = after_declarator p d in
      after_declarators (with_member r of (name_of d) (made r (derivations p d) base)) of base rest

  -- 6.7.2.2: an enumeration constant is declared after its value
  pub after_enumerators : Place → Constancy → Enumerators → Place
  after_enumerators p v (LastOne name comma) = with_enumerator p name v
  after_enumerators p v (LastValued name equals e comma) = with_enumerator (after p e) name (sense p e).constancy
  after_enumerators p v (One name comma rest) = after_enumerators (with_enumerator p name v) (next_value v) rest
  after_enumerators p v (Valued name equals e comma rest) =
      let v = (sense p e).constancy in
      after_enumerators (with_enumerator (after p e) name v) (next_value v) rest

  -- the place after a declarator, before its name is declared (6.7.5) -------------------------------------------------

  pub after_declarator : Place → Declarator → Place
  after_declarator p (Abstract stars dims) = after_dims p dims
  after_declarator p (Named stars name dims) = after_dims p dims
  after_declarator p (Nested stars opening d closing dims) = after_dims (after_declarator p d) dims

  pub after_dims : Place → Dims → Place
  after_dims p NoDims = p
  after_dims p (Open opening closing rest) = after_dims p rest
  after_dims p (Sized opening e closing rest) = after_dims (after p e) rest
  -- 6.2.1: the scope of a prototype ends with it
  after_dims p (Function opening params closing rest) =
      after_dims (outside p (after_params Declares (inside p) params)) rest

  -- 6.7.5.3: the parameters of a declaration or of a definition
  pub after_params : Defining → Place → Params → Place
  after_params defining p NoParams = p
  after_params defining p (VoidParams t) = p
  after_params defining p (Parameters s d others) =
      let q = after_specifiers p parameter_around s in
      let r = after_declarator q d in
      let t = made r (derivations q d) (base_type q s) in
      after_more_params defining (with_parameter r defining s (name_of d) t) others

  pub after_more_params : Defining → Place → MoreParams → Place
  after_more_params defining p NoMore = p
  after_more_params defining p (Ellipsis comma dots) = p
  after_more_params defining p (More comma s d others) =
      let q = after_specifiers p parameter_around s in
      let r = after_declarator q d in
      let t = made r (derivations q d) (base_type q s) in
      after_more_params defining (with_parameter r defining s (name_of d) t) others
