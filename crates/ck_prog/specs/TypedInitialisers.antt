-- The typed tree of an initialiser at a place, its parts, and the size that it gives an array (C99 6.7.8).
use Rattle.std.specs.Prelude.{ℕ, suc, max, Bool, true, false, ◌&&◌, not, List, [], ◌∷◌, ◌++◌, Option, Some, None}
use Rattle.std.specs.Prelude.{if◌then◌else◌}
use Rattle.std.specs.Option.{is_some}
use Rattle.ck_base.specs.declared.tokens.Token.{Token}
use Rattle.ck_grammar.specs.Statements as tree
use Rattle.ck_grammar.specs.Statements.{Designators, Init, Inits, Equals, DotName, AtIndex, LastInit, NextInit}
use Rattle.ck_types.specs.Types.{CType, Array, Struct}
use Rattle.ck_prog.specs.CurrentObjects.{Object, Open, PartsOf, WholeOf, whole_object, next_object, past, down_to}
use Rattle.ck_prog.specs.CurrentObjects.{is_string, is_for_string, designated, opened_at, member_in_object}
use Rattle.ck_prog.specs.CurrentObjects.{element_in_object, is_array_or_missing}
use Rattle.ck_prog.specs.Declarations.{Place, text}
use Rattle.ck_prog.specs.TypedBodies.{InitialiserFacts, TypedInitialiser, TypedInitialisers, TypedDesignators, Value}
use Rattle.ck_prog.specs.TypedBodies.{Braces, NoInitialisers, Initialiser, NoDesignators, ToMember, ToElement}
use Rattle.ck_prog.specs.TypedExpressions.{typed_expression}
use Rattle.ck_prog.specs.TypedTrees.{Typed, facts}
use Rattle.ck_prog.specs.Typing.{sense, after}
use Rattle.ck_prog.specs.declared.operators.Role.TheVariants.{Value as AsValue}

-- the place after ----------------------------------------------------------------------------------------------------

abbrev pub after_designators : Place → Designators → Place
after_designators p (Equals equals) = p
after_designators p (DotName dot name rest) = after_designators p rest
after_designators p (AtIndex opening e closing rest) = after_designators (after p e) rest

abbrev pub after_designation : Place → Option Designators → Place
after_designation p None = p
after_designation p (Some ds) = after_designators p ds

abbrev mutual
  pub after_initialiser : Place → Init → Place
  after_initialiser p (tree.Value e) = after p e
  after_initialiser p (tree.Braced opening is closing) = after_initialisers p is

  pub after_initialisers : Place → Inits → Place
  after_initialisers p (LastInit ds i comma) = after_initialiser (after_designation p ds) i
  after_initialisers p (NextInit ds i comma rest) =
      after_initialisers (after_initialiser (after_designation p ds) i) rest

-- what is open -------------------------------------------------------------------------------------------------------

-- 6.7.8: the braces hold a string alone
abbrev pub is_only_string : Inits → Bool
is_only_string (LastInit None (tree.Value e) comma) = is_string e
is_only_string _ = false

abbrev pub is_aggregate : Option CType → Bool
is_aggregate (Some (Array q t n)) = true
is_aggregate (Some (Struct s)) = true
is_aggregate _ = false

-- 6.7.8: in braces are the initialisers of the parts of an array or struct; but a scalar, or an array of characters
-- that a string initialises, may have braces round its one initialiser
abbrev pub opened_by : Bool → Option Object → List Open
opened_by only_string None = []
opened_by only_string (Some o) =
    if is_aggregate o.type && not (only_string && is_for_string o.type) then PartsOf o 0 ∷ [] else WholeOf o 0 ∷ []

-- what is open for an initialiser: what its designators name, in the object of the braces, else what is next; and
-- where it is an expression, its first part that the expression is for
abbrev pub opened_for : Place → Option Object → List Open → Option Designators → List Open
opened_for p o os None = os
opened_for p o os (Some ds) = designated p o [] ds

abbrev pub narrowed : Place → Init → List Open → List Open
narrowed p (tree.Value e) os = down_to p e os
narrowed p (tree.Braced opening is closing) os = os

-- designators --------------------------------------------------------------------------------------------------------

abbrev pub is_array_object : Option Object → Bool
is_array_object None = true
is_array_object (Some o) = is_array_or_missing o.type

-- the designators from here on, in this object, where the ones before opened these
abbrev pub typed_designators : Place → Option Object → List Open → Designators → TypedDesignators
typed_designators p o os (Equals equals) = NoDesignators
typed_designators p o os (DotName dot name rest) =
    let inner = opened_at o (member_in_object p o (text p name)) os in
    ToMember dot (is_some (next_object p inner)) (typed_designators p (next_object p inner) inner rest)
typed_designators p o os (AtIndex opening e closing rest) =
    let inner = opened_at o (element_in_object p o (sense p e).constancy) os in
    ToElement opening (is_array_object o) (typed_expression p AsValue e) (is_some (next_object p inner))
    (typed_designators (after p e) (next_object p inner) inner rest)

abbrev pub typed_designation : Place → Option Object → Option Designators → TypedDesignators
typed_designation p o None = NoDesignators
typed_designation p o (Some ds) = typed_designators p o [] ds

-- initialisers -------------------------------------------------------------------------------------------------------

abbrev pub facts_for : Bool → Option Object → Token → InitialiserFacts
facts_for static o first = record { object = o; first = first; static = static }

abbrev mutual
  -- for an object, or for no object, of static storage duration or not
  pub typed_initialiser : Place → Bool → Option Object → Init → TypedInitialiser
  typed_initialiser p static o (tree.Value e) =
      let x = typed_expression p AsValue e in Value (facts_for static o (facts x).first) x
  typed_initialiser p static o (tree.Braced opening is closing) =
      Braces (facts_for static o opening) (typed_initialisers p static o (opened_by (is_only_string is) o) is)

  -- in the braces of an object, where so much of it is open
  pub typed_initialisers : Place → Bool → Option Object → List Open → Inits → TypedInitialisers
  typed_initialisers p static o os (LastInit ds i comma) =
      let q = after_designation p ds in
      let here = narrowed q i (opened_for p o os ds) in
      Initialiser (typed_designation p o ds) (typed_initialiser q static (next_object q here) i) NoInitialisers
  typed_initialisers p static o os (NextInit ds i comma rest) =
      let q = after_designation p ds in
      let here = narrowed q i (opened_for p o os ds) in
      Initialiser (typed_designation p o ds) (typed_initialiser q static (next_object q here) i)
      (typed_initialisers (after_initialiser q i) static o (past q here) rest)

-- of a whole object
abbrev pub typed_whole : Place → Bool → Option CType → Init → TypedInitialiser
typed_whole p static t i = typed_initialiser p static (Some (whole_object t)) i

-- parts --------------------------------------------------------------------------------------------------------------

-- the object or part that an expression initialises; where braces for it begin there is no expression, and all of it is
-- zero
pub record InitialisedPart : Type 0 where
  pub object : Object
  pub value : Option Typed

abbrev pub part_of : Option Object → Option Typed → List InitialisedPart
part_of None x = []
part_of (Some o) x = record { object = o; value = x } ∷ []

-- 6.7.8: in written order, so that a later one replaces an earlier one of the same object or of a part of it
abbrev mutual
  pub parts : TypedInitialiser → List InitialisedPart
  parts (Value f x) = part_of f.object (Some x)
  parts (Braces f is) = part_of f.object None ++ parts_of is

  pub parts_of : TypedInitialisers → List InitialisedPart
  parts_of NoInitialisers = []
  parts_of (Initialiser ds i rest) = parts i ++ parts_of rest

-- how many elements of the whole object a part needs: up to its own, or as many as a string has
abbrev pub elements_of : Option CType → Option ℕ
elements_of (Some (Array q t n)) = n
elements_of _ = None

abbrev pub type_of_value : Option Typed → Option CType
type_of_value None = None
type_of_value (Some x) = (facts x).sense.type

abbrev pub elements_needed : List ℕ → Option CType → Option ℕ
elements_needed [] value = elements_of value
elements_needed (k ∷ ks) value = Some (suc k)

abbrev pub greater : Option ℕ → Option ℕ → Option ℕ
greater None m = m
greater (Some n) None = Some n
greater (Some n) (Some m) = Some (max n m)

-- 6.7.8: the size of an array of unknown size is determined by the largest indexed element with an initialiser
abbrev pub size_needed : List InitialisedPart → Option ℕ
size_needed [] = None
size_needed (i ∷ is) = greater (elements_needed i.object.path (type_of_value i.value)) (size_needed is)

abbrev pub size_given : TypedInitialiser → Option ℕ
size_given i = size_needed (parts i)
