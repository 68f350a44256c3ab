-- What is refused of a type, an initialiser, a declared name, a controlling expression, a label or a jump: U8 to U11,
-- U14, U16, U19 and U26 (C99 6.7, 6.8).
use Rattle.std.specs.Prelude.{ℕ, ◌-◌, ◌==◌, Bool, true, false, ◌&&◌, ◌||◌, not, nat_le, nat_lt, List}
use Rattle.std.specs.Prelude.{Option, Some, None, if◌then◌else◌}
use Rattle.std.specs.List.{list_any}
use Rattle.std.specs.Option.{is_some}
use Rattle.std.specs.Ordering.{int_eq}
use Rattle.std.specs.Str.{bytes_eq}
use Rattle.ck_types.specs.IntegerTypes.{represents}
use Rattle.ck_types.specs.Types.{CType, Array}
use Rattle.ck_types.specs.declared.integer_types.IntegerType.TheVariants.{Int}
use Rattle.ck_prog.specs.AssignmentSenses.{is_assignable}
use Rattle.ck_prog.specs.CurrentObjects.{Object, is_for_string}
use Rattle.ck_prog.specs.Declarations.{Entry, Meaning, Variable, is_file_scope}
use Rattle.ck_prog.specs.DeclarationRefusals.{is_enum_tag, is_label}
use Rattle.ck_prog.specs.Derivations.{element_count}
use Rattle.ck_prog.specs.Linking.{is_linked, linkage_of}
use Rattle.ck_prog.specs.Projects.{Told, outermost, of_one_function}
use Rattle.ck_prog.specs.Senses.{Constancy, Known, Sense, value_type, is_fixed_value}
use Rattle.ck_prog.specs.Sights.{LabelOfSwitch, CaseLabel, DefaultLabel, is_status_call}
use Rattle.ck_prog.specs.TypeClasses.{Qualified, is_integer, is_scalar, is_void}
use Rattle.ck_prog.specs.TypedBodies.{InitialiserFacts, DeclaredFacts, TypedInitialiser, Value, Braces}
use Rattle.ck_prog.specs.TypedTrees.{Facts, DeclaratorFacts, Owner, OfMember, OfParameter}
use Rattle.ck_prog.specs.declared.names.Defining.TheVariants.{Tentative, Defines}
use Rattle.ck_prog.specs.declared.names.Linkage.TheVariants.{Internal}

-- types (6.7.2, 6.7.5) -----------------------------------------------------------------------------------------------

-- U8: `enum` and a tag without a body that isn't in sight (6.7.2.3)
abbrev pub is_unknown_enum : Bool → Option Entry → Bool
is_unknown_enum struct e = not struct && not (is_some e)

-- U10: a tag of the other kind
abbrev pub is_other_kind : Bool → Option Entry → Bool
is_other_kind struct None = false
is_other_kind struct (Some e) = if struct then is_enum_tag e.meaning else not (is_enum_tag e.meaning)

-- U11: an enumeration constant that is no constant in the range of `int`
abbrev pub is_no_enumerator : Constancy → Bool
is_no_enumerator (Known v) = not (represents Int v)
is_no_enumerator _ = true

-- U11: a size that is no constant from 1 to the most, or makes the array too large
abbrev pub is_no_size : Facts → Bool → Bool
is_no_size f large = not (is_some (element_count f.sense.constancy)) || large

-- U14: an impossible type; a member or a definition's parameter of an incomplete type; a parameter of type `void`
abbrev pub is_void_type : Option Qualified → Bool
is_void_type None = false
is_void_type (Some t) = is_void t.type

abbrev pub needs_complete : DeclaratorFacts → Owner → Bool
needs_complete f OfMember = not f.complete
needs_complete f (OfParameter Defines) = not f.complete
needs_complete f (OfParameter _) = is_void_type f.type
needs_complete f _ = false

abbrev pub is_no_declarator : DeclaratorFacts → Bool
is_no_declarator f = f.impossible || (is_some f.type && needs_complete f f.owner)

-- initialisers (6.7.8) -----------------------------------------------------------------------------------------------

-- U14: a string that has room in an array of characters, maybe without its last character
abbrev pub elements_in : Option CType → Option ℕ
elements_in (Some (Array q t n)) = n
elements_in _ = None

abbrev pub has_room : Option ℕ → Option ℕ → Bool
has_room (Some room) (Some n) = nat_le (n - 1) room
has_room _ _ = true

abbrev pub is_for_type : Sense → Option CType → Bool
is_for_type s None = true
is_for_type s (Some t) = is_assignable t s

abbrev pub is_initial_value : Sense → Bool → Option CType → Bool
is_initial_value s string t =
    if string && is_for_string t then has_room (elements_in t) (elements_in s.type) else is_for_type s t

abbrev pub is_wrong_for : Option Object → Sense → Bool → Bool
is_wrong_for None s string = true
is_wrong_for (Some o) s string = not (is_initial_value s string o.type)

-- U14: a value for no part, or that its part doesn't take
abbrev pub is_wrong_value : InitialiserFacts → Facts → Bool → Bool
is_wrong_value i f string = is_some f.sense.type && is_wrong_for i.object f.sense string

-- U11: an initialiser of an object of static storage duration that is neither a constant nor an address
abbrev pub is_no_static_value : InitialiserFacts → Facts → Bool
is_no_static_value i f = i.static && not (is_fixed_value f.sense)

-- U11: an index of an array that names no element
abbrev pub is_no_element : Bool → Bool → Bool
is_no_element of_array found = of_array && not found

-- declared names (6.7, 6.9) ------------------------------------------------------------------------------------------

abbrev pub is_open : CType → Bool
is_open (Array q t None) = true
is_open _ = false

abbrev pub is_open_array : Option Qualified → Bool
is_open_array None = false
is_open_array (Some t) = is_open t.type

-- U11: an array that its initialiser doesn't size, or makes too large; 6.9.2: of a `static` one also a tentative
-- definition
abbrev pub is_unsized : Meaning → Bool
is_unsized (Variable t l Defines s) = is_open_array t
is_unsized (Variable t Internal Tentative s) = is_open_array t
is_unsized _ = false

-- U14: a definition of an object of an incomplete type; 6.9.2: of a `static` one also a tentative definition
abbrev pub is_incomplete_object : DeclaredFacts → Meaning → Bool
is_incomplete_object f (Variable t l Defines s) = is_some t && not f.complete
is_incomplete_object f (Variable t Internal Tentative s) = is_some t && not f.complete
is_incomplete_object f _ = false

-- U14, 6.7.8: an initialiser of a name of block scope with linkage
abbrev pub is_initialised_in_block : Entry → Option TypedInitialiser → Bool
is_initialised_in_block e i = is_some i && not (is_file_scope e.scope) && is_linked (linkage_of e.meaning)

-- U26: the second status variable of a function, or an initialiser other than the call that gives the status
abbrev pub is_earlier_in_function : Entry → Entry → Bool
is_earlier_in_function e d = of_one_function e d && nat_lt d.at.span.start e.at.span.start

abbrev pub gives_status : Option TypedInitialiser → Bool
gives_status None = true
gives_status (Some (Value f x)) = is_status_call x
gives_status (Some (Braces f is)) = false

abbrev pub is_wrong_status : Told → DeclaredFacts → Option TypedInitialiser → Bool
is_wrong_status k f i = f.status && (list_any (is_earlier_in_function f.entry) k.statuses || not (gives_status i))

-- controlling expressions and results (6.8.4, 6.8.5, 6.8.6.4) --------------------------------------------------------

abbrev pub has_other_type : (CType → Bool) → Option CType → Bool
has_other_type test None = false
has_other_type test (Some t) = not (test t)

-- U14: a test that is no scalar; a `switch` on what is no integer; a result that can't be converted to the function's
abbrev pub is_no_test : Facts → Bool
is_no_test f = has_other_type is_scalar (value_type f.sense)

abbrev pub is_no_switch : Facts → Bool
is_no_switch f = has_other_type is_integer (value_type f.sense)

abbrev pub is_wrong_result : Option CType → Facts → Bool
is_wrong_result result f = is_some f.sense.type && not (is_for_type f.sense result)

-- labels and jumps (6.8.1, 6.8.4.2, 6.8.6) ---------------------------------------------------------------------------

-- U9: a value that the `switch` has before, or a second `default`
abbrev pub same_label : LabelOfSwitch → LabelOfSwitch → Bool
same_label (CaseLabel (Some v)) (CaseLabel (Some w)) = int_eq v w
same_label DefaultLabel DefaultLabel = true
same_label _ _ = false

-- U19: the label is in the function whose parameters have this scope
abbrev pub is_label_of : ℕ → List ℕ → List ℕ → Entry → Bool
is_label_of file scope name e =
    is_label e.meaning && e.file == file && bytes_eq (outermost e.scope) (outermost scope) && bytes_eq e.name name
