-- What the names in a project's settings name: the functions of vectors, the structs and members of callbacks.
use Rattle.std.specs.Prelude.{ℕ, suc, Bool, true, false, ◌&&◌, not, List, [], ◌∷◌, Option, Some, None}
use Rattle.std.specs.Prelude.{if◌then◌else◌}
use Rattle.std.specs.Option.{is_some}
use Rattle.std.specs.Str.{bytes_eq}
use Rattle.ck_types.specs.Types.{StructIdentity, CType, Struct, same_struct}
use Rattle.ck_prog.specs.Acts.{is_body}
use Rattle.ck_prog.specs.Declarations.{Entry, Meaning, StructTag, TypeNamed, Member, is_file_scope}
use Rattle.ck_prog.specs.Linking.{is_external, linkage_of}
use Rattle.ck_prog.specs.Slots.{Slot, earliest, or_else, slot_of_member}
use Rattle.ck_prog.specs.TypeClasses.{Qualified, is_function_pointer}

-- vectors: a function with external linkage and a body ---------------------------------------------------------------

abbrev pub is_handler : List ℕ → Entry → Bool
is_handler name e = bytes_eq e.name name && is_body e.meaning && is_external (linkage_of e.meaning)

abbrev pub handler : List Entry → List ℕ → Option Entry
handler all name = earliest (is_handler name) all

-- callbacks: the struct with this tag at file scope, else that of the first such typedef name, else that of the first
-- such
-- tag of a block -----------------------------------------------------------------------------------------------------

abbrev pub struct_in_type : CType → Option StructIdentity
struct_in_type (Struct s) = Some s
struct_in_type _ = None

abbrev pub struct_of : Meaning → Option StructIdentity
struct_of (StructTag s) = Some s
struct_of (TypeNamed (Some t)) = struct_in_type t.type
struct_of _ = None

abbrev pub is_struct_tag : Meaning → Bool
is_struct_tag (StructTag s) = true
is_struct_tag _ = false

abbrev pub is_tag_in_file : List ℕ → Entry → Bool
is_tag_in_file name e = bytes_eq e.name name && is_struct_tag e.meaning && is_file_scope e.scope

abbrev pub is_typedef_of_struct : List ℕ → Entry → Bool
is_typedef_of_struct name e = bytes_eq e.name name && not (is_struct_tag e.meaning) && is_some (struct_of e.meaning)

abbrev pub is_tag_in_block : List ℕ → Entry → Bool
is_tag_in_block name e = bytes_eq e.name name && is_struct_tag e.meaning && not (is_file_scope e.scope)

abbrev pub struct_entry : List Entry → List ℕ → Option Entry
struct_entry all name =
    or_else (earliest (is_tag_in_file name) all)
    (or_else (earliest (is_typedef_of_struct name) all) (earliest (is_tag_in_block name) all))

abbrev pub struct_of_entry : Option Entry → Option StructIdentity
struct_of_entry None = None
struct_of_entry (Some e) = struct_of e.meaning

abbrev pub struct_named : List Entry → List ℕ → Option StructIdentity
struct_named all name = struct_of_entry (struct_entry all name)

abbrev pub is_function_pointer_type : Option Qualified → Bool
is_function_pointer_type None = false
is_function_pointer_type (Some t) = is_function_pointer t.type

-- its member, which is a function pointer and no array of them
abbrev pub is_pointer_member : StructIdentity → Meaning → Bool
is_pointer_member s (Member m) = same_struct s m.of && is_function_pointer_type m.type
is_pointer_member s _ = false

abbrev pub callback_member : List Entry → StructIdentity → List ℕ → Option Entry
callback_member all s name = earliest (λ e. bytes_eq e.name name && is_pointer_member s e.meaning) all

abbrev pub slot_in : Option StructIdentity → List Entry → List ℕ → Option Slot
slot_in None all member = None
slot_in (Some s) all member = slot_of_member all s member

-- the slot of a callback
abbrev pub callback_slot : List Entry → List ℕ → List ℕ → Option Slot
callback_slot all of member = slot_in (struct_named all of) all member

-- the first name that names nothing ----------------------------------------------------------------------------------

-- at an element of the settings' lists, counted from 0: the function of a vector, the struct or the member of a
-- callback
pub data NamesNothing : Type 0 where
  VectorFunction : ℕ → NamesNothing
  CallbackStruct : ℕ → NamesNothing
  CallbackMember : ℕ → NamesNothing

abbrev pub in_callback : List Entry → ℕ → Option StructIdentity → List ℕ → Option NamesNothing
in_callback all k None member = Some (CallbackStruct k)
in_callback all k (Some s) member = if is_some (callback_member all s member) then None else Some (CallbackMember k)

abbrev pub or_next : Option NamesNothing → Option NamesNothing → Option NamesNothing
or_next None next = next
or_next (Some fault) next = Some fault

-- from the callback of this number on, each with its struct's name and its member's
abbrev pub in_callbacks : List Entry → ℕ → List (List ℕ × List ℕ) → Option NamesNothing
in_callbacks all k [] = None
in_callbacks all k (c ∷ cs) = or_next (in_callback all k (struct_named all c.0) c.1) (in_callbacks all (suc k) cs)

abbrev pub in_vectors : List Entry → ℕ → List (List ℕ) → Option NamesNothing
in_vectors all k [] = None
in_vectors all k (name ∷ names) =
    or_next (if is_some (handler all name) then None else Some (VectorFunction k)) (in_vectors all (suc k) names)

-- vectors come before callbacks
abbrev pub names_nothing : List Entry → List (List ℕ) → List (List ℕ × List ℕ) → Option NamesNothing
names_nothing all vectors callbacks = or_next (in_vectors all 0 vectors) (in_callbacks all 0 callbacks)
