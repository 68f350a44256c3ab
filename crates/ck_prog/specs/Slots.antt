-- Slots: the places that hold function pointers. There is one for each variable, each member of a struct, each
-- parameter of a function with a body and the result of each such function whose type is a function pointer or an
-- array of function pointers; an array has one.
use Rattle.std.specs.Prelude.{ℕ, Bool, true, false, ◌&&◌, ◌||◌, ◌==◌, nat_lt, List, [], ◌∷◌, count_by}
use Rattle.std.specs.Prelude.{Option, Some, None, if◌then◌else◌}
use Rattle.std.specs.List.{list_any}
use Rattle.std.specs.Option.{is_some}
use Rattle.std.specs.Str.{bytes_eq}
use Rattle.ck_base.specs.declared.tokens.Token.{Token}
use Rattle.ck_types.specs.Types.{StructIdentity, CType, Function, same_struct}
use Rattle.ck_prog.specs.Declarations.{Entry, Meaning, Variable, FunctionNamed, Member}
use Rattle.ck_prog.specs.Linking.{are_one, unqualified_type}
use Rattle.ck_prog.specs.Projects.{same_token}
use Rattle.ck_prog.specs.TypeClasses.{is_function_pointer, holds_function_pointers}
use Rattle.ck_prog.specs.declared.names.Defining.TheVariants.{Declares, Defines}
use Rattle.ck_prog.specs.declared.names.Linkage.TheVariants.{NoLinkage}

-- what a slot is of. The name that first declares it is that of the variable or the member in the first file that
-- declares it; for a parameter its name in the definition, and for a result its function's name there.
pub data SlotOf : Type 0 where
  -- a variable, or a parameter of a function with a body
  OfVariable : SlotOf
  OfMember : StructIdentity → SlotOf
  OfResult : SlotOf

pub record Slot : Type 0 where
  pub of : SlotOf
  -- the name that first declares it
  pub at : Token

abbrev pub holds : Option CType → Bool
holds None = false
holds (Some t) = holds_function_pointers t

abbrev pub gives_function_pointer : Option CType → Bool
gives_function_pointer (Some (Function q t ps more)) = is_function_pointer t
gives_function_pointer _ = false

-- what declares a slot: a prototype's parameter is no variable
abbrev pub slot_of : Meaning → Option SlotOf
slot_of (Variable t NoLinkage Declares s) = None
slot_of (Variable t l d s) = if holds (unqualified_type t) then Some OfVariable else None
slot_of (Member m) = if holds (unqualified_type m.type) then Some (OfMember m.of) else None
slot_of (FunctionNamed t l Defines) = if gives_function_pointer t then Some OfResult else None
slot_of _ = None

-- an earlier declaration of one variable or member: a prototype's parameter, which may be that of the definition, is
-- none
abbrev pub is_of_member : StructIdentity → Meaning → Bool
is_of_member s (Member m) = same_struct s m.of
is_of_member s _ = false

abbrev pub declares_too : Entry → SlotOf → Entry → Bool
declares_too e OfVariable d = are_one e d || same_token e.at d.at
declares_too e (OfMember s) d = bytes_eq e.name d.name && is_of_member s d.meaning
declares_too e OfResult d = false

abbrev pub slot_if_first : Entry → List Entry → Option SlotOf → List Slot → List Slot
slot_if_first e before None more = more
slot_if_first e before (Some of) more =
    if list_any (λ d. is_some (slot_of d.meaning) && declares_too e of d) before then more
    else record { of = of; at = e.at } ∷ more

-- all slots of these declarations
abbrev pub slots : List Entry → List Slot
slots [] = []
slots (e ∷ before) = slot_if_first e before (slot_of e.meaning) (slots before)

-- numbers: by the file and the offset of the name that first declares a slot
abbrev pub is_earlier : Slot → Slot → Bool
is_earlier s t =
    nat_lt s.at.span.file t.at.span.file
    || (s.at.span.file == t.at.span.file && nat_lt s.at.span.start t.at.span.start)

abbrev pub slot_number : List Slot → Slot → ℕ
slot_number all s = count_by (λ t. is_earlier t s) all

-- which slot a declaration means -------------------------------------------------------------------------------------

abbrev pub or_else : Option Entry → Option Entry → Option Entry
or_else None other = other
or_else (Some e) other = Some e

abbrev pub slot_of_entry : Option Entry → Option SlotOf
slot_of_entry None = None
slot_of_entry (Some e) = slot_of e.meaning

-- the earliest declaration of a thing
abbrev pub earliest : (Entry → Bool) → List Entry → Option Entry
earliest test [] = None
earliest test (e ∷ before) = or_else (earliest test before) (if test e then Some e else None)

abbrev pub slot_at : Option SlotOf → Option Entry → Option Slot
slot_at (Some of) (Some e) = Some (record { of = of; at = e.at })
slot_at _ _ = None

-- the slot of a variable, where `all` are the declarations of the project
abbrev pub slot_of_variable : List Entry → Entry → Option Slot
slot_of_variable all e = slot_at (slot_of e.meaning) (earliest (λ d. are_one e d || same_token e.at d.at) all)

abbrev pub is_of_result : Option SlotOf → Bool
is_of_result (Some OfResult) = true
is_of_result _ = false

-- the slot of a function's result is that of its definition, whichever declaration of it is in sight
abbrev pub slot_of_result : List Entry → Entry → Option Slot
slot_of_result all e =
    slot_at (Some OfResult) (earliest (λ d. are_one e d && is_of_result (slot_of d.meaning)) all)

abbrev pub slot_of_name : List Entry → Entry → Meaning → Option Slot
slot_of_name all e (FunctionNamed t l d) = slot_of_result all e
slot_of_name all e _ = slot_of_variable all e

-- the slot of a member
abbrev pub slot_of_member : List Entry → StructIdentity → List ℕ → Option Slot
slot_of_member all s name =
    let first = earliest (λ d. bytes_eq name d.name && is_of_member s d.meaning) all in
    slot_at (slot_of_entry first) first
