-- What a type is made of, one level deep (C99 6.2.5), and what stays when a table of types grows.
use Rattle.std.specs.Prelude.{◌≡◌, ◌⊎◌, ℕ, Bool, true, List, Option, Some, None}
use Rattle.ck_prog.specs.Declarations.{Layout}
use Rattle.ck_prog.specs.TypeClasses.{Qualified}
use Rattle.ck_conversions.specs.declared.parts.Signature.{Signature}
use Rattle.ck_types.specs.TypeTable.{Entry, KeepsLists, KeepsTypes, Extends, entries_of, list_at}
use Rattle.ck_types.specs.TypeTable.{names_list, names_type, type_at}
use Rattle.ck_types.specs.Types.{CType, Integer, Pointer, Struct, Function, Parameters, StructIdentity}
use Rattle.ck_types.specs.declared.integer_types.IntegerType.{IntegerType}
use Rattle.ck_types.specs.declared.types.Node.{Node}
use Rattle.ck_types.specs.declared.types.StructId.{StructId}
use Rattle.ck_types.specs.declared.types.TypeId.{TypeId}

-- the type that a number stands for, where numbers of structs name these
abbrev pub type_in : (ℕ → StructIdentity) → List Node → TypeId → CType
type_in identity ns id = type_at (entries_of identity ns) id.0

abbrev pub integer_in : CType → Option IntegerType
integer_in (Integer t) = Some t
integer_in _ = None

-- what a pointer points to, with its qualifiers
abbrev pub pointed : CType → Option Qualified
pointed (Pointer q t) = Some (record { qualifiers = q; type = t })
pointed _ = None

abbrev pub struct_in : CType → Option StructIdentity
struct_in (Struct s) = Some s
struct_in _ = None

abbrev pub identity_of : (ℕ → StructIdentity) → Option StructId → Option StructIdentity
identity_of identity None = None
identity_of identity (Some s) = Some (identity s.0)

-- what a function's type says of calls
pub record PlainSignature : Type 0 where
  pub result : CType
  pub parameters : Parameters
  pub variadic : Bool

abbrev pub signature_in : CType → Option PlainSignature
signature_in (Function q t ps more) = Some (record { result = t; parameters = ps; variadic = more })
signature_in _ = None

abbrev pub plain_signature : List Entry → Option Signature → Option PlainSignature
plain_signature es None = None
plain_signature es (Some s) =
    Some (record { result = type_at es s.result.0; parameters = list_at es s.parameters.0; variadic = s.variadic })

-- its result is a type of the table, and its parameters are a list of it
pub record NamesSignature (ns : List Node) (s : Signature) : Type 0 where
  pub result : names_type ns s.result.0 ≡ true
  pub parameters : names_list ns s.parameters.0 ≡ true

-- 6.3.2.1: the pointer that a value is, where there is one, else a value of the type
abbrev pub value_by : Option Qualified → CType → CType
value_by None t = t
value_by (Some q) t = Pointer q.qualifiers q.type

-- 6.5.3.4: the size of a layout, where there is one
abbrev pub bytes_of : Option Layout → Option ℕ
bytes_of None = None
bytes_of (Some l) = Some l.size

-- a type of the table, where this one is
abbrev pub IsNamedOr : List Node → TypeId → TypeId → Type 0
IsNamedOr ns id other = (other ≡ id) ⊎ (names_type ns other.0 ≡ true)

-- A table has grown at its end, or not at all: what its numbers named they name, and they stand for what they did.
pub record Grown (old new : List Node) : Type 0 where
  pub kept : Extends old new
  pub types : KeepsTypes old new
  pub lists : KeepsLists old new
  pub same :
      (identity : ℕ → StructIdentity) (i : ℕ) → names_type old i ≡ true
      → type_at (entries_of identity new) i ≡ type_at (entries_of identity old) i
