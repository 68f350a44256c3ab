-- The common type of two types of a table, which may be a new one (C99 6.5.15).
use Rattle.std.specs.Prelude.{◌≡◌, ◌&&◌, ◌||◌, ℕ, Bool, List, Option, Some, None, if◌then◌else◌}
use Rattle.ck_compatible.specs.Compatible.{IsOneToOne}
use Rattle.ck_conversions.specs.Parts.{type_in}
use Rattle.ck_prog.specs.AssignmentSenses as assignments
use Rattle.ck_prog.specs.BinarySenses.{are_void_and_object}
use Rattle.ck_prog.specs.TypeClasses.{is_pointer, is_same_struct, is_void}
use Rattle.ck_types.specs.IntegerTypes.{common}
use Rattle.ck_types.specs.Types.{CType, Void, Integer, StructIdentity, compatible, composite}
use Rattle.ck_types.specs.declared.integer_types.IntegerType.{IntegerType}
use Rattle.ck_types.specs.declared.types.Node.{Node}
use Rattle.ck_types.specs.declared.types.TypeId.{TypeId}

-- the type that a number stands for, where there is one
abbrev pub type_if : (ℕ → StructIdentity) → List Node → Option TypeId → Option CType
type_if identity ns None = None
type_if identity ns (Some id) = Some (type_in identity ns id)

-- what was found stands for what is made of the plain types that two numbers stood for
abbrev pub IsCommon : List Node → List Node → (CType → CType → Option CType) → TypeId → TypeId → Option TypeId → Type 0
IsCommon old new make a b found =
    (identity : ℕ → StructIdentity) → IsOneToOne identity
    → type_if identity new found ≡ make (type_in identity old a) (type_in identity old b)

-- The parts of `common_type` of ck_prog, of which private contracts alone speak.
abbrev pub common_integer : CType → CType → Option IntegerType
common_integer (Integer t) (Integer u) = Some (common t u)
common_integer _ _ = None

abbrev pub are_void_or_one : CType → CType → Bool
are_void_or_one t u = (is_void t && is_void u) || is_same_struct t u

abbrev pub common_other : Bool → Bool → CType → CType → Option CType
common_other a_null b_null t u =
    if are_void_or_one t u then Some t
    else if is_pointer t && b_null then Some t
    else if is_pointer u && a_null then Some u
    else assignments.common_pointer t u

abbrev pub composite_type : CType → CType → Option CType
composite_type t u = if compatible t u then Some (composite t u) else None

abbrev pub common_target : CType → CType → Option CType
common_target t u =
    if compatible t u then Some (composite t u)
    else if are_void_and_object t u then Some Void
    else None
