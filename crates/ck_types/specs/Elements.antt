-- The elements of arrays through all dimensions (C99 6.5.2.1, 6.7.5.2).
use Rattle.std.specs.Prelude.{◌≡◌, ℕ, ◌-◌, ◌*◌, ◌^◌, min, List, Option, Some, None}
use Rattle.std.specs.Option.{option_map}
use Rattle.ck_types.specs.TypeTable.{entries_of, type_at}
use Rattle.ck_types.specs.Types.{CType, Array, StructIdentity}
use Rattle.ck_types.specs.declared.types.CType.{CType as TypeNode}
use Rattle.ck_types.specs.declared.types.CType.TheVariants as types
use Rattle.ck_types.specs.declared.types.Node.{Node}
use Rattle.ck_types.specs.declared.types.TypeId.{TypeId}

-- the type of the elements; another type is its own
abbrev pub element_type : CType → CType
element_type (Array q t n) = element_type t
element_type t = t

abbrev pub times : Option ℕ → Option ℕ → Option ℕ
times (Some n) (Some m) = Some (n * m)
times _ _ = None

-- how many elements there are, where all sizes are known; another type has 1
abbrev pub element_count : CType → Option ℕ
element_count (Array q t n) = times n (element_count t)
element_count t = Some 1

abbrev pub array_parts : TypeNode → Option (TypeId × Option ℕ)
array_parts (types.Array q of count) = Some (of, count)
array_parts _ = None

-- a number of 64 bits, the greatest where it would be past it
abbrev pub saturated : ℕ → ℕ
saturated n = min n (2 ^ 64 - 1)

abbrev pub IsElementOf : List Node → ℕ → ℕ → Type 0
IsElementOf ns id element =
    (identity : ℕ → StructIdentity)
    → type_at (entries_of identity ns) element ≡ element_type (type_at (entries_of identity ns) id)

abbrev pub HasElements : List Node → ℕ → Option ℕ → Type 0
HasElements ns id count =
    (identity : ℕ → StructIdentity) → count ≡ option_map saturated (element_count (type_at (entries_of identity ns) id))
