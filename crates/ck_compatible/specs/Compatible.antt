-- Compatible types over the numbers of a table (C99 6.2.7).
use Rattle.std.specs.Prelude.{◌≡◌, ℕ, Bool, List}
use Rattle.ck_types.specs.TypeTable.{entries_of, type_at}
use Rattle.ck_types.specs.Types.{StructIdentity, compatible}
use Rattle.ck_types.specs.declared.types.Node.{Node}

-- no two numbers of structs name one struct
abbrev pub IsOneToOne : (ℕ → StructIdentity) → Type 0
IsOneToOne identity = (s t : ℕ) → identity s ≡ identity t → s ≡ t

-- the answer is whether the plain types are compatible that two numbers stand for
abbrev pub IsCompatible : List Node → ℕ → ℕ → Bool → Type 0
IsCompatible ns a b answer =
    (identity : ℕ → StructIdentity) → IsOneToOne identity
    → answer ≡ compatible (type_at (entries_of identity ns) a) (type_at (entries_of identity ns) b)
