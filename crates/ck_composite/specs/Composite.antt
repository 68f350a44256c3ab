-- The composite type of two types over the numbers of a table (C99 6.2.7).
use Rattle.std.specs.Prelude.{◌≡◌, ℕ, List}
use Rattle.ck_types.specs.TypeTable.{entries_of, type_at}
use Rattle.ck_types.specs.Types.{StructIdentity, composite}
use Rattle.ck_types.specs.declared.types.Node.{Node}

-- a number of the new table stands for the composite type of the types that two numbers of the old one stand for
abbrev pub IsComposite : List Node → List Node → ℕ → ℕ → ℕ → Type 0
IsComposite old new a b made =
    (identity : ℕ → StructIdentity)
    → type_at (entries_of identity new) made
    ≡ composite (type_at (entries_of identity old) a) (type_at (entries_of identity old) b)
