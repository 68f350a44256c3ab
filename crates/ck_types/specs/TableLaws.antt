-- Laws of tables of types.
use Rattle.std.specs.Prelude.{◌≡◌, ◌<◌, ℕ, List, length}
use Rattle.ck_types.specs.TypeTable.{Extends, IsNode, IsTable, entries_of, entry_at, entry_of}
use Rattle.ck_types.specs.Types.{StructIdentity}
use Rattle.ck_types.specs.declared.types.Node.{Node}

-- a number stands for what its node makes of what the numbers in it stand for
abbrev pub NumbersStandForTypes : Type 0
NumbersStandForTypes =
    (identity : ℕ → StructIdentity) (ns : List Node) (i : ℕ) (n : Node) → IsTable ns → IsNode ns i n
    → entry_at (entries_of identity ns) i ≡ entry_of identity (entries_of identity ns) n

-- a table that grows keeps what its numbers stand for
abbrev pub TablesKeepNumbers : Type 0
TablesKeepNumbers =
    (identity : ℕ → StructIdentity) (old new : List Node) (i : ℕ) → Extends old new → i < length old
    → entry_at (entries_of identity new) i ≡ entry_at (entries_of identity old) i

-- equal entries have one number, where no two numbers of structs name one struct
abbrev pub EqualTypesHaveOneNumber : Type 0
EqualTypesHaveOneNumber =
    (identity : ℕ → StructIdentity) (ns : List Node) (i j : ℕ) → IsTable ns
    → ((s t : ℕ) → identity s ≡ identity t → s ≡ t) → i < length ns → j < length ns
    → entry_at (entries_of identity ns) i ≡ entry_at (entries_of identity ns) j → i ≡ j
