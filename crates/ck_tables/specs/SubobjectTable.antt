-- Which paths the numbers of a table of subobjects stand for: the numbers of the parts that lead to a part from the
-- whole object (C99 6.7.8), members and elements from 0.
use Rattle.std.specs.Prelude.{◌≡◌, ◌<◌, ◌≤◌, ℕ, Bool, true, nat_lt}
use Rattle.std.specs.Prelude.{List, [], ◌∷◌, ◌++◌, length, Option, Some, None}
use Rattle.ck_tables.specs.Tables.{tree_in, AreOrdered}
use Rattle.ck_tables.specs.declared.subobjects.Subobject.{Subobject}
use Rattle.ck_tables.specs.declared.subobjects.SubobjectId.{SubobjectId}

-- the path of the part around, or none of the whole object; `f` says which path a number stands for
abbrev pub path_around : (ℕ → List ℕ) → Option SubobjectId → List ℕ
path_around f None = []
path_around f (Some s) = f s.0

-- a part's path
abbrev pub make : (ℕ → List ℕ) → Subobject → List ℕ
make f s = path_around f s.within ++ (s.number ∷ [])

-- what a number of a table stands for
abbrev pub path_at : List Subobject → ℕ → List ℕ
path_at ns i = tree_in [] make ns i

-- which numbers a part names ------------------------------------------------------------------------------------------

abbrev pub around_below : ℕ → Option SubobjectId → Bool
around_below limit None = true
around_below limit (Some s) = nat_lt s.0 limit

-- a part names a part of a smaller number than this
abbrev pub reads_below : ℕ → Subobject → Bool
reads_below limit s = around_below limit s.within

-- each part names a smaller number than its own
abbrev pub IsOrdered : List Subobject → Type 0
IsOrdered ns = AreOrdered reads_below ns

-- a table has this part at this number, and it stands for the part's path
pub record IsNode (ns : List Subobject) (i : ℕ) (n : Subobject) : Type 0 where
  pub below : reads_below i n ≡ true
  pub path : path_at ns i ≡ make (path_at ns) n

-- a table has grown at its end, or not at all: its numbers stay, and stand for what they stood for
pub record Keeps (old new : List Subobject) : Type 0 where
  pub no_less : length old ≤ length new
  pub same : (i : ℕ) → i < length old → path_at new i ≡ path_at old i
