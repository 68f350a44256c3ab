-- The environment: what a folder tells of its files, what a sink tells of the bytes that it took, and when a count of
-- failed calls rose. docs/ARCHITECTURE.md, "The outside", has it in words.
-- A word on an optional meaning has two cases: nothing is claimed of what tells nothing.
use Rattle.std.specs.Prelude.{◌≡◌, ◌≢◌, ◌⊎◌, ⊤, ℕ, ◌+◌, ◌-◌, ◌^◌, ◌≤◌, ◌<◌, ◌↔◌, min, List, [], ◌∷◌, ◌++◌}
use Rattle.std.specs.Prelude.{map, length, take, drop, Option, Some, None, if◌then◌else◌, Contains, AllPairs}
use Rattle.std.specs.Prelude.{IsPermutation, IfSome}
use Rattle.std.specs.Str.{bytes_eq}

-- a file of a folder
pub record File : Type 0 where
  pub name : List ℕ
  pub bytes : List ℕ

abbrev pub Files : Type 0
Files = List File

abbrev pub names_of : Files → List (List ℕ)
names_of files = map (λ f. f.name) files

-- the bytes of the file of this name
abbrev pub bytes_of : Files → List ℕ → Option (List ℕ)
bytes_of [] name = None
bytes_of (f ∷ files) name = if bytes_eq f.name name then Some f.bytes else bytes_of files name

-- the files are a map: no two have one name
abbrev pub NamesDiffer : Option Files → Type 0
NamesDiffer None = ⊤
NamesDiffer (Some files) = AllPairs (λ x y. x ≢ y) (names_of files)

-- these are the names of the files, each once, in some order
abbrev pub TellsNames : Option Files → List (List ℕ) → Type 0
TellsNames None names = ⊤
TellsNames (Some files) names = IsPermutation (names_of files) names

-- the name is one of the files' names
abbrev pub HasName : Option Files → List ℕ → Type 0
HasName None name = ⊤
HasName (Some files) name = Contains (names_of files) name

-- a prefix of the buffer holds the next `count` of these bytes, and the rest of it is as it was; no byte is read
-- exactly where the buffer has no room or no byte is left
pub record FillsPrefix (bytes old new : List ℕ) (count : ℕ) : Type 0 where
  pub within : count ≤ length bytes
  pub filled : new ≡ take count bytes ++ drop count old
  pub none : (count ≡ 0) ↔ ((length old ≡ 0) ⊎ (length bytes ≡ 0))

-- the buffer takes bytes of the file of this name, from the offset `at` on
abbrev pub ReadsAt : Option Files → List ℕ → ℕ → List ℕ → List ℕ → ℕ → Type 0
ReadsAt None name at old new count = ⊤
ReadsAt (Some files) name at old new count =
    IfSome (bytes_of files name) (λ bytes. FillsPrefix (drop at bytes) old new count)

-- the buffer is as it was
abbrev pub LeavesBuffer : Option Files → List ℕ → List ℕ → Type 0
LeavesBuffer None old new = ⊤
LeavesBuffer (Some files) old new = new ≡ old

-- these are the bytes of the file of this name
abbrev pub HasBytes : Option Files → List ℕ → List ℕ → Type 0
HasBytes None name bytes = ⊤
HasBytes (Some files) name bytes = bytes_of files name ≡ Some bytes

-- the file of this name has more bytes than the limit
abbrev pub IsTooLong : Option Files → List ℕ → ℕ → Type 0
IsTooLong None name limit = ⊤
IsTooLong (Some files) name limit = IfSome (bytes_of files name) (λ bytes. limit < length bytes)

-- what a sink took grew by these bytes
abbrev pub Appends : Option (List ℕ) → Option (List ℕ) → List ℕ → Type 0
Appends None after bytes = after ≡ None
Appends (Some before) after bytes = after ≡ Some (before ++ bytes)

-- the last value of a count of calls
abbrev pub last_count : ℕ
last_count = 2 ^ 64 - 1

-- a count of calls after one more: one greater, until it is at its last value
abbrev pub one_more : ℕ → ℕ
one_more count = min (count + 1) last_count

-- a count of failed calls rose: it is one greater or more, until it is at its last value
abbrev pub Rose : ℕ → ℕ → Type 0
Rose before after = one_more before ≤ after
