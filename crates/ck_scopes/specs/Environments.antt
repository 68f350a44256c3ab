-- What names mean while scopes are open (C99 6.2.1, 6.2.3): the places of ck_prog, over the numbers of names.
use Rattle.std.specs.Prelude.{ℕ, ◌+◌, Bool, true, false, ◌&&◌, ◌==◌, List, [], ◌∷◌, length, Option, Some, None}
use Rattle.std.specs.Prelude.{if◌then◌else◌}
use Rattle.std.specs.Str.{bytes_eq}
use Rattle.ck_prog.specs.Declarations.{ends_with}
use Rattle.ck_tables.specs.declared.facts.EntryId.{EntryId}
use Rattle.ck_scopes.specs.declared.spaces.Space.{Space}
use Rattle.ck_scopes.specs.declared.spaces.Space.TheVariants.{Ordinary, Tag}

-- A declaration: its file, the scopes that are open there, the innermost first, each by how many declarations are
-- before it, the number of its name, and the name space in which it is looked up by scopes. Its number is how many
-- declarations are before it.
pub record Declared : Type 0 where
  pub file : ℕ
  pub scope : List ℕ
  pub name : ℕ
  pub space : Option Space

-- after these declarations of all files, the latest first, in this file and in these scopes
pub record Environment : Type 0 where
  pub declared : List Declared
  pub file : ℕ
  pub scope : List ℕ

-- how environments follow each other ----------------------------------------------------------------------------------

-- before the first file
abbrev pub start : Environment
start = record { declared = []; file = 0; scope = [] }

-- in the file after this one
abbrev pub next_file : Environment → Environment
next_file v = record { declared = v.declared; file = v.file + 1; scope = [] }

-- in a scope that opens there
abbrev pub inside : Environment → Environment
inside v = record { declared = v.declared; file = v.file; scope = length v.declared ∷ v.scope }

-- the scopes around the innermost one
abbrev pub outer_of : List ℕ → List ℕ
outer_of [] = []
outer_of (n ∷ ns) = ns

-- after the innermost scope has closed: what was declared there stays in the list
abbrev pub outside : Environment → Environment
outside v = record { declared = v.declared; file = v.file; scope = outer_of v.scope }

-- after one more declaration
abbrev pub declaring : Environment → ℕ → Option Space → Environment
declaring v name space =
    record {
      declared = record { file = v.file; scope = v.scope; name = name; space = space } ∷ v.declared;
      file = v.file;
      scope = v.scope;
    }

-- what names mean -----------------------------------------------------------------------------------------------------

abbrev pub same_space : Space → Space → Bool
same_space Ordinary Ordinary = true
same_space Tag Tag = true
same_space _ _ = false

-- 6.2.3: a declaration is looked up in this name space
abbrev pub is_of : Space → Option Space → Bool
is_of space None = false
is_of space (Some s) = same_space space s

-- the number of the latest declaration that passes a test
abbrev pub latest_number : (Declared → Bool) → List Declared → Option ℕ
latest_number test [] = None
latest_number test (d ∷ ds) = if test d then Some (length ds) else latest_number test ds

-- 6.2.1: a declaration is in sight from a file and its open scopes
abbrev pub is_open : ℕ → List ℕ → Declared → Bool
is_open file scope d = d.file == file && ends_with scope d.scope

abbrev pub is_named : ℕ → List ℕ → Space → ℕ → Declared → Bool
is_named file scope space name d = is_of space d.space && is_open file scope d && d.name == name

-- 6.2.1: what a name means: its latest declaration in an open scope. That is the innermost one, since a scope closes
-- before the one around it goes on.
abbrev pub meant : Environment → Space → ℕ → Option ℕ
meant v space name = latest_number (is_named v.file v.scope space name) v.declared

abbrev pub is_innermost : ℕ → List ℕ → Space → ℕ → Declared → Bool
is_innermost file scope space name d =
    is_of space d.space && d.file == file && bytes_eq d.scope scope && d.name == name

-- the latest declaration of a name in the innermost scope alone
abbrev pub in_innermost : Environment → Space → ℕ → Option ℕ
in_innermost v space name = latest_number (is_innermost v.file v.scope space name) v.declared

-- the number that an answer in memory gives
abbrev pub number_of : Option EntryId → Option ℕ
number_of None = None
number_of (Some e) = Some e.0
