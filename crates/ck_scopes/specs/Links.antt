-- Which declarations mean one object or function (C99 6.2.2), over the numbers of names.
use Rattle.std.specs.Prelude.{ℕ, ◌+◌, Bool, ◌&&◌, ◌||◌, ◌==◌, List, [], ◌∷◌, Option, Some, None, if◌then◌else◌}
use Rattle.ck_prog.specs.Linking.{is_external, is_linked}
use Rattle.ck_prog.specs.declared.names.Linkage.{Linkage}

-- a declaration: its number, its file, the number of its name, and its linkage
pub record LinkedName : Type 0 where
  pub entry : ℕ
  pub file : ℕ
  pub name : ℕ
  pub linkage : Linkage

-- after these declarations of all files, the latest first, in this file
pub record Links : Type 0 where
  pub declared : List LinkedName
  pub file : ℕ

-- before the first file
abbrev pub start : Links
start = record { declared = []; file = 0 }

-- in the file after this one
abbrev pub next_file : Links → Links
next_file v = record { declared = v.declared; file = v.file + 1 }

-- after one more declaration
abbrev pub declaring : Links → ℕ → ℕ → Linkage → Links
declaring v entry name linkage =
    record {
      declared = record { entry = entry; file = v.file; name = name; linkage = linkage } ∷ v.declared;
      file = v.file;
    }

-- 6.2.2: it means the same object or function as a declaration of this name in this file that has linkage, external or
-- internal: both have external linkage, or both have linkage and are of one file
abbrev pub is_one : ℕ → ℕ → Bool → LinkedName → Bool
is_one file name external d =
    d.name == name && ((external && is_external d.linkage) || (is_linked d.linkage && d.file == file))

-- the number of the latest declaration that passes a test
abbrev pub latest_entry : (LinkedName → Bool) → List LinkedName → Option ℕ
latest_entry test [] = None
latest_entry test (d ∷ ds) = if test d then Some d.entry else latest_entry test ds

-- the number of the latest declaration that means the same object or function
abbrev pub one_with : Links → ℕ → Bool → Option ℕ
one_with v name external = latest_entry (is_one v.file name external) v.declared
