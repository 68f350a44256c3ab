-- How memory keeps linkages: rows, and for each name the latest with external linkage and the latest with any.
use Rattle.std.specs.Prelude.{◌≡◌, ℕ, ◌≤◌, Bool, ◌&&◌, ◌==◌, nat_le, List, [], ◌∷◌, length, map, Option, Some, None}
use Rattle.std.specs.Prelude.{if◌then◌else◌}
use Rattle.ck_prog.specs.Linking.{is_external, is_linked}
use Rattle.ck_scopes.specs.Links.{LinkedName, Links}
use Rattle.ck_scopes.specs.Seen.{head}
use Rattle.ck_scopes.specs.declared.linkages.LinkedRow.{LinkedRow}

abbrev pub linked_of : LinkedRow → LinkedName
linked_of r = record { entry = r.entry.0; file = r.file; name = r.name.0; linkage = r.linkage }

-- the linkages that rows stand for, the latest first
abbrev pub links_of : List LinkedRow → ℕ → Links
links_of rows file = record { declared = map linked_of rows; file = file }

-- how many declarations are before the latest one that passes a test
abbrev pub latest_place : (LinkedName → Bool) → List LinkedName → Option ℕ
latest_place test [] = None
latest_place test (d ∷ ds) = if test d then Some (length ds) else latest_place test ds

-- 6.2.2: it has external linkage
abbrev pub is_outside : ℕ → LinkedName → Bool
is_outside name d = d.name == name && is_external d.linkage

abbrev pub has_linkage : ℕ → LinkedName → Bool
has_linkage name d = d.name == name && is_linked d.linkage

-- 6.2.2: it has linkage, and is of this file
abbrev pub is_here : ℕ → ℕ → LinkedName → Bool
is_here file name d = d.name == name && (is_linked d.linkage && d.file == file)

-- the greater of two numbers, where there are
abbrev pub later_of : Option ℕ → Option ℕ → Option ℕ
later_of None b = b
later_of (Some m) None = Some m
later_of (Some m) (Some n) = if nat_le m n then Some n else Some m

-- files come one after the other
abbrev pub AreAscending : ℕ → List LinkedName → Type 0
AreAscending file [] = Unit {0}
AreAscending file (d ∷ ds) = (d.file ≤ file) × AreAscending d.file ds

-- the two tables have the latest of each name
pub record AreNoted (v : Links) (external linked : List (Option ℕ)) : Type 0 where
  pub outside : (name : ℕ) → head external name ≡ latest_place (is_outside name) v.declared
  pub any : (name : ℕ) → head linked name ≡ latest_place (has_linkage name) v.declared
  pub files : AreAscending v.file v.declared
