-- What is in sight, as a list: each number with the name and the name space under which it is shown, the latest first.
use Rattle.std.specs.Prelude.{ℕ, ◌*◌, ◌+◌, Bool, false, ◌&&◌, ◌==◌, nat_le, List, [], ◌∷◌, slice_index_or}
use Rattle.std.specs.Prelude.{Option, Some, None, if◌then◌else◌}
use Rattle.ck_scopes.specs.Environments.{same_space}
use Rattle.ck_scopes.specs.declared.spaces.Space.{Space}
use Rattle.ck_scopes.specs.declared.spaces.Space.TheVariants.{Ordinary, Tag}

pub record Seen : Type 0 where
  pub number : ℕ
  pub space : Space
  pub name : ℕ

-- one more is shown, where it has a name space
abbrev pub see : Option Space → ℕ → ℕ → List Seen → List Seen
see None name number xs = xs
see (Some space) name number xs = record { number = number; space = space; name = name } ∷ xs

abbrev pub is_under : Space → ℕ → Seen → Bool
is_under space name x = same_space space x.space && x.name == name

-- the latest number that is shown under a name
abbrev pub latest_of : Space → ℕ → List Seen → Option ℕ
latest_of space name [] = None
latest_of space name (x ∷ xs) = if is_under space name x then Some x.number else latest_of space name xs

-- the latest has at least this number
abbrev pub begins_from : ℕ → List Seen → Bool
begins_from n [] = false
begins_from n (x ∷ xs) = nat_le n x.number

-- without the latest
abbrev pub rest_of : List Seen → List Seen
rest_of [] = []
rest_of (x ∷ xs) = xs

-- without the latest ones whose numbers are at least this one
abbrev pub hide_from : ℕ → List Seen → List Seen
hide_from n [] = []
hide_from n (x ∷ xs) = if nat_le n x.number then hide_from n xs else x ∷ xs

-- the number at a place of a table
abbrev pub head : List (Option ℕ) → ℕ → Option ℕ
head numbers place = slice_index_or numbers place None

-- the place of a name of a name space in a table for both
abbrev pub slot_of : Space → ℕ → ℕ
slot_of Ordinary name = 2 * name
slot_of Tag name = 2 * name + 1
