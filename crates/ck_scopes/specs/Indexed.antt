-- How memory keeps what is in sight: each with what it hides, and a table of the latest. It serves private contracts
-- alone.
use Rattle.std.specs.Prelude.{◌≡◌, ℕ, ◌<◌, List, [], ◌∷◌, length, map, Option}
use Rattle.ck_scopes.specs.Seen.{Seen, latest_of, head, slot_of}
use Rattle.ck_scopes.specs.declared.sight.Shown.{Shown}
use Rattle.ck_scopes.specs.declared.spaces.Space.{Space}

abbrev pub seen_of : Shown → Seen
seen_of x = record { number = x.number; space = x.space; name = x.name }

-- each keeps the one that it hides
abbrev pub AreChained : List Shown → Type 0
AreChained [] = Unit {0}
AreChained (x ∷ xs) = (x.hides ≡ latest_of x.space x.name (map seen_of xs)) × AreChained xs

-- each name has a place in the table
abbrev pub HavePlaces : ℕ → List Shown → Type 0
HavePlaces n [] = Unit {0}
HavePlaces n (x ∷ xs) = (slot_of x.space x.name < n) × HavePlaces n xs

-- the latest first
pub record IsIndexed (xs : List Shown) (heads : List (Option ℕ)) : Type 0 where
  pub chained : AreChained xs
  pub places : HavePlaces (length heads) xs
  pub latest : (space : Space) (name : ℕ) → head heads (slot_of space name) ≡ latest_of space name (map seen_of xs)
