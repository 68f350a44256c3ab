-- The cells that are still to be looked at: a stack of their numbers, and for each number whether it is listed. It
-- serves private contracts alone.
use Rattle.std.specs.Prelude.{◌≡◌, ◌<◌, ◌≤◌, ◌+◌, ℕ, Bool, true, false}
use Rattle.std.specs.Prelude.{List, length, slice_index_or, Contains}

pub record Listing : Type 0 where
  pub stack : List ℕ
  pub flags : List Bool

-- how many numbers there are, listed or not
abbrev pub size_of : Listing → ℕ
size_of l = length l.flags

unfoldable pub flag_at : List Bool → ℕ → Bool
flag_at flags n = slice_index_or flags n false

pub record IsListed (l : Listing) (n : ℕ) : Type 0 where
  pub flag : flag_at l.flags n ≡ true

-- each listed number is on the stack
pub record IsStacked (l : Listing) : Type 0 where
  pub there : (n : ℕ) → flag_at l.flags n ≡ true → Contains l.stack n
  pub below : (n : ℕ) → Contains l.stack n → n < length l.flags

-- the number was listed
pub record IsNoted (number : ℕ) (old new : Listing) : Type 0 where
  pub there : IsListed new number
  pub kept : (n : ℕ) → IsListed old n → IsListed new n
  pub count : length new.stack ≤ length old.stack + 1
  pub size : size_of new ≡ size_of old
