-- The points that are still to be looked at: a permutation of the points' numbers with its inverse, of which the first
-- ones are listed. They serve private contracts alone.
use Rattle.std.specs.Prelude.{◌≡◌, ◌<◌, ◌≤◌, ◌^◌, ℕ, List, length, slice_index}

pub record Listing : Type 0 where
  pub order : List ℕ
  pub place : List ℕ
  pub count : ℕ

-- how many numbers there are, listed or not
abbrev pub size_of : Listing → ℕ
size_of l = length l.order

-- the number is listed: its place is among the first ones
pub record IsListed (l : Listing) (number : ℕ) : Type 0 where
  pub within : number < length l.place
  pub listed : slice_index l.place number < l.count

-- `place` says where each number is in `order`
pub record IsInverse (l : Listing) : Type 0 where
  pub same : length l.place ≡ length l.order
  pub small : length l.order ≤ 2 ^ 32
  pub few : l.count ≤ length l.order
  pub place_below : (p : ℕ) → p < length l.order → slice_index l.place p < length l.order
  pub order_below : (k : ℕ) → k < length l.order → slice_index l.order k < length l.order
  pub there : (p : ℕ) → p < length l.order → slice_index l.order (slice_index l.place p) ≡ p
  pub back : (k : ℕ) → k < length l.order → slice_index l.place (slice_index l.order k) ≡ k
