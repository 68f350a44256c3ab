-- Which exits the way back from a place cites, and lists and sets of exits. It serves private contracts alone.
use Rattle.std.specs.Prelude.{◌≡◌, ◌<◌, ◌^◌, ◌⊎◌, ℕ, Bool, true, false, IsTrue, List, Some, Option, length, slice_get}
use Rattle.std.specs.Prelude.{slice_index_or, take}
use Rattle.std.specs.Ordering.{nat_cmp}
use Rattle.std.specs.BTreeSet.{BTreeSet, contains}
use Rattle.ck_graph.specs.Flow.{Flow}
use Rattle.ck_graph.specs.Steps.{exit_of}
use Rattle.ck_paths.specs.declared.found.Place.{Place}
use Rattle.ck_paths.specs.declared.found.Reason.TheVariants.{ByEdge, IntoCall, OverCall}
use Rattle.ck_paths.specs.Found.{IsAt}
use Rattle.ck_paths.specs.Justified.{function_of}

-- the way back from a place to where its function is entered goes over a call with this exit; where `on`, the way goes
-- on in the callers
pub data Cites (places : List Place) (on : Bool) : ℕ → ℕ → Type 0 where
  over :
      (n c x : ℕ) (place : Place) → IsAt places n place → place.reason ≡ OverCall c x → Cites places on n x
  before :
      (n c e x : ℕ) (place : Place) → IsAt places n place → place.reason ≡ OverCall c e → Cites places on c x →
      Cites places on n x
  by_edge :
      (n b k x : ℕ) (place : Place) → IsAt places n place → place.reason ≡ ByEdge b k → Cites places on b x →
      Cites places on n x
  in_caller :
      (n c x : ℕ) (place : Place) → on ≡ true → IsAt places n place → place.reason ≡ IntoCall c →
      Cites places on c x → Cites places on n x

-- a number is in a list, at a place of it
abbrev pub IsListed : List ℕ → ℕ → Type 0
IsListed exits x = (s : ℕ) × (slice_get exits s ≡ Some x)

-- each number is below those after it
abbrev pub AreAscending : List ℕ → Type 0
AreAscending xs = (i j : ℕ) → i < j → j < length xs → slice_index_or xs i 0 < slice_index_or xs j 0

-- the place of this number is at its function's exit
pub record IsAtExit (flow : Flow) (places : List Place) (x : ℕ) : Type 0 where
  pub place : Place
  pub at : IsAt places x place
  pub is_exit : place.point.0 ≡ exit_of flow (function_of flow place)

-- all exits that the way back from a place cites, those that these cite, and so on, in order
pub record AreExitsFor (flow : Flow) (places : List Place) (n : ℕ) (exits : List ℕ) : Type 0 where
  pub few : length exits < 2 ^ 32
  pub ascending : AreAscending exits
  pub there : (x : ℕ) → IsListed exits x → IsAtExit flow places x
  pub closed :
      (s e x : ℕ) → slice_get exits s ≡ Some e → Cites places false e x → IsListed (take s exits) x
  pub cites : (x : ℕ) → Cites places true n x → IsListed exits x
  pub cited :
      (x : ℕ) → IsListed exits x →
      Cites places true n x ⊎ ((e : ℕ) × IsListed exits e × Cites places false e x)

-- a set has a number
abbrev pub IsIn : BTreeSet ℕ → ℕ → Type 0
IsIn set x = IsTrue (contains nat_cmp set x)

-- an exit is added to a set, if there is one
pub record AddsExit (exit : Option ℕ) (old new : BTreeSet ℕ) : Type 0 where
  pub kept : (x : ℕ) → IsIn old x → IsIn new x
  pub added : (x : ℕ) → exit ≡ Some x → IsIn new x
  pub only : (x : ℕ) → IsIn new x → IsIn old x ⊎ (exit ≡ Some x)

-- the exits that the way back from a place cites are added to a set
pub record AddsCited (places : List Place) (on : Bool) (n : ℕ) (old new : BTreeSet ℕ) : Type 0 where
  pub kept : (x : ℕ) → IsIn old x → IsIn new x
  pub added : (x : ℕ) → Cites places on n x → IsIn new x
  pub only : (x : ℕ) → IsIn new x → IsIn old x ⊎ Cites places on n x

-- the greatest number is taken out of a set
pub record TakesGreatest (greatest : ℕ) (old new : BTreeSet ℕ) : Type 0 where
  pub was : IsIn old greatest
  pub below : (x : ℕ) → IsIn new x → x < greatest
  pub kept : (x : ℕ) → IsIn old x → (x ≡ greatest) ⊎ IsIn new x
  pub only : (x : ℕ) → IsIn new x → IsIn old x

-- the way back from a place goes on at an earlier one, over a call with this exit if there is one
pub record GoesBack (places : List Place) (on : Bool) (n b : ℕ) (exit : Option ℕ) : Type 0 where
  pub earlier : b < n
  pub up : (x : ℕ) → Cites places on b x → Cites places on n x
  pub here : (x : ℕ) → exit ≡ Some x → Cites places on n x
  pub down : (x : ℕ) → Cites places on n x → (exit ≡ Some x) ⊎ Cites places on b x

-- the way back from a place has come to another. What it cites up to there is in the set
pub record WalkedBack (places : List Place) (on : Bool) (n at : ℕ) (old new : BTreeSet ℕ) : Type 0 where
  pub kept : (x : ℕ) → IsIn old x → IsIn new x
  pub up : (x : ℕ) → Cites places on at x → Cites places on n x
  pub down : (x : ℕ) → Cites places on n x → IsIn new x ⊎ Cites places on at x
  pub only : (x : ℕ) → IsIn new x → IsIn old x ⊎ Cites places on n x

-- The exits that were taken out of a set, the greatest first, are `taken` the other way round. All that is cited is
-- among them or in the set, and what is in the set is below them.
pub record ArePending (flow : Flow) (places : List Place) (n : ℕ) (taken : List ℕ) (pending : BTreeSet ℕ) : Type 0 where
  pub ascending : AreAscending taken
  pub below : (x e : ℕ) → IsIn pending x → IsListed taken e → x < e
  pub cites : (x : ℕ) → Cites places true n x → IsListed taken x ⊎ IsIn pending x
  pub closed : (e x : ℕ) → IsListed taken e → Cites places false e x → IsListed taken x ⊎ IsIn pending x
  pub cited :
      (x : ℕ) → IsListed taken x ⊎ IsIn pending x →
      Cites places true n x ⊎ ((e : ℕ) × IsListed taken e × Cites places false e x)
