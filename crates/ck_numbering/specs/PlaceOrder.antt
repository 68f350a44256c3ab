-- The order of places in one function: by path, orders and side; a list before those that begin with it.
use Rattle.std.specs.Prelude.{◌≡◌, ◌≢◌, List, AllPairs}
use Rattle.std.specs.Cmp.Lexicographic.{slice_cmp}
use Rattle.std.specs.Ordering.{nat_cmp, ordering_then}
use Rattle.std.specs.declared.cmp.Ordering.{Ordering}
use Rattle.std.specs.declared.cmp.Ordering.TheVariants.{Less}
use Rattle.ck_drafts.specs.Drafts.{PlainDraft}
use Rattle.ck_points.specs.Places.{Place, side_number}

unfoldable pub place_cmp : Place → Place → Ordering
place_cmp a b =
    ordering_then (slice_cmp nat_cmp a.path b.path)
    (ordering_then (slice_cmp nat_cmp a.orders b.orders) (nat_cmp (side_number a.side) (side_number b.side)))

-- no two are at one place
pub record ArePlacedApart (ds : List PlainDraft) : Type 0 where
  pub apart : AllPairs (λ a b. a.at ≢ b.at) ds

-- each is at a place before those of all later ones
pub record AreAscending (ds : List PlainDraft) : Type 0 where
  pub less : AllPairs (λ a b. place_cmp a.at b.at ≡ Less) ds
