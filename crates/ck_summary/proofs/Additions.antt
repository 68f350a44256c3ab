-- Additions to the work, one after the other.
use Rattle.std.proofs.Common.{◌≡◌, ◌≢◌, ℕ, ◌+◌, ◌<◌, ◌≤◌, ◌⊎◌, Bool, true, false, List, Some, length, set, slice_get}
use Rattle.std.proofs.Common.{refl, sym, ap, ◌∙◌, subst, inl, inr, arith, get_or-set_same, get_or-set_other}
use Rattle.std.proofs.lemmas.Bool.{cases_eq, cases_lt}
use Rattle.std.proofs.lemmas.List.{set-get_or, length-set}
use Rattle.std.proofs.lemmas.List.Sums.{sum_by-set}
use Rattle.ck_rows.specs.declared.rows.Rows.{Rows}
use Rattle.ck_rows.specs.Relation.{Relates}
use Rattle.ck_rows.specs.Room.{room}
use Rattle.ck_graph.specs.declared.points.Edge.{Edge}
use Rattle.ck_graph.specs.Flow.{Flow}
use Rattle.ck_summary.specs.Solution.{rows_at, no_rows}
use Rattle.ck_summary.specs.Listing.{Listing, IsListed, size_of}
use Rattle.ck_summary.specs.Growth.{Work, work, IsWorkFor, table_room, Grows, IsAddition, LeadsTo, IsGrowth}

pub rows_at-set_same : (table : List Rows) (i : ℕ) (rows : Rows) → i < length table →
    rows_at (set table i rows) i ≡ rows
unfolding rows_at
rows_at-set_same table i rows within = get_or-set_same table i rows no_rows within

pub rows_at-set_other : (table : List Rows) (i j : ℕ) (rows : Rows) → j ≢ i →
    rows_at (set table i rows) j ≡ rows_at table j
unfolding rows_at
rows_at-set_other table i j rows ne = get_or-set_other table i j rows no_rows ne

-- the relations of a table of which one was written: those there and those elsewhere
pub by_point : (table : List Rows) (i : ℕ) (rows : Rows) (P : ℕ → Rows → Type 0) → i < length table → P i rows →
    ((p : ℕ) → p ≢ i → P p (rows_at table p)) → (p : ℕ) → P p (rows_at (set table i rows) p)
by_point table i rows P within here others p = elim (cases_eq p i) [
  | inl e ↦ subst (λ q. P q (rows_at (set table i rows) q)) (sym e)
      (subst (P i) (sym (rows_at-set_same table i rows within)) here)
  | inr ne ↦ subst (P p) (sym (rows_at-set_other table i p rows ne)) (others p ne)
]

room-set : (table : List Rows) (i : ℕ) (rows : Rows) → i < length table →
    table_room (set table i rows) + room (rows_at table i) ≡ table_room table + room rows
unfolding table_room rows_at
room-set table i rows within = sum_by-set room table i rows no_rows within

set-same : (table : List Rows) (i : ℕ) (rows : Rows) → rows ≡ rows_at table i → set table i rows ≡ table
unfolding rows_at
set-same table i rows e = ap (set table i) e ∙ set-get_or table i no_rows

-- what a union adds to one relation
pub record IsUnion (old given new : Rows) (grew : Bool) : Type 0 where
  pub kept : (a b : ℕ) → Relates old a b → Relates new a b
  pub added : (a b : ℕ) → Relates given a b → Relates new a b
  pub only : (a b : ℕ) → Relates new a b → Relates old a b ⊎ Relates given a b
  pub same : grew ≡ false → new ≡ old
  pub room_left : room new ≤ room old
  pub less_left : grew ≡ true → room new < room old

-- the point is listed after a union that added something
pub record IsNoted (old new : Listing) (point : ℕ) : Type 0 where
  pub there : IsListed new point
  pub kept : (p : ℕ) → IsListed old p → IsListed new p
  pub count : new.count ≤ old.count + 1
  pub size : size_of new ≡ size_of old

pub Grows-none : (w : Work) → Grows w w
Grows-none w = record {
  kept = λ p a b r. r;
  listed = λ p a b r. inl r;
  stays = λ p l. l;
  room = omega arith;
  size =
      refl;
  length = refl;
}

pub Grows-then : (old mid new : Work) → Grows old mid → Grows mid new → Grows old new
Grows-then old mid new first then = record {
  kept = λ p a b r. then.kept p a b (first.kept p a b r);
  listed = λ p a b r. elim (then.listed p a b r) [
    | inl m ↦ elim (first.listed p a b m) [ inl o ↦ inl o | inr l ↦ inr (then.stays p l) ]
    | inr l ↦ inr l
  ];
  stays = λ p l. then.stays p (first.stays p l);
  room = omega (arith, first.room, then.room);
  size = then.size ∙ first.size;
  length = then.length ∙ first.length;
}

pub IsWorkFor-after : (flow : Flow) (old new : Work) → Grows old new → IsWorkFor flow old → IsWorkFor flow new
IsWorkFor-after flow old new grows is = record { rows = grows.length ∙ is.rows; size = grows.size ∙ is.size }

-- a union with the relation of one point, which adds nothing, or after which the point is listed
pub IsAddition-same : (table : List Rows) (listed : Listing) (i : ℕ) (given new : Rows) →
    IsUnion (rows_at table i) given new false →
    IsAddition (λ p. p ≡ i) given (work table listed) (work (set table i new) listed)
IsAddition-same table listed i given new u =
    let stays : set table i new ≡ table = set-same table i new (u.same refl) in
    subst (λ t. IsAddition (λ p. p ≡ i) given (work table listed) (work t listed)) (sym stays) (record {
      grows = Grows-none (work table listed);
      added = λ p e a b r.
          subst (λ q. Relates (rows_at table q) a b) (sym e)
          (subst (λ rows. Relates rows a b) (u.same refl) (u.added a b r));
      only = λ p a b r. inl r;
    })

pub IsAddition-new : (table : List Rows) (old listed : Listing) (i : ℕ) (given new : Rows) → i < length table →
    IsUnion (rows_at table i) given new true → IsNoted old listed i →
    IsAddition (λ p. p ≡ i) given (work table old) (work (set table i new) listed)
IsAddition-new table old listed i given new within u noted =
    let after : List Rows = set table i new in
    let only = by_point table i new
    (λ p rows. (a b : ℕ) → Relates rows a b → Relates (rows_at table p) a b ⊎ ((p ≡ i) × Relates given a b)) within
    (λ a b r. elim (u.only a b r) [ inl o ↦ inl o | inr g ↦ inr (refl, g) ]) (λ p ne a b r. inl r) in
    record {
      grows = record {
        kept = by_point table i new (λ p rows. (a b : ℕ) → Relates (rows_at table p) a b → Relates rows a b) within
            u.kept (λ p ne a b r. r);
        listed = λ p a b r. elim (only p a b r)
            [ inl o ↦ inl o | inr x ↦ inr (subst (IsListed listed) (sym x.0) noted.there) ];
        stays = noted.kept;
        room = omega (arith, room-set table i new within, u.less_left refl, noted.count);
        size = noted.size;
        length = length-set table i new;
      };
      added = by_point table i new (λ p rows. p ≡ i → (a b : ℕ) → Relates given a b → Relates rows a b) within
          (λ e. u.added) (λ p ne e. absurd (ne e));
      only = only;
    }

-- two additions of one relation, one after the other
pub IsAddition-then : (P Q R : ℕ → Type 0) (given : Rows) (old mid new : Work) → ((p : ℕ) → R p → P p ⊎ Q p) →
    ((p : ℕ) → P p → R p) → ((p : ℕ) → Q p → R p) → IsAddition P given old mid → IsAddition Q given mid new →
    IsAddition R given old new
IsAddition-then P Q R given old mid new split left right first then = record {
  grows = Grows-then old mid new first.grows then.grows;
  added = λ p at a b r. elim (split p at) [
    | inl x ↦ then.grows.kept p a b (first.added p x a b r)
    | inr y ↦ then.added p y a b r
  ];
  only = λ p a b r. elim (then.only p a b r) [
    | inl m ↦ elim (first.only p a b m) [ inl o ↦ inl o | inr x ↦ inr (left p x.0, x.1) ]
    | inr y ↦ inr (right p y.0, y.1)
  ];
}

pub IsAddition-none : (edges : List Edge) (given : Rows) (w : Work) → IsAddition (LeadsTo edges 0) given w w
IsAddition-none edges given w = record {
  grows = Grows-none w;
  added = λ p at a b r. absurd (omega (arith, at.below));
  only = λ p a b r. inl r;
}

-- the edges so far and one more
pub IsAddition-edge : (edges : List Edge) (n : ℕ) (edge : Edge) (given : Rows) (old mid new : Work) →
    slice_get edges n ≡ Some edge → IsAddition (LeadsTo edges n) given old mid →
    IsAddition (λ p. p ≡ edge.to.0) given mid new → IsAddition (LeadsTo edges (n + 1)) given old new
IsAddition-edge edges n edge given old mid new there first then =
    IsAddition-then (LeadsTo edges n) (λ p. p ≡ edge.to.0) (LeadsTo edges (n + 1)) given old mid new
    (λ p at. elim (cases_lt at.place n) [
      | inl below ↦ inl (record { place = at.place; below = below; edge = at.edge; there = at.there; leads = at.leads })
      | inr last ↦
          let place : at.place ≡ n = omega (arith, last, at.below) in
          let read : Some at.edge ≡ Some edge = sym at.there ∙ (ap (slice_get edges) place ∙ there) in
          let same : at.edge ≡ edge = cc in
          inr (sym at.leads ∙ ap (λ (e : Edge). e.to.0) same)
    ])
    (λ p at. record {
      place = at.place;
      below = omega (arith, at.below);
      edge = at.edge;
      there = at.there;
      leads =
          at.leads;
    })
    (λ p e. record { place = n; below = omega arith; edge = edge; there = there; leads = sym e }) first then

pub IsGrowth-none : (flow : Flow) (w : Work) → IsGrowth flow w w
IsGrowth-none flow w = record { grows = Grows-none w; derived = λ roots d. d }

pub IsGrowth-then : (flow : Flow) (old mid new : Work) → IsGrowth flow old mid → IsGrowth flow mid new →
    IsGrowth flow old new
IsGrowth-then flow old mid new first then = record {
  grows = Grows-then old mid new first.grows then.grows;
  derived = λ roots d. then.derived roots (first.derived roots d);
}
