-- Sets of functions, block by block.
use Rattle.std.proofs.Common.{◌≡◌, ◌≢◌, ℕ, ◌+◌, ◌<◌, ◌≤◌, ◌/◌, ◌%◌, ◌⊎◌, ◌↔◌, ◌||◌, ◌∙◌, Bool, true, false}
use Rattle.std.proofs.Common.{IsTrue, List, length, set, get_or, replicate, refl, sym, ap, subst, inl, inr, arith}
use Rattle.std.proofs.Common.{get_or-set_same, get_or-set_other}
use Rattle.std.proofs.lemmas.Bool.{cases_eq, cases_lt}
use Rattle.std.proofs.lemmas.List.{set-get_or, get_or_read, get_or_past, get_or-replicate, length-replicate}
use Rattle.std.proofs.lemmas.List.Sums.{sum_by-set}
use Rattle.std.specs.Int.{bit_at}
use Rattle.std.proofs.lemmas.Nat.Bits.{bit_at-zero}
use Rattle.ck_rows.specs.declared.rows.Rows.{Rows}
use Rattle.ck_rows.specs.Relation.{Relates}
use Rattle.ck_rows.specs.Room.{room}
use Rattle.ck_reaching.specs.Sets.{Has, block_at, no_block}
use Rattle.ck_reaching.specs.Joins.{set_room, IsJoin, IsUnion}

-- what holds of the block that was written, and of the others as they were, holds of each
pub by_block : (blocks : List Rows) (i : ℕ) (block : Rows) (P : ℕ → Rows → Type 0) → i < length blocks → P i block →
    ((k : ℕ) → k ≢ i → P k (block_at blocks k)) → (k : ℕ) → P k (block_at (set blocks i block) k)
unfolding block_at
by_block blocks i block P within here others k = elim (cases_eq k i) [
  | inl e ↦ subst (λ q. P q (get_or (set blocks i block) q no_block)) (sym e)
      (subst (P i) (sym (get_or-set_same blocks i block no_block within)) here)
  | inr ne ↦ subst (P k) (sym (get_or-set_other blocks i k block no_block ne)) (others k ne)
]

pub set_room-set : (blocks : List Rows) (i : ℕ) (block : Rows) → i < length blocks →
    set_room (set blocks i block) + room (block_at blocks i) ≡ set_room blocks + room block
unfolding set_room block_at
set_room-set blocks i block within = sum_by-set room blocks i block no_block within

pub set_same : (blocks : List Rows) (i : ℕ) (block : Rows) → block ≡ block_at blocks i → set blocks i block ≡ blocks
unfolding block_at
set_same blocks i block e = ap (set blocks i) e ∙ set-get_or blocks i no_block

no_bit : (m j : ℕ) → m ≡ 0 → bit_at m j ≡ 1 → ⊥
no_bit m j zero bit = let none : bit_at m j ≡ 0 = ap (λ n. bit_at n j) zero ∙ bit_at-zero j in omega (arith, none, bit)

no_block-none : (i j : ℕ) → Relates no_block i j → ⊥
no_block-none i j r = no_bit 0 j refl r.bit

-- a set has no function for which it has no room
pub Has-past : (set : List Rows) (f : ℕ) → length set ≤ f / 16 / 16 → Has set f → ⊥
unfolding block_at
Has-past set f past h = no_block-none (f / 16 % 16) (f % 16)
    (subst (λ b. Relates b (f / 16 % 16) (f % 16)) (get_or_past set (f / 16 / 16) no_block past) h.bit)

-- a function is looked up in its block
pub Has-read : (set : List Rows) (f : ℕ) (block : Rows) (answer : Bool) → f / 16 / 16 < length set →
    block ≡ get_or set (f / 16 / 16) block → IsTrue answer ↔ Relates block (f / 16 % 16) (f % 16) →
    IsTrue answer ↔ Has set f
unfolding block_at
Has-read set f block answer within read says =
    let at : block ≡ block_at set (f / 16 / 16) = get_or_read set (f / 16 / 16) block within read no_block in (
      λ t. record { bit = subst (λ b. Relates b (f / 16 % 16) (f % 16)) at (says.0 t) },
      λ h. says.1 (subst (λ b. Relates b (f / 16 % 16) (f % 16)) (sym at) h.bit),
    )

-- a mask without a bit has none of its sixteen functions
pub clear-line : (set : List Rows) (f g : ℕ) (block : Rows) → g / 16 / 16 < length set →
    block ≡ get_or set (g / 16 / 16) block → get_or block.mask (g / 16 % 16) 0 ≡ 0 → f / 16 ≡ g / 16 → Has set f → ⊥
unfolding block_at
clear-line set f g block within read zero e h =
    let at : block ≡ block_at set (g / 16 / 16) = get_or_read set (g / 16 / 16) block within read no_block in
    no_bit (get_or block.mask (g / 16 % 16) 0) (f % 16) zero
    (subst (λ (b : Rows). bit_at (get_or b.mask (g / 16 % 16) 0) (f % 16) ≡ 1) (sym at)
    (subst (λ l. bit_at (get_or (block_at set (l / 16)).mask (l % 16) 0) (f % 16) ≡ 1) e h.bit.bit))

-- a bit is set in one block
pub Has-added : (old : List Rows) (g : ℕ) (block : Rows) → g / 16 / 16 < length old →
    Relates block (g / 16 % 16) (g % 16) →
    ((i j : ℕ) → Relates (block_at old (g / 16 / 16)) i j → Relates block i j) →
    ((i j : ℕ) → Relates block i j →
    Relates (block_at old (g / 16 / 16)) i j ⊎ ((i ≡ g / 16 % 16) × (j ≡ g % 16))) →
    (f : ℕ) → Has (set old (g / 16 / 16) block) f ↔ (Has old f ⊎ (f ≡ g))
Has-added old g block within there kept only f = (
  λ h. elim (by_block old (g / 16 / 16) block
      (λ q b. q ≡ f / 16 / 16 → Relates b (f / 16 % 16) (f % 16) →
      Relates (block_at old q) (f / 16 % 16) (f % 16) ⊎ (f ≡ g)) within
      (λ e r. elim (only (f / 16 % 16) (f % 16) r) [ inl o ↦ inl o | inr at ↦ inr (omega (arith, e, at.0, at.1)) ])
      (λ q ne e r. inl r) (f / 16 / 16) refl h.bit)
      [ inl o ↦ inl (record { bit = o }) | inr e ↦ inr e ],
  λ h. elim h [
    | inl o ↦ record {
      bit = by_block old (g / 16 / 16) block
          (λ q b. Relates (block_at old q) (f / 16 % 16) (f % 16) → Relates b (f / 16 % 16) (f % 16)) within
          (kept (f / 16 % 16) (f % 16)) (λ q ne r. r) (f / 16 / 16) o.bit;
    }
    | inr e ↦ record {
      bit = by_block old (g / 16 / 16) block
          (λ q b. q ≡ g / 16 / 16 → Relates b (f / 16 % 16) (f % 16)) within
          (λ same. subst (λ x. Relates block (x / 16 % 16) (x % 16)) (sym e) there) (λ q ne same. absurd (ne same))
          (f / 16 / 16) (ap (λ x. x / 16 / 16) e);
    }
  ],
)

-- blocks without a bit
pub Has-replicate : (n : ℕ) (block : Rows) → ((i j : ℕ) → Relates block i j → ⊥) → (set : List Rows) →
    set ≡ replicate n block → (f : ℕ) → Has set f → ⊥
unfolding block_at
Has-replicate n block none set same f h = elim (cases_lt (f / 16 / 16) n) [
  | inl below ↦ none (f / 16 % 16) (f % 16) (subst (λ b. Relates b (f / 16 % 16) (f % 16))
      (ap (λ s. get_or s (f / 16 / 16) no_block) same ∙ get_or-replicate n (f / 16 / 16) block no_block below) h.bit)
  | inr past ↦ no_block-none (f / 16 % 16) (f % 16) (subst (λ b. Relates b (f / 16 % 16) (f % 16))
      (ap (λ s. get_or s (f / 16 / 16) no_block) same ∙
      get_or_past (replicate n block) (f / 16 / 16) no_block (omega (arith, past, length-replicate n block))) h.bit)
]

-- the first n blocks were joined
pub record IsJoinedBelow (n : ℕ) (old given new : List Rows) (grew : Bool) : Type 0 where
  pub kept : (k i j : ℕ) → Relates (block_at old k) i j → Relates (block_at new k) i j
  pub added : (k i j : ℕ) → k < n → Relates (block_at given k) i j → Relates (block_at new k) i j
  pub only : (k i j : ℕ) → Relates (block_at new k) i j → Relates (block_at old k) i j ⊎ Relates (block_at given k) i j
  pub same : grew ≡ false → new ≡ old
  pub room_left : set_room new ≤ set_room old
  pub less_left : grew ≡ true → set_room new < set_room old

same-then : (old mid new : List Rows) (g h : Bool) → (g ≡ false → mid ≡ old) → (h ≡ false → new ≡ mid) →
    (h || g) ≡ false → new ≡ old
same-then old mid new g true first then e = absurd (cc)
same-then old mid new g false first then e = then refl ∙ first e

less-then : (x y z : ℕ) (g h : Bool) → y ≤ x → z ≤ y → (g ≡ true → y < x) → (h ≡ true → z < y) → (h || g) ≡ true →
    z < x
less-then x y z g true le le' first then e = omega (arith, then refl, le)
less-then x y z g false le le' first then e = omega (arith, first e, le')

-- one more block is joined
pub joined-more : (n : ℕ) (old given mid : List Rows) (block : Rows) (g h : Bool) → n < length mid →
    IsJoinedBelow n old given mid g → IsUnion (block_at mid n) (block_at given n) block h →
    IsJoinedBelow (n + 1) old given (set mid n block) (h || g)
joined-more n old given mid block g h within first u = record {
  kept = λ k i j r.
      by_block mid n block (λ q b. Relates (block_at old q) i j → Relates b i j) within
      (λ r. u.kept i j (first.kept n i j r)) (λ q ne. first.kept q i j) k r;
  added = λ k i j below r.
      by_block mid n block (λ q b. q < n + 1 → Relates (block_at given q) i j → Relates b i j) within
      (λ below. u.added i j) (λ q ne below. first.added q i j (omega (arith, below, ne))) k below r;
  only = λ k i j r.
      by_block mid n block
      (λ q b. Relates b i j → Relates (block_at old q) i j ⊎ Relates (block_at given q) i j) within
      (λ r. elim (u.only i j r) [ inl m ↦ first.only n i j m | inr x ↦ inr x ]) (λ q ne. first.only q i j) k r;
  same = same-then old mid (set mid n block) g h first.same (λ e. set_same mid n block (u.same e));
  room_left = omega (arith, set_room-set mid n block within, u.room_left, first.room_left);
  less_left = less-then (set_room old) (set_room mid) (set_room (set mid n block)) g h first.room_left
      (omega (arith, set_room-set mid n block within, u.room_left)) first.less_left
      (λ e. omega (arith, set_room-set mid n block within, u.less_left e));
}

-- a set whose blocks are all joined
pub join-from_all : (n : ℕ) (old given new : List Rows) (grew : Bool) → length given ≤ n → length new ≡ length old →
    IsJoinedBelow n old given new grew → IsJoin old given new grew
join-from_all n old given new grew all size is = record {
  kept = λ f h. record { bit = is.kept _ _ _ h.bit };
  added = λ f h. elim (cases_lt (f / 16 / 16) n) [
    | inl below ↦ record { bit = is.added (f / 16 / 16) (f / 16 % 16) (f % 16) below h.bit }
    | inr past ↦ absurd (Has-past given f (omega (arith, all, past)) h)
  ];
  only = λ f h. elim (is.only (f / 16 / 16) (f / 16 % 16) (f % 16) h.bit)
      [ inl o ↦ inl (record { bit = o }) | inr g ↦ inr (record { bit = g }) ];
  size = size;
  same = is.same;
  room = is.room_left;
  less_room = is.less_left;
}
