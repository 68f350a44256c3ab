-- The union of two relations, which joins their masks lane by lane.
use Rattle.std.proofs.Common.{◌≡◌, ℕ, zero, suc, ◌^◌, ◌<◌, ◌≤◌, ◌⊎◌, ◌↔◌, Bool, true, false, not, nat_eq, List, [], ◌∷◌}
use Rattle.std.proofs.Common.{length, get_or, bit_or, refl, ap, ◌∙◌, subst, inl, inr, arith, Fits, w16, ◌≢◌, ◌+◌, ◌%◌}
use Rattle.std.proofs.Common.{max, sym}
use Rattle.std.specs.Int.{bit_at, w16, trailing_zeros}
use Rattle.std.specs.List.{Contains, sum_by}
use Rattle.std.specs.Cmp.Lexicographic.{pointwise, same_text, other_text}
use Rattle.std.specs.Simd.Lanes.{zip2, Each1}
use Rattle.std.proofs.Math.Nat.{eq-or-lt_of_le}
use Rattle.std.proofs.lemmas.Nat.{le_or_l, or_of_16, xor_of_16}
use Rattle.std.proofs.lemmas.Simd.{get_or-zip2}
use Rattle.std.proofs.lemmas.List.Sums.{sum_by-cons}
use Rattle.ck_rows.specs.declared.rows.Rows.{Rows}
use Rattle.ck_rows.specs.Relation.{pair, pairs, rows_of, HasNewPair, Relates}
use Rattle.ck_rows.specs.Room.{mask_room}
use Rattle.ck_rows.proofs.PairLists.{pairs-bits, relates}
use Rattle.std.proofs.lemmas.Nat.Bits.{bit_at_or, bit_at-lt, bit_at-zero, same_from_bits, bit_at_xor}
use Rattle.std.proofs.lemmas.Nat.Bits.{bit_at-trailing_zeros}
use Rattle.std.specs.Int.Bits.{bit_xor}

or-bits : (a b k : ℕ) → bit_at (bit_or a b) k ≡ 1 ↔ ((bit_at a k ≡ 1) ⊎ (bit_at b k ≡ 1))
or-bits a b k = (
  λ h. which (bit_at a k) (bit_at b k) (sym h ∙ bit_at_or a b k),
  λ h. elim h [
    | inl p ↦ omega (arith, bit_at_or a b k, bit_at-lt b k, p)
    | inr q ↦ omega (arith, bit_at_or a b k, bit_at-lt a k, q)
  ],
) where
  which : (x y : ℕ) → 1 ≡ max x y → (x ≡ 1) ⊎ (y ≡ 1)
  which zero y h = inr (omega arith)
  which (suc x) y h = inl (omega arith)

pub Relates-union : (a b now : List ℕ) → length a ≡ 16 → length b ≡ 16 → now ≡ zip2 bit_or a b → (i j : ℕ) →
    Relates (rows_of now) i j ↔ (Relates (rows_of a) i j ⊎ Relates (rows_of b) i j)
Relates-union a b now a_whole b_whole is i j = (
  λ r. elim ((lane r.from_below).0 r.bit) [
    | inl p ↦ inl (relates (rows_of a) r p)
    | inr q ↦ inr (relates (rows_of b) r q)
  ],
  λ h. elim h [
    | inl p ↦ relates (rows_of now) p ((lane p.from_below).1 (inl p.bit))
    | inr q ↦ relates (rows_of now) q ((lane q.from_below).1 (inr q.bit))
  ],
) where
  lane : i < 16 → bit_at (get_or now i 0) j ≡ 1 ↔ ((bit_at (get_or a i 0) j ≡ 1) ⊎ (bit_at (get_or b i 0) j ≡ 1))
  lane below =
      let e : get_or now i 0 ≡ bit_or (get_or a i 0) (get_or b i 0) =
      ap (λ m. get_or m i 0) is ∙ get_or-zip2 bit_or a b i 0 0 0 (omega arith) (omega arith) in
      rw e (or-bits (get_or a i 0) (get_or b i 0) j)

pub union-fits : (a b : List ℕ) → Each1 (Fits w16) a → Each1 (Fits w16) b → (k : ℕ) →
    get_or (zip2 bit_or a b) k 0 < 2 ^ 16
union-fits [] b f g k = omega arith
union-fits (x ∷ xs) [] f g k = omega arith
union-fits (x ∷ xs) (y ∷ ys) f g zero = or_of_16 x y f.0.fits g.0.fits
union-fits (x ∷ xs) (y ∷ ys) f g (suc k) = union-fits xs ys f.1 g.1 k

-- a mask has more bits than it had
pub record HasGrown (old now : List ℕ) : Type 0 where
  pub lane : ℕ
  pub within : lane < length old
  pub more : get_or old lane 0 < get_or now lane 0
  pub room : sum_by mask_room now < sum_by mask_room old

pub grown-room : (old now : List ℕ) → (now ≡ old) ⊎ HasGrown old now → sum_by mask_room now ≤ sum_by mask_room old
grown-room old now (inl same) = omega (arith, ap (sum_by mask_room) same)
grown-room old now (inr g) = omega (arith, g.room)

pub same-or-grown : (a b : List ℕ) → length a ≡ length b → ((k : ℕ) → get_or (zip2 bit_or a b) k 0 < 2 ^ 16) →
    (zip2 bit_or a b ≡ a) ⊎ HasGrown a (zip2 bit_or a b)
same-or-grown [] b whole fits = inl refl
same-or-grown (x ∷ xs) [] whole fits = absurd (omega arith)
same-or-grown (x ∷ xs) (y ∷ ys) whole fits =
    both (eq-or-lt_of_le (le_or_l x y)) (same-or-grown xs ys (omega arith) (λ k. fits (suc k))) where
      z : ℕ
      z = bit_or x y

      zs : List ℕ
      zs = zip2 bit_or xs ys

      both : (x ≡ z) ⊎ (x < z) → (zs ≡ xs) ⊎ HasGrown xs zs → (z ∷ zs ≡ x ∷ xs) ⊎ HasGrown (x ∷ xs) (z ∷ zs)
      both (inl e) (inl same) = inl (cc)
      both (inl e) (inr g) = inr (record {
        lane = suc g.lane;
        within = omega (arith, g.within);
        more = g.more;
        room = omega (arith, e, g.room, sum_by-cons mask_room x xs, sum_by-cons mask_room z zs);
      })
      both (inr more) rest = inr (record {
        lane = zero;
        within = omega arith;
        more = more;
        room = omega (arith, fits 0, grown-room xs zs rest, sum_by-cons mask_room x xs, sum_by-cons mask_room z zs);
      })

-- of two masks the greater one, which has all bits of the other, has a bit that the other hasn't
new-bit : (a b : ℕ) → a < b → b < 2 ^ 16 → ((k : ℕ) → k < 16 → bit_at a k ≡ 1 → bit_at b k ≡ 1) →
    (k : ℕ) × (k < 16) × (bit_at b k ≡ 1) × (bit_at a k ≡ 1 → ⊥)
new-bit a b more fits kept =
    let lowest = bit_at-trailing_zeros w16 (bit_xor a b) (omega (arith, nonzero)) (xor_of_16 a b (omega arith) fits) in
    let k : ℕ = trailing_zeros w16 (bit_xor a b) in
    let odd : (bit_at a k + bit_at b k) % 2 ≡ 1 = sym (bit_at_xor a b k) ∙ lowest.1 in
    let new = which (bit_at a k) (bit_at b k) (bit_at-lt a k) (bit_at-lt b k) odd (kept k lowest.0) in
    (k, lowest.0, new.0, new.1) where
      which : (x y : ℕ) → x < 2 → y < 2 → (x + y) % 2 ≡ 1 → (x ≡ 1 → y ≡ 1) → (y ≡ 1) × (x ≡ 1 → ⊥)
      which zero y p q odd one = (omega arith, λ h. omega arith)
      which (suc x) y p q odd one = absurd (omega (arith, odd, one (omega arith)))

      same : bit_xor a b ≡ 0 → (k : ℕ) → bit_at a k ≡ bit_at b k
      same e k = omega (arith, bit_at_xor a b k, ap (λ n. bit_at n k) e, bit_at-zero k, bit_at-lt a k, bit_at-lt b k)

      nonzero : bit_xor a b ≢ 0
      nonzero e = omega (arith, more, same_from_bits a b (same e))

module _ (old now : Rows) where
  pub new-pair : length old.mask ≡ 16 → ((k : ℕ) → get_or now.mask k 0 < 2 ^ 16) →
      ((i j : ℕ) → Relates old i j → Relates now i j) → HasGrown old.mask now.mask → HasNewPair (pairs old) (pairs now)
  new-pair whole fits kept g =
      let i : ℕ = g.lane in
      let within : i < 16 = omega (arith, g.within, whole) in
      let new = new-bit (get_or old.mask i 0) (get_or now.mask i 0) g.more (fits i)
      (λ j h b. (kept i j (record { from_below = within; to_below = h; bit = b })).bit) in
      let there : Relates now i new.0 = record { from_below = within; to_below = new.1; bit = new.2 } in
      (pair i new.0, (pairs-bits now i new.0).1 there, λ h. new.3 ((pairs-bits old i new.0).0 h).bit)

  -- what the answer says of the masks
  pub record IsAnswer (answer : Bool) : Type 0 where
    pub same : answer ≡ false → now ≡ old
    pub grown : answer ≡ true → HasGrown old.mask now.mask

  pub is-answer : (answer : Bool) → (now.mask ≡ old.mask) ⊎ HasGrown old.mask now.mask →
      answer ≡ not (pointwise nat_eq now.mask old.mask) → IsAnswer answer
  is-answer answer change is = by_test (pointwise nat_eq now.mask old.mask) refl is where
    by_test : (p : Bool) → p ≡ pointwise nat_eq now.mask old.mask → answer ≡ not p → IsAnswer answer
    by_test true p is = record { same = λ f. ap rows_of (same_text now.mask old.mask p); grown = λ t. absurd (cc) }
    by_test false p is = record {
      same = λ f. absurd (cc);
      grown = λ t. elim change [ inl same ↦ absurd (other_text now.mask old.mask p same) | inr g ↦ g ];
    }

  pub true-from_new_pair : (answer : Bool) → IsAnswer answer → HasNewPair (pairs old) (pairs now) → answer ≡ true
  true-from_new_pair true is new = refl
  true-from_new_pair false is new = absurd (new.2 (subst (λ rows. Contains (pairs rows) new.0) (is.same refl) new.1))
