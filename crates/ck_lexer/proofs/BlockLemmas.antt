-- From the lanes of a block to the bytes of a class that it begins with.
use Rattle.std.proofs.Common.{◌≡◌, ℕ, ◌+◌, ◌%◌, ◌^◌, ◌≤◌, ◌<◌, Bool, true, false, not, cond, eqb, List, [], ◌∷◌, map}
use Rattle.std.proofs.Common.{length, drop, Fits, w8, refl, sym, ap, ap₂, ◌∙◌, arith}
use Rattle.std.proofs.lemmas.Bool.{agree_below, agree_below_at}
use Rattle.std.proofs.lemmas.List.{length-map}
use Rattle.std.proofs.lemmas.List.Folds.{prefix_len-append}
use Rattle.std.proofs.lemmas.List.Sums.{prefix_len-le-length}
use Rattle.std.proofs.lemmas.Simd.{chunk-drop, first_set_mask_l, length-chunk, map-map, mask_l-mod, zip2_of_maps}
use Rattle.ck_lexer.proofs.Tests.{eqb-same, no-test, same-eqb}
use Rattle.std.specs.List.{prefix_len}
use lib.Count.{count_trailing_zeros}
use lib.Lanes.{Each1, chunk, mask_l, top, zip2}

-- two tests that agree at each of the 256 bytes
each_lane : (f g : ℕ → Bool) (v : List ℕ) → Each1 (Fits w8) v → agree_below f g 256 ≡ true → map f v ≡ map g v
each_lane f g [] fits agree = refl
each_lane f g (x ∷ v) fits agree = ap₂ (λ a b. a ∷ b) (agree_below_at f g 256 x agree fits.0.fits)
    (each_lane f g v fits.1 agree)

-- the mask of lanes that were computed byte by byte is that of a test that agrees with their top bits
pub mask-lanes : (p : ℕ → Bool) (f : ℕ → ℕ) (v z : List ℕ) → length v ≤ 64 → Each1 (Fits w8) v → z ≡ map f v
    → agree_below (λ x. top 7 (f x)) p 256 ≡ true → mask_l (map (top 7) z) % 2 ^ 64 ≡ mask_l (map p v)
mask-lanes p f v z short fits lanes agree =
    ap (λ l. mask_l l % 2 ^ 64) (ap (map (top 7)) lanes ∙ map-map (top 7) f v
    ∙ each_lane (λ x. top 7 (f x)) p v fits agree)
    ∙ mask_l-mod (map p v) 64 (omega (arith, length-map v p))

-- an operation on two vectors that were computed byte by byte
pub joined : (h : ℕ → ℕ → ℕ) (f g : ℕ → ℕ) (v : List ℕ) {a b : List ℕ} → a ≡ map f v → b ≡ map g v
    → zip2 h a b ≡ map (λ x. h (f x) (g x)) v
joined h f g v p q = zip2_of_maps h f g v p q

not_not : (b : Bool) → not (not b) ≡ b
not_not true = refl
not_not false = refl

pub prefix_len-not_not : (p : ℕ → Bool) (v : List ℕ) → prefix_len (λ x. not (not (p x))) v ≡ prefix_len p v
prefix_len-not_not p [] = refl
prefix_len-not_not p (x ∷ v) = ap₂ (λ b n. cond b (1 + n) 0) (not_not (p x)) (prefix_len-not_not p v)

-- where a class begins to fail in a block, by the mask of the bytes that are out of it
pub first_other : (p : ℕ → Bool) (v : List ℕ) (m : ℕ) → length v ≡ 32 → m ≡ mask_l (map (λ b. not (p b)) v)
    → cond (eqb m 0) 32 (count_trailing_zeros 64 m) ≡ prefix_len p v
first_other p v m long mask =
    ap (λ k. cond (eqb k 0) 32 (count_trailing_zeros 64 k)) mask
    ∙ first_set_mask_l (λ b. not (p b)) v 32 long (omega arith) ∙ prefix_len-not_not p v

-- the run from an offset on, by the run in the block that is there
pub prefix_len-block : (p : ℕ → Bool) (bytes : List ℕ) (at size : ℕ) → at + size ≤ length bytes
    → prefix_len p (drop at bytes) ≡ cond (eqb (prefix_len p (chunk at size bytes)) size)
    (size + prefix_len p (drop (at + size) bytes)) (prefix_len p (chunk at size bytes))
prefix_len-block p bytes at size within =
    let c : List ℕ = chunk at size bytes in
    ap (prefix_len p) (chunk-drop at size bytes) ∙ prefix_len-append p c (drop (at + size) bytes)
    ∙ ap (λ n. cond (eqb (prefix_len p c) n) (n + prefix_len p (drop (at + size) bytes)) (prefix_len p c))
    (length-chunk at size bytes within)

-- a run that ends within a block
pub run-ends : (p : ℕ → Bool) (bytes : List ℕ) (at size run : ℕ) → at + size ≤ length bytes
    → run ≡ prefix_len p (chunk at size bytes)
    → run < size → prefix_len p (drop at bytes) ≡ run
run-ends p bytes at size run within is short =
    let other : eqb (prefix_len p (chunk at size bytes)) size ≡ false = no-test _
    (λ same. let e = eqb-same _ _ same in omega arith) in
    prefix_len-block p bytes at size within
    ∙ ap (λ b. cond b (size + prefix_len p (drop (at + size) bytes)) (prefix_len p (chunk at size bytes))) other
    ∙ sym is

-- a run that takes a whole block
pub run-goes_on : (p : ℕ → Bool) (bytes : List ℕ) (at size run : ℕ) → at + size ≤ length bytes
    → run ≡ prefix_len p (chunk at size bytes)
    → size ≤ run → prefix_len p (drop at bytes) ≡ size + prefix_len p (drop (at + size) bytes)
run-goes_on p bytes at size run within is whole =
    let long = length-chunk at size bytes within in
    let bound = prefix_len-le-length p (chunk at size bytes) in
    let same : eqb (prefix_len p (chunk at size bytes)) size ≡ true = same-eqb _ _ (omega arith) in
    prefix_len-block p bytes at size within
    ∙ ap (λ b. cond b (size + prefix_len p (drop (at + size) bytes)) (prefix_len p (chunk at size bytes))) same
