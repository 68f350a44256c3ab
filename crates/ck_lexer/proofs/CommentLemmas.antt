-- Where a comment is closed: no `*/` before the next star, and none at the last byte.
use Rattle.std.proofs.Common.{◌≡◌, ℕ, ◌+◌, ◌-◌, ◌<◌, ◌≤◌, Bool, true, false, not, ◌==◌, List, length, drop, get_or}
use Rattle.std.proofs.Common.{length-drop, refl, sym, ap, ◌∙◌, subst, arith, ⊎_elim}
use Rattle.std.specs.List.{prefix_len}
use Rattle.std.proofs.lemmas.List.{get_or-drop, get_or_past}
use Rattle.std.proofs.lemmas.List.Sums.{prefix_len_passes, prefix_len_stops}
use Rattle.std.proofs.str.Laws.{order}
use Rattle.ck_lexer.specs.Lexemes.{closes_at}
use Rattle.ck_lexer.specs.Runs.{is_in}
use Rattle.ck_lexer.specs.declared.runs.Class.TheVariants.{NotStar}
use Rattle.ck_lexer.proofs.Tests.{and-both, and-not_left, and-not_right, from-not, same-eqb}

yes_from_not : (b : Bool) → not b ≡ false → b ≡ true
yes_from_not true e = refl
yes_from_not false e = absurd (cc)

-- in a run of bytes that are no star no comment is closed
pub closes_at-run : (rest : List ℕ) (at j : ℕ) → at ≤ j → j < at + prefix_len (is_in NotStar) (drop at rest)
    → closes_at rest j ≡ false
closes_at-run rest at j low high =
    let e : at + (j - at) ≡ j = omega arith in
    let passes = prefix_len_passes (is_in NotStar) (drop at rest) (j - at) 0 (omega arith) in
    let there = get_or-drop at rest (j - at) 0 ∙ ap (λ i. get_or rest i 0) e in
    and-not_left (get_or rest j 0 == 42) (get_or rest (j + 1) 0 == 47)
    (from-not (get_or rest j 0 == 42) (ap (is_in NotStar) (sym there) ∙ passes))

-- the run is stopped by a star
star_at : (rest : List ℕ) (at : ℕ) → at + prefix_len (is_in NotStar) (drop at rest) < length rest
    → (get_or rest (at + prefix_len (is_in NotStar) (drop at rest)) 0 == 42) ≡ true
star_at rest at inside =
    let size : ℕ = prefix_len (is_in NotStar) (drop at rest) in
    let stops = prefix_len_stops (is_in NotStar) (drop at rest) 0 (omega (arith, length-drop at rest)) in
    let there = get_or-drop at rest size 0 in
    yes_from_not (get_or rest (at + size) 0 == 42) (ap (is_in NotStar) (sym there) ∙ stops)

pub closes_at-star : (rest : List ℕ) (at run : ℕ) → run ≡ prefix_len (is_in NotStar) (drop at rest)
    → at + run < length rest
    → get_or rest (at + run + 1) 0 ≡ 47 → closes_at rest (at + run) ≡ true
closes_at-star rest at run is inside slash =
    let P : ℕ → Type 0 = λ n. at + n < length rest → (get_or rest (at + n) 0 == 42) ≡ true in
    and-both _ _ (subst P (sym is) (star_at rest at) inside) (same-eqb _ 47 slash)

-- no comment is closed before the star that stops a run, where none was before the run
pub closes_at-before : (rest : List ℕ) (at run j : ℕ) → run ≡ prefix_len (is_in NotStar) (drop at rest)
    → ((i : ℕ) → 2 ≤ i → i < at → closes_at rest i ≡ false) → 2 ≤ j → j < at + run → closes_at rest j ≡ false
closes_at-before rest at run j is none two less =
    ⊎_elim (λ (early : j < at). none j two early) (λ (late : at ≤ j). closes_at-run rest at j late (omega arith))
    (order j at)

-- no `/` is after the last byte
pub closes_at-past : (rest : List ℕ) (k : ℕ) → length rest ≤ k + 1 → closes_at rest k ≡ false
closes_at-past rest k past =
    let none : get_or rest (k + 1) 0 ≡ 0 = get_or_past rest (k + 1) 0 past in
    and-not_right (get_or rest k 0 == 42) (get_or rest (k + 1) 0 == 47) (rw none refl)

pub closes_at-no_slash : (rest : List ℕ) (k : ℕ) → (get_or rest (k + 1) 0 == 47) ≡ false → closes_at rest k ≡ false
closes_at-no_slash rest k other = and-not_right (get_or rest k 0 == 42) (get_or rest (k + 1) 0 == 47) other
