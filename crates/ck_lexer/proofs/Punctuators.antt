-- The longest punctuator.
use Rattle.std.proofs.Common.{◌≡◌, ℕ, zero, suc, ◌<◌, ◌≤◌, Bool, true, false, List, [], ◌∷◌, length, take, get_or, refl}
use Rattle.std.proofs.Common.{sym, arith, ⊎_elim}
use Rattle.std.specs.Prelude.{◌&&◌, ◌||◌, ◌==◌, codes, if◌then◌else◌}
use Rattle.ck_lexer.specs.Preprocessing.{is_punctuator, punctuators}
use Rattle.ck_lexer.specs.Scanning.{is_one_of, is_shift_assignment, is_ellipsis, is_pair, is_single, punctuator_size}
use Rattle.ck_lexer.proofs.Tests.{and-left, and-right, and-not_right, or-either, or-none, no-test, eqb-same}
use Rattle.ck_lexer.proofs.Tests.{among-texts, among-bytes}

-- the punctuators by their bytes
abbrev pub is_mark : List ℕ → Bool
is_mark [] = false
is_mark (a ∷ []) = is_single a
is_mark (a ∷ b ∷ []) = is_pair a b
is_mark (a ∷ b ∷ c ∷ []) = is_shift_assignment a b c || is_ellipsis a b c
is_mark (a ∷ b ∷ c ∷ d ∷ text) = false

pub punctuator-mark : (text : List ℕ) → is_punctuator text ≡ true → is_mark text ≡ true
unfolding is_punctuator
punctuator-mark text h = among-texts is_mark text punctuators refl h

single-punctuator : (a : ℕ) → is_single a ≡ true → is_punctuator (a ∷ []) ≡ true
unfolding is_punctuator
single-punctuator a h = among-bytes (λ x. is_punctuator (x ∷ [])) a (codes "[](){}.&*+-~!/%<>^|?:;=,") refl h

equals-punctuator : (a : ℕ) → is_one_of (codes "<>=!*/%+-&^|") a ≡ true → is_punctuator (a ∷ 61 ∷ []) ≡ true
unfolding is_punctuator
equals-punctuator a h = among-bytes (λ x. is_punctuator (x ∷ 61 ∷ [])) a (codes "<>=!*/%+-&^|") refl h

doubled-punctuator : (a : ℕ) → is_one_of (codes "+-<>&|") a ≡ true → is_punctuator (a ∷ a ∷ []) ≡ true
unfolding is_punctuator
doubled-punctuator a h = among-bytes (λ x. is_punctuator (x ∷ x ∷ [])) a (codes "+-<>&|") refl h

arrow-punctuator : is_punctuator (45 ∷ 62 ∷ []) ≡ true
unfolding is_punctuator
arrow-punctuator = refl

shift-punctuator : (a : ℕ) → is_one_of (codes "<>") a ≡ true → is_punctuator (a ∷ a ∷ 61 ∷ []) ≡ true
unfolding is_punctuator
shift-punctuator a h = among-bytes (λ x. is_punctuator (x ∷ x ∷ 61 ∷ [])) a (codes "<>") refl h

ellipsis-punctuator : is_punctuator (46 ∷ 46 ∷ 46 ∷ []) ≡ true
unfolding is_punctuator
ellipsis-punctuator = refl

pair-punctuator : (a b : ℕ) → is_pair a b ≡ true → is_punctuator (a ∷ b ∷ []) ≡ true
pair-punctuator a b h =
    ⊎_elim
    (λ (x : ((b == 61 && is_one_of (codes "<>=!*/%+-&^|") a) || (b == a && is_one_of (codes "+-<>&|") a)) ≡ true).
    ⊎_elim
    (λ (y : (b == 61 && is_one_of (codes "<>=!*/%+-&^|") a) ≡ true).
    let e : b ≡ 61 = eqb-same b 61 (and-left (b == 61) _ y) in
    rw e (equals-punctuator a (and-right (b == 61) _ y)))
    (λ (y : (b == a && is_one_of (codes "+-<>&|") a) ≡ true).
    let e : b ≡ a = eqb-same b a (and-left (b == a) _ y) in
    rw e (doubled-punctuator a (and-right (b == a) _ y)))
    (or-either _ _ x))
    (λ (x : (a == 45 && b == 62) ≡ true). let d : a ≡ 45 = eqb-same a 45 (and-left (a == 45) _ x) in
    let e : b ≡ 62 = eqb-same b 62 (and-right (a == 45) _ x) in rw (d, e) arrow-punctuator)
    (or-either _ _ h)

triple-punctuator : (a b c : ℕ) → (is_shift_assignment a b c || is_ellipsis a b c) ≡ true
    → is_punctuator (a ∷ b ∷ c ∷ []) ≡ true
triple-punctuator a b c h =
    ⊎_elim
    (λ (x : is_shift_assignment a b c ≡ true).
    let two : (is_one_of (codes "<>") a && b == a) ≡ true = and-left (is_one_of (codes "<>") a && b == a) (c == 61) x in
    let d : b ≡ a = eqb-same b a (and-right (is_one_of (codes "<>") a) (b == a) two) in
    let e : c ≡ 61 = eqb-same c 61 (and-right (is_one_of (codes "<>") a && b == a) (c == 61) x) in
    rw (d, e) (shift-punctuator a (and-left (is_one_of (codes "<>") a) (b == a) two)))
    (λ (x : is_ellipsis a b c ≡ true).
    let two : (a == 46 && b == 46) ≡ true = and-left (a == 46 && b == 46) (c == 46) x in
    let d : a ≡ 46 = eqb-same a 46 (and-left (a == 46) (b == 46) two) in
    let e : b ≡ 46 = eqb-same b 46 (and-right (a == 46) (b == 46) two) in
    let f : c ≡ 46 = eqb-same c 46 (and-right (a == 46 && b == 46) (c == 46) x) in
    rw (d, e, f) ellipsis-punctuator)
    (or-either (is_shift_assignment a b c) (is_ellipsis a b c) h)

-- the size by its three tests
abbrev sized : Bool → Bool → Bool → ℕ
sized three two one = if three then 3 else (if two then 2 else (if one then 1 else 0))

sized-le : (three two one : Bool) → sized three two one ≤ 3
sized-le true two one = omega arith
sized-le false true one = omega arith
sized-le false false true = omega arith
sized-le false false false = omega arith

sized-two : (three two one : Bool) → three ≡ false → sized three two one ≤ 2
sized-two true two one off = absurd (cc)
sized-two false true one off = omega arith
sized-two false false true off = omega arith
sized-two false false false off = omega arith

sized-one : (three two one : Bool) → three ≡ false → two ≡ false → sized three two one ≤ 1
sized-one true two one off none = absurd (cc)
sized-one false true one off none = absurd (cc)
sized-one false false true off none = omega arith
sized-one false false false off none = omega arith

takes-one : (three two one : Bool) → one ≡ true → 1 ≤ sized three two one
takes-one true two one on = omega arith
takes-one false true one on = omega arith
takes-one false false true on = omega arith
takes-one false false false on = absurd (cc)

takes-two : (three two one : Bool) → two ≡ true → 2 ≤ sized three two one
takes-two true two one on = omega arith
takes-two false true one on = omega arith
takes-two false false one on = absurd (cc)

takes-three : (three two one : Bool) → three ≡ true → 3 ≤ sized three two one
takes-three true two one on = omega arith
takes-three false two one on = absurd (cc)

-- past the end there are zeros, which no punctuator has
no_third : (a b : ℕ) → (is_shift_assignment a b 0 || is_ellipsis a b 0) ≡ false
no_third a b =
    or-none _ _ (and-not_right (is_one_of (codes "<>") a && b == a) false refl)
    (and-not_right (a == 46 && b == 46) false refl)

no_second : (a : ℕ) → is_pair a 0 ≡ false
no_second a =
    or-none _ _
    (or-none _ _ refl
    (no-test (0 == a && is_one_of (codes "+-<>&|") a)
    (λ h. zero_doubled (sym (eqb-same 0 a (and-left (0 == a) (is_one_of (codes "+-<>&|") a) h)))
    (and-right (0 == a) (is_one_of (codes "+-<>&|") a) h))))
    (and-not_right (a == 45) false refl) where
      zero_doubled : a ≡ 0 → is_one_of (codes "+-<>&|") a ≡ true → ⊥
      zero_doubled e h = let k : is_one_of (codes "+-<>&|") a ≡ false = rw e refl in absurd (cc)

-- no punctuator that a text begins with is longer than the one that the code takes
pub punctuator-le : (rest : List ℕ) (m : ℕ) → is_punctuator (take m rest) ≡ true → m ≤ length rest
    → m ≤ punctuator_size rest
punctuator-le rest zero h fits = omega arith
punctuator-le [] (suc m) h fits = absurd (omega arith)
punctuator-le (a ∷ rest) (suc zero) h fits = takes-one (is_shift_assignment a (get_or rest 0 0)
    (get_or rest 1 0) || is_ellipsis a (get_or rest 0 0) (get_or rest 1 0)) (is_pair a (get_or rest 0 0))
    (is_single a) (punctuator-mark (a ∷ []) h)
punctuator-le (a ∷ []) (suc (suc m)) h fits = absurd (omega arith)
punctuator-le (a ∷ b ∷ rest) (suc (suc zero)) h fits = takes-two
    (is_shift_assignment a b (get_or rest 0 0) || is_ellipsis a b (get_or rest 0 0)) (is_pair a b) (is_single a)
    (punctuator-mark (a ∷ b ∷ []) h)
punctuator-le (a ∷ b ∷ []) (suc (suc (suc m))) h fits = absurd (omega arith)
punctuator-le (a ∷ b ∷ c ∷ rest) (suc (suc (suc zero))) h fits = takes-three
    (is_shift_assignment a b c || is_ellipsis a b c) (is_pair a b) (is_single a) (punctuator-mark (a ∷ b ∷ c ∷ []) h)
punctuator-le (a ∷ b ∷ c ∷ []) (suc (suc (suc (suc m)))) h fits = absurd (omega arith)
punctuator-le (a ∷ b ∷ c ∷ d ∷ rest) (suc (suc (suc (suc m)))) h fits = let k = punctuator-mark
    (a ∷ b ∷ c ∷ d ∷ take m rest) h in absurd (cc)

pub mark-fits : (rest : List ℕ) → punctuator_size rest ≤ length rest
mark-fits [] = omega arith
mark-fits (a ∷ []) = sized-one (is_shift_assignment a 0 0 || is_ellipsis a 0 0) (is_pair a 0) (is_single a)
    (no_third a 0) (no_second a)
mark-fits (a ∷ b ∷ []) = sized-two (is_shift_assignment a b 0 || is_ellipsis a b 0) (is_pair a b) (is_single a)
    (no_third a b)
mark-fits (a ∷ b ∷ c ∷ rest) = omega (
  arith,
  sized-le (is_shift_assignment a b c || is_ellipsis a b c) (is_pair a b)
      (is_single a),
)

-- the text of that size, whichever it is
one_sized : (a : ℕ) (rest : List ℕ) (one : Bool) → (one ≡ true → is_punctuator (a ∷ []) ≡ true)
    → 0 < sized false false one → is_punctuator (take (sized false false one) (a ∷ rest)) ≡ true
one_sized a rest true h some = h refl
one_sized a rest false h some = absurd (omega arith)

two_sized : (a b : ℕ) (rest : List ℕ) (two one : Bool) → (two ≡ true → is_punctuator (a ∷ b ∷ []) ≡ true)
    → (one ≡ true → is_punctuator (a ∷ []) ≡ true) → 0 < sized false two one
    → is_punctuator (take (sized false two one) (a ∷ b ∷ rest)) ≡ true
two_sized a b rest true one g h some = g refl
two_sized a b rest false one g h some = one_sized a (b ∷ rest) one h some

three_sized : (a b c : ℕ) (rest : List ℕ) (three two one : Bool)
    → (three ≡ true → is_punctuator (a ∷ b ∷ c ∷ []) ≡ true) → (two ≡ true → is_punctuator (a ∷ b ∷ []) ≡ true)
    → (one ≡ true → is_punctuator (a ∷ []) ≡ true) → 0 < sized three two one
    → is_punctuator (take (sized three two one) (a ∷ b ∷ c ∷ rest)) ≡ true
three_sized a b c rest true two one f g h some = f refl
three_sized a b c rest false two one f g h some = two_sized a b (c ∷ rest) two one g h some

pub mark-punctuator : (rest : List ℕ) → 0 < punctuator_size rest
    → is_punctuator (take (punctuator_size rest) rest) ≡ true
mark-punctuator [] some = absurd (omega arith)
mark-punctuator (a ∷ []) some =
    let no : (is_shift_assignment a 0 0 || is_ellipsis a 0 0) ≡ false = no_third a 0 in
    let size : punctuator_size (a ∷ []) ≡ sized false false (is_single a) = rw (no, no_second a) refl in
    rw size (one_sized a [] (is_single a) (single-punctuator a) (omega arith))
mark-punctuator (a ∷ b ∷ []) some =
    let no : (is_shift_assignment a b 0 || is_ellipsis a b 0) ≡ false = no_third a b in
    let size : punctuator_size (a ∷ b ∷ []) ≡ sized false (is_pair a b) (is_single a) = rw no refl in
    rw size (two_sized a b [] (is_pair a b) (is_single a) (pair-punctuator a b) (single-punctuator a) (omega arith))
mark-punctuator (a ∷ b ∷ c ∷ rest) some =
    three_sized a b c rest (is_shift_assignment a b c || is_ellipsis a b c) (is_pair a b) (is_single a)
    (triple-punctuator a b c) (pair-punctuator a b) (single-punctuator a) some
