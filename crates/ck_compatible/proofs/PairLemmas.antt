-- Lists of pairs that grow at their end.
use Rattle.std.proofs.Common.{◌≡◌, ℕ, zero, suc, ◌<◌, ◌⊎◌, inl, inr, Bool, true, false, List, [], ◌∷◌, ◌++◌, length}
use Rattle.std.proofs.Common.{Option, Some, None, refl, ap, sym, ◌∙◌, arith}
use Rattle.std.specs.List.{list_any}
use Rattle.std.specs.Prelude.{◌==◌, ◌||◌, if◌then◌else◌}
use Rattle.std.proofs.lemmas.Bool.{and_parts, eqb-true}
use Rattle.indexmap.specs.IndexSet.{insert_key}
use Rattle.ck_compatible.specs.Pairs.{ArePaired, IsAmong, IsAt, Pair, pair_of, put_pair, same_pair}

-- what is true of the pairs that two parts make
abbrev pub IsPart : Option ℕ → Option ℕ → Pair → Type 0
IsPart (Some i) (Some j) p = p ≡ pair_of i j
IsPart _ _ p = ⊥

pub same_pair-equal : (p q : Pair) → same_pair p q ≡ true → q ≡ p
same_pair-equal p q h =
    let parts = and_parts (p.0 == q.0) (p.1 == q.1) h in
    let first : p.0 ≡ q.0 = eqb-true p.0 q.0 parts.0 in
    let second : p.1 ≡ q.1 = eqb-true p.1 q.1 parts.1 in
    sym (ap (λ i. pair_of i p.1) first ∙ ap (pair_of q.0) second)

pub at-first : (ks ms : List Pair) (k : ℕ) (p : Pair) → IsAt ks k p → IsAt (ks ++ ms) k p
at-first [] ms k p h = absurd (cc)
at-first (q ∷ ks) ms zero p h = h
at-first (q ∷ ks) ms (suc k) p h = at-first ks ms k p h

at-last : (ks : List Pair) (p : Pair) → IsAt (ks ++ p ∷ []) (length ks) p
at-last [] p = refl
at-last (q ∷ ks) p = at-last ks p

-- what is in a list with one more is before, or that one
at-either : (ks : List Pair) (q : Pair) (k : ℕ) (p : Pair) → IsAt (ks ++ q ∷ []) k p → IsAt ks k p ⊎ (p ≡ q)
at-either [] q zero p h = inr (cc)
at-either [] q (suc k) p h = absurd (cc)
at-either (x ∷ ks) q zero p h = inl h
at-either (x ∷ ks) q (suc k) p h = at-either ks q k p h

pub there : (ks : List Pair) (k : ℕ) (p : Pair) → IsAt ks k p → k < length ks
there [] k p h = absurd (cc)
there (x ∷ ks) zero p h = omega arith
there (x ∷ ks) (suc k) p h = omega (arith, there ks k p h)

abbrev among : (ks : List Pair) (p : Pair) (k : ℕ) → IsAt ks k p → IsAmong ks p
among ks p k h = record { place = k; is = h }

among-later : (x : Pair) (ks : List Pair) (p : Pair) → IsAmong ks p → IsAmong (x ∷ ks) p
among-later x ks p a = record { place = suc a.place; is = a.is }

among-by : (x : Pair) (ks : List Pair) (p : Pair) (b : Bool) → same_pair p x ≡ b
    → (list_any (same_pair p) ks ≡ true → IsAmong ks p) → (b || list_any (same_pair p) ks) ≡ true → IsAmong (x ∷ ks) p
among-by x ks p true is rest h = record { place = 0; is = ap Some (same_pair-equal p x is) }
among-by x ks p false is rest h = among-later x ks p (rest h)

-- a pair that is found is among them
pub found : (ks : List Pair) (p : Pair) → list_any (same_pair p) ks ≡ true → IsAmong ks p
found [] p h = absurd (cc)
found (x ∷ ks) p h =
    among-by x ks p (same_pair p x) refl (found ks p) (grind (arith, h))

abbrev with_pair : List Pair → Pair → Bool → List Pair
with_pair ks p known = if known then ks else ks ++ p ∷ []

inserted-by : (ks : List Pair) (p : Pair) (known : Bool) → list_any (same_pair p) ks ≡ known
    → IsAmong (with_pair ks p known) p
inserted-by ks p true is = found ks p is
inserted-by ks p false is = among (ks ++ p ∷ []) p (length ks) (at-last ks p)

kept-by : (ks : List Pair) (p : Pair) (known : Bool) (k : ℕ) (q : Pair) → IsAt ks k q → IsAt (with_pair ks p known) k q
kept-by ks p true k q h = h
kept-by ks p false k q h = at-first ks (p ∷ []) k q h

either-by : (ks : List Pair) (p : Pair) (known : Bool) (k : ℕ) (q : Pair) → IsAt (with_pair ks p known) k q
    → IsAt ks k q ⊎ (q ≡ p)
either-by ks p true k q h = inl h
either-by ks p false k q h = at-either ks p k q h

pub inserted : (ks : List Pair) (p : Pair) → IsAmong (insert_key same_pair ks p) p
inserted ks p = inserted-by ks p (list_any (same_pair p) ks) refl

-- all that was there stays at its place
abbrev pub Keeps : List Pair → List Pair → Type 0
Keeps ks ms = (k : ℕ) (q : Pair) → IsAt ks k q → IsAt ms k q

put-kept-by : (ks : List Pair) (p : Pair) (same : Bool) → Keeps ks (if same then ks else insert_key same_pair ks p)
put-kept-by ks p true k q h = h
put-kept-by ks p false k q h = kept-by ks p (list_any (same_pair p) ks) k q h

pub put-kept : (ks : List Pair) (x y : Option ℕ) → Keeps ks (put_pair ks x y)
put-kept ks (Some i) (Some j) = put-kept-by ks (pair_of i j) (i == j)
put-kept ks None y = λ k q h. h
put-kept ks (Some i) None = λ k q h. h

put-paired-by : (ks : List Pair) (i j : ℕ) (same : Bool) → (i == j) ≡ same
    → ArePaired (if same then ks else insert_key same_pair ks (pair_of i j)) (Some i) (Some j)
put-paired-by ks i j true is = inl (eqb-true i j is)
put-paired-by ks i j false is = inr (inserted ks (pair_of i j))

pub put-paired : (ks : List Pair) (x y : Option ℕ) → ArePaired (put_pair ks x y) x y
put-paired ks (Some i) (Some j) = put-paired-by ks i j (i == j) refl
put-paired ks None y = record {}
put-paired ks (Some i) None = record {}

put-either-by : (ks : List Pair) (p : Pair) (same : Bool) (k : ℕ) (q : Pair)
    → IsAt (if same then ks else insert_key same_pair ks p) k q → IsAt ks k q ⊎ (q ≡ p)
put-either-by ks p true k q h = inl h
put-either-by ks p false k q h = either-by ks p (list_any (same_pair p) ks) k q h

-- what is among them afterwards was before, or is the pair of the parts
pub put-either : (ks : List Pair) (x y : Option ℕ) (k : ℕ) (q : Pair) → IsAt (put_pair ks x y) k q
    → IsAt ks k q ⊎ IsPart x y q
put-either ks (Some i) (Some j) k q h = put-either-by ks (pair_of i j) (i == j) k q h
put-either ks None y k q h = inl h
put-either ks (Some i) None k q h = inl h

abbrev pub AllAre : (Pair → Type 0) → List Pair → Type 0
AllAre P ks = (k : ℕ) (q : Pair) → IsAt ks k q → P q

all-by : (P : Pair → Type 0) (ks : List Pair) (x y : Option ℕ) (k : ℕ) (q : Pair) → AllAre P ks
    → (IsPart x y q → P q) → IsAt ks k q ⊎ IsPart x y q → P q
all-by P ks x y k q old new (inl h) = old k q h
all-by P ks x y k q old new (inr h) = new h

pub put-all : (P : Pair → Type 0) (ks : List Pair) (x y : Option ℕ) → AllAre P ks
    → ((q : Pair) → IsPart x y q → P q) → AllAre P (put_pair ks x y)
put-all P ks x y old new k q h = all-by P ks x y k q old (new q) (put-either ks x y k q h)

pub among-kept : (ks ms : List Pair) (p : Pair) → Keeps ks ms → IsAmong ks p → IsAmong ms p
among-kept ks ms p kept a = record { place = a.place; is = kept a.place p a.is }

paired-by : (ks ms : List Pair) (i j : ℕ) → Keeps ks ms → (i ≡ j) ⊎ IsAmong ks (pair_of i j)
    → (i ≡ j) ⊎ IsAmong ms (pair_of i j)
paired-by ks ms i j kept (inl e) = inl e
paired-by ks ms i j kept (inr a) = inr (among-kept ks ms (pair_of i j) kept a)

pub paired-kept : (ks ms : List Pair) (x y : Option ℕ) → Keeps ks ms → ArePaired ks x y → ArePaired ms x y
paired-kept ks ms (Some i) (Some j) kept h = paired-by ks ms i j kept h
paired-kept ks ms None y kept h = h
paired-kept ks ms (Some i) None kept h = h

-- a place within a list has a pair
pub pair-there : (ks : List Pair) (k : ℕ) → k < length ks → (p : Pair) × IsAt ks k p
pair-there [] k h = absurd (omega arith)
pair-there (x ∷ ks) zero h = (x, refl)
pair-there (x ∷ ks) (suc k) h = pair-there ks k (omega arith)

-- what is at a place of a list that grew was there before
pub at-before : (ks ms : List Pair) (k : ℕ) (p : Pair) → Keeps ks ms → k < length ks → IsAt ms k p → IsAt ks k p
at-before ks ms k p kept within h =
    let old = pair-there ks k within in
    let same : Some old.0 ≡ Some p = sym (kept k old.0 old.1) ∙ h in
    old.1 ∙ same
