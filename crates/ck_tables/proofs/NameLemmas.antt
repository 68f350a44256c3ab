-- Names that are kept once.
use Rattle.std.proofs.Common.{◌≡◌, ℕ, zero, suc, List, [], ◌∷◌, ◌++◌, length, map, refl, ap, subst, arith, sym, ◌∙◌}
use Rattle.std.proofs.Common.{inl, inr}
use Rattle.std.specs.Prelude.{Bool, true, false, cond, Option, Some, slice_get, find, if◌then◌else◌, ◌⊎◌}
use Rattle.std.specs.Cmp.Lexicographic.{bytes_decides}
use Rattle.std.specs.List.{list_any}
use Rattle.std.specs.Str.{bytes_eq}
use Rattle.ck_tables.specs.NameList.{IsName, AreDistinct}

pub distinct_none : AreDistinct []
distinct_none i j bytes a b = grind (arith, a, b)

-- a name of a list with one more is one before, or that one
later : (names : List (List ℕ)) (b c : List ℕ) (i : ℕ) → IsName names i c ⊎ ((i ≡ length names) × (b ≡ c))
    → (x : List ℕ) → IsName (x ∷ names) (suc i) c ⊎ ((suc i ≡ length (x ∷ names)) × (b ≡ c))
later names b c i (inl at) x = inl at
later names b c i (inr last) x = inr (ap suc last.0, last.1)

which : (names : List (List ℕ)) (b c : List ℕ) (i : ℕ) → IsName (names ++ (b ∷ [])) i c
    → IsName names i c ⊎ ((i ≡ length names) × (b ≡ c))
which [] b c zero h = inr (refl, grind (arith, h))
which [] b c (suc i) h = grind (arith, h)
which (x ∷ names) b c zero h = inl h
which (x ∷ names) b c (suc i) h = later names b c i (which names b c i h) x

distinct-by : (names : List (List ℕ)) (b : List ℕ) → AreDistinct names → ((i : ℕ) → IsName names i b → ⊥)
    → (i j : ℕ) (c : List ℕ) → IsName names i c ⊎ ((i ≡ length names) × (b ≡ c))
    → IsName names j c ⊎ ((j ≡ length names) × (b ≡ c)) → i ≡ j
distinct-by names b distinct new i j c (inl at) (inl also) = distinct i j c at also
distinct-by names b distinct new i j c (inl at) (inr last) = absurd (new i (subst (IsName names i) (sym last.1) at))
distinct-by names b distinct new i j c (inr last) (inl at) = absurd (new j (subst (IsName names j) (sym last.1) at))
distinct-by names b distinct new i j c (inr last) (inr also) = last.0 ∙ sym also.0

distinct-last : (names : List (List ℕ)) (b : List ℕ) → AreDistinct names → ((i : ℕ) → IsName names i b → ⊥)
    → AreDistinct (names ++ (b ∷ []))
distinct-last names b distinct new i j c at also =
    distinct-by names b distinct new i j c (which names b c i at) (which names b c j also)

module _ {K : Type 0} (bytes : K → List ℕ) where
  passes-by : (test : K → Bool) (x k : K) (b : Bool) (rest : Option K) → test x ≡ b → (rest ≡ Some k → test k ≡ true)
      → cond b (Some x) rest ≡ Some k → test k ≡ true
  passes-by test x k true rest is more h = grind (arith, is, h)
  passes-by test x k false rest is more h = more h

  find-passes : (test : K → Bool) (ks : List K) (k : K) → find test ks ≡ Some k → test k ≡ true
  find-passes test [] k h = grind arith
  find-passes test (x ∷ ks) k h = passes-by test x k (test x) (find test ks) refl (find-passes test ks k) h

  named : (ks : List K) (i : ℕ) (k : K) → slice_get ks i ≡ Some k → IsName (map bytes ks) i (bytes k)
  named [] i k h = grind arith
  named (x ∷ ks) zero k h = grind (arith, h)
  named (x ∷ ks) (suc i) k h = named ks i k h

  -- the name that is found has the bytes that are looked for
  pub found_name : (ks : List K) (i : ℕ) (k : K) (text : List ℕ) → find (λ x. bytes_eq text (bytes x)) ks ≡ Some k
      → slice_get ks i ≡ Some k → IsName (map bytes ks) i text
  found_name ks i k text found at =
      let same : text ≡ bytes k =
      (bytes_decides text (bytes k)).0 (find-passes (λ x. bytes_eq text (bytes x)) ks k found) in
      subst (IsName (map bytes ks) i) (sym same) (named ks i k at)

  pub stored_name : (ks : List K) (i : ℕ) (value k : K) → slice_get ks i ≡ Some k
      → bytes_eq (bytes value) (bytes k) ≡ true → IsName (map bytes ks) i (bytes value)
  stored_name ks i value k at equal =
      subst (IsName (map bytes ks) i) (sym ((bytes_decides (bytes value) (bytes k)).0 equal)) (named ks i k at)

  map-last : (ks : List K) (k : K) → map bytes (ks ++ (k ∷ [])) ≡ map bytes ks ++ (bytes k ∷ [])
  map-last [] k = refl
  map-last (x ∷ ks) k = ap (λ names. bytes x ∷ names) (map-last ks k)

  -- a name that no key has
  no-name : (ks : List K) (k : K) → list_any (λ x. bytes_eq (bytes k) (bytes x)) ks ≡ false
      → (i : ℕ) → IsName (map bytes ks) i (bytes k) → ⊥
  no-name [] k none i at = grind (arith, at)
  no-name (x ∷ ks) k none zero at =
      let same : bytes k ≡ bytes x = grind (arith, at) in
      let equal = (bytes_decides (bytes k) (bytes x)).1 same in
      grind (arith, none, equal)
  no-name (x ∷ ks) k none (suc i) at = no-name ks k (grind (arith, none)) i at

  distinct-inserted : (ks : List K) (k : K) (b : Bool) → list_any (λ x. bytes_eq (bytes k) (bytes x)) ks ≡ b
      → AreDistinct (map bytes ks) → AreDistinct (map bytes (if b then ks else ks ++ (k ∷ [])))
  distinct-inserted ks k true is distinct = distinct
  distinct-inserted ks k false is distinct =
      subst AreDistinct (sym (map-last ks k))
      (distinct-last (map bytes ks) (bytes k) distinct (no-name ks k is))

  -- a set of keys after one more is inserted
  pub distinct_inserted : (ks ms : List K) (k : K)
      → ms ≡ (if list_any (λ x. bytes_eq (bytes k) (bytes x)) ks then ks else ks ++ (k ∷ []))
      → AreDistinct (map bytes ks) → AreDistinct (map bytes ms)
  distinct_inserted ks ms k is distinct =
      subst (λ ns. AreDistinct (map bytes ns)) (sym is)
      (distinct-inserted ks k (list_any (λ x. bytes_eq (bytes k) (bytes x)) ks) refl distinct)
