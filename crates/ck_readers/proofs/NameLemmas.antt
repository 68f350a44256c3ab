-- Names that are kept once, and which of them are typedef names.
use Rattle.std.proofs.Common.{◌≡◌, ℕ, zero, suc, ◌<◌, ◌≤◌, List, [], ◌∷◌, ◌++◌, length, take, get_or, ◌+◌, map, refl}
use Rattle.std.proofs.Common.{ap, subst, arith, sym, ◌∙◌}
use Rattle.std.proofs.lemmas.List.{take_more, take_all}
use Rattle.std.specs.Borrow.{Bor}
use Rattle.std.proofs.Common.{inl, inr}
use Rattle.std.specs.Prelude.{Bool, cond, true, false, ◌||◌, Option, Some, slice_get, slice_set, find, if◌then◌else◌}
use Rattle.std.specs.Prelude.{◌⊎◌}
use Rattle.std.specs.Cmp.Lexicographic.{bytes_decides}
use Rattle.std.specs.List.{list_any}
use Rattle.std.specs.Str.{bytes_eq}
use Rattle.ck_base.specs.TokenText.{text_of}
use Rattle.ck_base.specs.declared.tokens.Token.{Token}
use Rattle.ck_grammar.specs.Words.{is_one_of}
use Rattle.ck_readers.specs.Looks.{AreDistinct, names_of}
use Rattle.ck_readers.specs.NameSet.{with_name, with_tokens}

pub distinct_none : AreDistinct []
distinct_none i j text a b = grind (arith, a, b)

-- a name of a list with one more is one before, or that one
later : (names : List (List ℕ)) (b c : List ℕ) (i : ℕ)
    → (slice_get names i ≡ Some c) ⊎ ((i ≡ length names) × (b ≡ c)) → (x : List ℕ)
    → (slice_get (x ∷ names) (suc i) ≡ Some c) ⊎ ((suc i ≡ length (x ∷ names)) × (b ≡ c))
later names b c i (inl at) x = inl at
later names b c i (inr last) x = inr (ap suc last.0, last.1)

which : (names : List (List ℕ)) (b c : List ℕ) (i : ℕ) → slice_get (names ++ (b ∷ [])) i ≡ Some c
    → (slice_get names i ≡ Some c) ⊎ ((i ≡ length names) × (b ≡ c))
which [] b c zero h = inr (refl, grind (arith, h))
which [] b c (suc i) h = grind (arith, h)
which (x ∷ names) b c zero h = inl h
which (x ∷ names) b c (suc i) h = later names b c i (which names b c i h) x

distinct-by : (names : List (List ℕ)) (b : List ℕ) → AreDistinct names
    → ((i : ℕ) → slice_get names i ≡ Some b → ⊥) → (i j : ℕ) (c : List ℕ)
    → (slice_get names i ≡ Some c) ⊎ ((i ≡ length names) × (b ≡ c))
    → (slice_get names j ≡ Some c) ⊎ ((j ≡ length names) × (b ≡ c)) → i ≡ j
distinct-by names b distinct new i j c (inl at) (inl also) = distinct i j c at also
distinct-by names b distinct new i j c (inl at) (inr last) =
    absurd (new i (subst (λ x. slice_get names i ≡ Some x) (sym last.1) at))
distinct-by names b distinct new i j c (inr last) (inl at) =
    absurd (new j (subst (λ x. slice_get names j ≡ Some x) (sym last.1) at))
distinct-by names b distinct new i j c (inr last) (inr also) = last.0 ∙ sym also.0

distinct-last : (names : List (List ℕ)) (b : List ℕ) → AreDistinct names
    → ((i : ℕ) → slice_get names i ≡ Some b → ⊥) → AreDistinct (names ++ (b ∷ []))
distinct-last names b distinct new i j c at also =
    distinct-by names b distinct new i j c (which names b c i at) (which names b c j also)

-- a name that is none of these is at no number
no-name : (names : List (List ℕ)) (b : List ℕ) → is_one_of names b ≡ false → (i : ℕ) → slice_get names i ≡ Some b → ⊥
no-name [] b none i at = grind (arith, at)
no-name (x ∷ names) b none zero at =
    let same : b ≡ x = grind (arith, at) in
    let equal = (bytes_decides b x).1 same in
    grind (arith, none, equal)
no-name (x ∷ names) b none (suc i) at = no-name names b (grind (arith, none)) i at

distinct-with : (names : List (List ℕ)) (b : List ℕ) (is : Bool) → is_one_of names b ≡ is → AreDistinct names
    → AreDistinct (if is then names else names ++ (b ∷ []))
distinct-with names b true e distinct = distinct
distinct-with names b false e distinct = distinct-last names b distinct (no-name names b e)

distinct_with : (names : List (List ℕ)) (b : List ℕ) → AreDistinct names → AreDistinct (with_name names b)
distinct_with names b distinct = distinct-with names b (is_one_of names b) refl distinct

module _ {K : Type 0} (bytes : K → List ℕ) where
  passes-by : (test : K → Bool) (x k : K) (b : Bool) (rest : Option K) → test x ≡ b → (rest ≡ Some k → test k ≡ true)
      → cond b (Some x) rest ≡ Some k → test k ≡ true
  passes-by test x k true rest is more h = grind (arith, is, h)
  passes-by test x k false rest is more h = more h

  find-passes : (test : K → Bool) (ks : List K) (k : K) → find test ks ≡ Some k → test k ≡ true
  find-passes test [] k h = grind arith
  find-passes test (x ∷ ks) k h = passes-by test x k (test x) (find test ks) refl (find-passes test ks k) h

  named : (ks : List K) (i : ℕ) (k : K) → slice_get ks i ≡ Some k → slice_get (map bytes ks) i ≡ Some (bytes k)
  named [] i k h = grind arith
  named (x ∷ ks) zero k h = grind (arith, h)
  named (x ∷ ks) (suc i) k h = named ks i k h

  -- the number of a name that was stored
  pub stored_name : (ks : List K) (i : ℕ) (value k : K) → slice_get ks i ≡ Some k
      → bytes_eq (bytes value) (bytes k) ≡ true → slice_get (map bytes ks) i ≡ Some (bytes value)
  stored_name ks i value k at equal =
      subst (λ x. slice_get (map bytes ks) i ≡ Some x) (sym ((bytes_decides (bytes value) (bytes k)).0 equal))
      (named ks i k at)

  -- the name that is found has the bytes that are looked for
  pub found_name : (ks : List K) (i : ℕ) (k : K) (text : List ℕ) → find (λ x. bytes_eq text (bytes x)) ks ≡ Some k
      → slice_get ks i ≡ Some k → slice_get (map bytes ks) i ≡ Some text
  found_name ks i k text found at =
      let same : text ≡ bytes k =
      (bytes_decides text (bytes k)).0 (find-passes (λ x. bytes_eq text (bytes x)) ks k found) in
      subst (λ x. slice_get (map bytes ks) i ≡ Some x) (sym same) (named ks i k at)

  map-last : (ks : List K) (k : K) → map bytes (ks ++ (k ∷ [])) ≡ map bytes ks ++ (bytes k ∷ [])
  map-last [] k = refl
  map-last (x ∷ ks) k = ap (λ names. bytes x ∷ names) (map-last ks k)

  -- among the keys is among their bytes
  pub any_name : (ks : List K) (b : List ℕ) → list_any (λ x. bytes_eq b (bytes x)) ks ≡ is_one_of (map bytes ks) b
  any_name [] b = refl
  any_name (x ∷ ks) b = ap (λ rest. bytes_eq b (bytes x) || rest) (any_name ks b)

  inserted : (ks : List K) (k : K) (is : Bool) → map bytes (if is then ks else ks ++ (k ∷ []))
      ≡ (if is then map bytes ks else map bytes ks ++ (bytes k ∷ []))
  inserted ks k true = refl
  inserted ks k false = map-last ks k

  -- the names of the keys after one more is inserted
  pub names_inserted : (ks ms : List K) (k : K)
      → ms ≡ (if list_any (λ x. bytes_eq (bytes k) (bytes x)) ks then ks else ks ++ (k ∷ []))
      → map bytes ms ≡ with_name (map bytes ks) (bytes k)
  names_inserted ks ms k is =
      ap (map bytes) is ∙ inserted ks k (list_any (λ x. bytes_eq (bytes k) (bytes x)) ks)
      ∙ ap (λ b. if b then map bytes ks else map bytes ks ++ (bytes k ∷ [])) (any_name ks (bytes k))

  pub distinct_inserted : (ks ms : List K) (k : K)
      → ms ≡ (if list_any (λ x. bytes_eq (bytes k) (bytes x)) ks then ks else ks ++ (k ∷ []))
      → AreDistinct (map bytes ks) → AreDistinct (map bytes ms)
  distinct_inserted ks ms k is distinct =
      subst AreDistinct (sym (names_inserted ks ms k is)) (distinct_with (map bytes ks) (bytes k) distinct)

-- the typedef names with one more
pub with_tokens-last : (bytes : List ℕ) (ts : List Token) (t : Token) (names : List (List ℕ))
    → with_tokens bytes (ts ++ (t ∷ [])) names ≡ text_of bytes t ∷ with_tokens bytes ts names
with_tokens-last bytes [] t names = refl
with_tokens-last bytes (x ∷ ts) t names = with_tokens-last bytes ts t (text_of bytes x ∷ names)

equal_self : (a : List ℕ) → bytes_eq a a ≡ true
equal_self a = (bytes_decides a a).1 refl

differ : (a b : List ℕ) (is : Bool) → bytes_eq a b ≡ is → (a ≡ b → ⊥) → is ≡ false
differ a b true e h = absurd (h ((bytes_decides a b).0 e))
differ a b false e h = refl

other_name : (x name : List ℕ) (typedefs : List (List ℕ)) → (x ≡ name → ⊥)
    → is_one_of (name ∷ typedefs) x ≡ is_one_of typedefs x
other_name x name typedefs h =
    ap (λ b. b || is_one_of typedefs x) (differ x name (bytes_eq x name) refl h)

-- a name that none of these is
same_types : (names : List (List ℕ)) (name : List ℕ) (typedefs : List (List ℕ))
    → ((i : ℕ) → slice_get names i ≡ Some name → ⊥)
    → map (is_one_of typedefs) names ≡ map (is_one_of (name ∷ typedefs)) names
same_types [] name typedefs h = refl
same_types (x ∷ names) name typedefs h =
    ap (λ b. b ∷ map (is_one_of typedefs) names) (sym (other_name x name typedefs (λ e. h 0 (ap Some e))))
    ∙ ap (λ bs. is_one_of (name ∷ typedefs) x ∷ bs) (same_types names name typedefs (λ i at. h (suc i) at))

pub types_unchanged : (names : List (List ℕ)) (name : List ℕ) (typedefs : List (List ℕ))
    → is_one_of names name ≡ false
    → map (is_one_of typedefs) names ≡ map (is_one_of (name ∷ typedefs)) names
types_unchanged names name typedefs none = same_types names name typedefs (no-name names name none)

-- the name at a number becomes a typedef name
pub types_changed : (names : List (List ℕ)) (i : ℕ) (name : List ℕ) (typedefs : List (List ℕ)) → AreDistinct names
    → slice_get names i ≡ Some name
    → slice_set (map (is_one_of typedefs) names) i true ≡ map (is_one_of (name ∷ typedefs)) names
types_changed [] i name typedefs distinct at = grind (arith, at)
types_changed (x ∷ names) zero name typedefs distinct at =
    let same : x ≡ name = cc at in
    let first : true ≡ is_one_of (name ∷ typedefs) x =
    sym (ap (λ b. b || is_one_of typedefs x) ((bytes_decides x name).1 same)) in
    ap (λ b. b ∷ map (is_one_of typedefs) names) first
    ∙ ap (λ bs. is_one_of (name ∷ typedefs) x ∷ bs)
    (same_types names name typedefs (λ j also. absurd (omega (arith, distinct 0 (suc j) name at also))))
types_changed (x ∷ names) (suc i) name typedefs distinct at =
    ap (λ bs. is_one_of typedefs x ∷ bs) (types_changed names i name typedefs
    (λ j k text a b. omega (arith, distinct (suc j) (suc k) text a b)) at)
    ∙ ap (λ b. b ∷ map (is_one_of (name ∷ typedefs)) names)
    (sym (other_name x name typedefs (λ e. absurd (omega (arith, distinct 0 (suc i) name (ap Some e) at)))))

map-append : (test : List ℕ → Bool) (names : List (List ℕ)) (x : List ℕ)
    → map test (names ++ (x ∷ [])) ≡ map test names ++ (test x ∷ [])
map-append test [] x = refl
map-append test (y ∷ names) x = ap (λ bs. test y ∷ bs) (map-append test names x)

names-append : (keys : List (Bor (List ℕ))) (k : Bor (List ℕ))
    → names_of (keys ++ (k ∷ [])) ≡ names_of keys ++ (k.now ∷ [])
names-append [] k = refl
names-append (x ∷ keys) k = ap (λ names. x.now ∷ names) (names-append keys k)

-- a loop over names that asks each
pub types_step : (keys : List (Bor (List ℕ))) (i : ℕ) (d : Bor (List ℕ)) (test : List ℕ → Bool)
    (before after : List Bool) (b : Bool) → i < length keys
    → before ≡ map test (names_of (take i keys)) → after ≡ before ++ (b ∷ [])
    → b ≡ test (get_or keys i d).now → after ≡ map test (names_of (take (i + 1) keys))
types_step keys i d test before after b below so_far pushed is =
    pushed ∙ ap (λ bs. bs ++ (b ∷ [])) so_far
    ∙ ap (λ x. map test (names_of (take i keys)) ++ (x ∷ [])) is
    ∙ sym (map-append test (names_of (take i keys)) (get_or keys i d).now)
    ∙ ap (map test) (sym (names-append (take i keys) (get_or keys i d)))
    ∙ ap (λ ks. map test (names_of ks)) (sym (take_more keys i d below))

pub types_all : (keys all : List (Bor (List ℕ))) (i : ℕ) (test : List ℕ → Bool) (types : List Bool) → length keys ≤ i
    → keys ≡ all → types ≡ map test (names_of (take i keys)) → types ≡ map test (names_of all)
types_all keys all i test types past same so_far =
    so_far ∙ ap (λ ks. map test (names_of ks)) (take_all i keys past ∙ same)

-- which names are typedef names, with one more token's
pub types_renamed : (bytes : List ℕ) (added all : List Token) (t : Token) (earlier names : List (List ℕ))
    (text : List ℕ) (types : List Bool) → types ≡ map (is_one_of (text ∷ with_tokens bytes added earlier)) names
    → text ≡ text_of bytes t → all ≡ added ++ (t ∷ [])
    → types ≡ map (is_one_of (with_tokens bytes all earlier)) names
types_renamed bytes added all t earlier names text types are is pushed =
    are ∙ ap (λ x. map (is_one_of (x ∷ with_tokens bytes added earlier)) names) is
    ∙ ap (λ ds. map (is_one_of ds) names)
    (sym (ap (λ ts. with_tokens bytes ts earlier) pushed ∙ with_tokens-last bytes added t earlier))
