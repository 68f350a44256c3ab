-- What is in sight, and the table of the latest of each name.
use Rattle.std.proofs.Common.{◌≡◌, ℕ, zero, suc, ◌+◌, ◌*◌, ◌<◌, ◌≤◌, Bool, true, false, List, [], ◌∷◌, ◌++◌, length}
use Rattle.std.proofs.Common.{set, get_or}
use Rattle.std.proofs.Common.{map, refl}
use Rattle.std.proofs.Common.{ap, sym, subst, ◌∙◌, arith}
use Rattle.std.specs.Prelude.{◌&&◌, ◌==◌, Option, Some, None, if◌then◌else◌, reverse}
use Rattle.std.proofs.lemmas.Bool.{eqb-true, eqb-false, false≢true}
use Rattle.std.proofs.lemmas.List.{get_or-set_same, get_or-set_other, length-set}
use Rattle.ck_scopes.specs.Environments.{same_space}
use Rattle.ck_scopes.specs.Indexed.{seen_of, HavePlaces, IsIndexed}
use Rattle.ck_scopes.specs.Seen.{Seen, latest_of, head, slot_of, begins_from, rest_of, hide_from}
use Rattle.ck_scopes.specs.declared.sight.Shown.{Shown}
use Rattle.ck_scopes.specs.declared.spaces.Space.{Space}
use Rattle.ck_scopes.specs.declared.spaces.Space.TheVariants.{Ordinary, Tag}
use Rattle.ck_scopes.proofs.NumberLemmas.{reverse_push}

-- the table -----------------------------------------------------------------------------------------------------------

head-same : (heads : List (Option ℕ)) (i j : ℕ) (v : Option ℕ) → i < length heads → j ≡ i → head (set heads i v) j ≡ v
head-same heads i j v below e =
    subst (λ q. get_or (set heads i v) q None ≡ v) (sym e) (get_or-set_same heads i v None below)

head-other : (heads : List (Option ℕ)) (i j : ℕ) (v : Option ℕ) → (j ≡ i → ⊥) → head (set heads i v) j ≡ head heads j
head-other heads i j v ne = get_or-set_other heads i j v None ne

head-names : (heads : List (Option ℕ)) (i j m n : ℕ) (v : Option ℕ) (b : Bool) → (m == n) ≡ b → i < length heads
    → (m ≡ n → j ≡ i) → (j ≡ i → m ≡ n) → head (set heads i v) j ≡ (if b then v else head heads j)
head-names heads i j m n v true is below same back = head-same heads i j v below (same (eqb-true m n is))
head-names heads i j m n v false is below same back = head-other heads i j v (λ e. eqb-false m n is (back e))

-- one name at a time
pub head_set : (heads : List (Option ℕ)) (m n : ℕ) (v : Option ℕ) → m < length heads
    → head (set heads m v) n ≡ (if m == n then v else head heads n)
head_set heads m n v below = head-names heads m n m n v (m == n) refl below (λ e. sym e) (λ e. sym e)

head-slot : (heads : List (Option ℕ)) (s t : Space) (n m : ℕ) (v : Option ℕ) → slot_of t m < length heads
    → head (set heads (slot_of t m) v) (slot_of s n)
    ≡ (if same_space s t && m == n then v else head heads (slot_of s n))
head-slot heads Ordinary Ordinary n m v below =
    head-names heads (2 * m) (2 * n) m n v (m == n) refl below (λ e. omega (arith, e)) (λ e. omega (arith, e))
head-slot heads Ordinary Tag n m v below = head-other heads (2 * m + 1) (2 * n) v (λ e. omega (arith, e))
head-slot heads Tag Ordinary n m v below = head-other heads (2 * m) (2 * n + 1) v (λ e. omega (arith, e))
head-slot heads Tag Tag n m v below =
    head-names heads (2 * m + 1) (2 * n + 1) m n v (m == n) refl below (λ e. omega (arith, e)) (λ e. omega (arith, e))

-- the stack -----------------------------------------------------------------------------------------------------------

pub indexed_none : (xs : List Shown) (heads : List (Option ℕ)) → xs ≡ [] → heads ≡ [] → IsIndexed xs heads
indexed_none xs heads empty none =
    subst (λ ys. IsIndexed ys heads) (sym empty)
    (subst (λ hs. IsIndexed [] hs) (sym none) (record { chained = tt; places = tt; latest = λ s n. refl }))

places-longer : (m n : ℕ) (xs : List Shown) → m ≤ n → HavePlaces m xs → HavePlaces n xs
places-longer m n [] h places = tt
places-longer m n (x ∷ xs) h places = (omega (arith, h, places.0), places-longer m n xs h places.1)

pub indexed_room : (xs : List Shown) (heads more : List (Option ℕ)) → IsIndexed xs heads
    → ((n : ℕ) → head more n ≡ head heads n) → length heads ≤ length more → IsIndexed xs more
indexed_room xs heads more is kept longer =
    record {
      chained = is.chained;
      places = places-longer (length heads) (length more) xs longer is.places;
      latest = λ s n. kept (slot_of s n) ∙ is.latest s n;
    }

pub indexed_shown : (xs : List Shown) (heads : List (Option ℕ)) (x : Shown) → IsIndexed xs heads
    → slot_of x.space x.name < length heads → x.hides ≡ head heads (slot_of x.space x.name)
    → IsIndexed (x ∷ xs) (set heads (slot_of x.space x.name) (Some x.number))
indexed_shown xs heads x is below hides =
    let size = length-set heads (slot_of x.space x.name) (Some x.number) in
    record {
      chained = (hides ∙ is.latest x.space x.name, is.chained);
      places = (
        omega (arith, below, size),
        places-longer (length heads) (length (set heads (slot_of x.space x.name) (Some x.number))) xs
            (omega (arith, size)) is.places,
      );
      latest = λ s n.
          head-slot heads s x.space n x.name (Some x.number) below
          ∙ ap (λ r. if same_space s x.space && x.name == n then Some x.number else r) (is.latest s n);
    }

under-same : (s t : Space) (n m : ℕ) (xs : List Seen) → (same_space s t && m == n) ≡ true
    → latest_of t m xs ≡ latest_of s n xs
under-same Ordinary Ordinary n m xs e = ap (λ q. latest_of Ordinary q xs) (eqb-true m n e)
under-same Ordinary Tag n m xs e = absurd (false≢true e)
under-same Tag Ordinary n m xs e = absurd (false≢true e)
under-same Tag Tag n m xs e = ap (λ q. latest_of Tag q xs) (eqb-true m n e)

back : (b : Bool) (number : ℕ) (hides r h : Option ℕ) → (b ≡ true → hides ≡ r) → h ≡ (if b then Some number else r)
    → (if b then hides else h) ≡ r
back true number hides r h same is = same refl
back false number hides r h same is = is

pub indexed_hidden : (xs : List Shown) (heads : List (Option ℕ)) (x : Shown) → IsIndexed (x ∷ xs) heads
    → IsIndexed xs (set heads (slot_of x.space x.name) x.hides)
indexed_hidden xs heads x is =
    let size = length-set heads (slot_of x.space x.name) x.hides in
    record {
      chained = is.chained.1;
      places =
          places-longer (length heads) (length (set heads (slot_of x.space x.name) x.hides)) xs (omega (arith, size))
          is.places.1;
      latest = λ s n.
          head-slot heads s x.space n x.name x.hides is.places.0
          ∙ back (same_space s x.space && x.name == n) x.number x.hides (latest_of s n (map seen_of xs))
          (head heads (slot_of s n))
          (λ e. is.chained.0 ∙ under-same s x.space n x.name (map seen_of xs) e)
          (is.latest s n);
    }

-- room is made by empty places
pub head_pushed : (heads : List (Option ℕ)) (n : ℕ) → head (heads ++ None ∷ []) n ≡ head heads n
head_pushed [] zero = refl
head_pushed [] (suc n) = refl
head_pushed (h ∷ hs) zero = refl
head_pushed (h ∷ hs) (suc n) = head_pushed hs n

-- hiding from a number on
pub hide_stays : (n : ℕ) (xs : List Seen) → begins_from n xs ≡ false → hide_from n xs ≡ xs
hide_stays n [] e = refl
hide_stays n (x ∷ xs) e = ap (λ b. if b then hide_from n xs else x ∷ xs) e

pub hide_goes_on : (n : ℕ) (xs : List Seen) → begins_from n xs ≡ true → hide_from n (rest_of xs) ≡ hide_from n xs
hide_goes_on n [] e = refl
hide_goes_on n (x ∷ xs) e = sym (ap (λ b. if b then hide_from n xs else x ∷ xs) e)

pub rest_shorter : (n : ℕ) (xs : List Seen) → begins_from n xs ≡ true → length (rest_of xs) < length xs
rest_shorter n [] e = absurd (false≢true e)
rest_shorter n (x ∷ xs) e = omega arith

-- on the vector
pub shown_first : (xs ys : List Shown) (x : Shown) → ys ≡ xs ++ x ∷ [] → reverse ys ≡ x ∷ reverse xs
shown_first xs ys x e = ap reverse e ∙ reverse_push xs x

pub pushed_indexed : (xs ys : List Shown) (heads : List (Option ℕ)) (x : Shown) → IsIndexed (reverse xs) heads
    → ys ≡ xs ++ x ∷ [] → slot_of x.space x.name < length heads → x.hides ≡ head heads (slot_of x.space x.name)
    → IsIndexed (reverse ys) (set heads (slot_of x.space x.name) (Some x.number))
pushed_indexed xs ys heads x is e below hides =
    subst (λ zs. IsIndexed zs (set heads (slot_of x.space x.name) (Some x.number))) (sym (shown_first xs ys x e))
    (indexed_shown (reverse xs) heads x is below hides)

pub pushed_seen : (xs ys : List Shown) (x : Shown) → ys ≡ xs ++ x ∷ []
    → map seen_of (reverse ys) ≡ seen_of x ∷ map seen_of (reverse xs)
pushed_seen xs ys x e = ap (map seen_of) (shown_first xs ys x e)

pub popped_place : (xs ys : List Shown) (heads : List (Option ℕ)) (x : Shown) → IsIndexed (reverse ys) heads
    → ys ≡ xs ++ x ∷ [] → slot_of x.space x.name < length heads
popped_place xs ys heads x is e =
    let first : IsIndexed (x ∷ reverse xs) heads = subst (λ zs. IsIndexed zs heads) (shown_first xs ys x e) is in
    first.places.0

pub popped_indexed : (xs ys : List Shown) (heads : List (Option ℕ)) (x : Shown) → IsIndexed (reverse ys) heads
    → ys ≡ xs ++ x ∷ [] → IsIndexed (reverse xs) (set heads (slot_of x.space x.name) x.hides)
popped_indexed xs ys heads x is e =
    indexed_hidden (reverse xs) heads x (subst (λ zs. IsIndexed zs heads) (shown_first xs ys x e) is)

pub popped_seen : (xs ys : List Shown) (x : Shown) → ys ≡ xs ++ x ∷ []
    → map seen_of (reverse xs) ≡ rest_of (map seen_of (reverse ys))
popped_seen xs ys x e = sym (ap (λ zs. rest_of (map seen_of zs)) (shown_first xs ys x e))
