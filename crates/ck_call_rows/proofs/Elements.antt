-- The elements of a list, one after the other, and tests that hold of each.
use Rattle.std.proofs.Common.{◌≡◌, ◌<◌, ◌≤◌, ◌+◌, ℕ, zero, suc, Bool, true, false, List, [], ◌∷◌, length, drop, get_or}
use Rattle.std.proofs.Common.{refl, sym, ap, subst, ◌∙◌, arith}
use Rattle.std.proofs.lemmas.List.{drop_more, drop_all, get_or_default}
use Rattle.std.specs.Prelude.{◌&&◌, map, Some, slice_get}
use Rattle.ck_tables.specs.Program.{read}
use Rattle.ck_tables.specs.Rows.{IsRow}

module _ {X : Type 0} where
  pub drop-next : (xs : List X) (i : ℕ) (x : X) → i < length xs → x ≡ get_or xs i x → drop i xs ≡ x ∷ drop (i + 1) xs
  drop-next xs i x h is = drop_more xs i x h ∙ ap (λ y. y ∷ drop (i + 1) xs) (sym is)

  pub drop-none : (xs : List X) (i : ℕ) → length xs ≤ i → drop i xs ≡ []
  drop-none xs i h = drop_all i xs h

first : (a b : Bool) → (a && b) ≡ true → a ≡ true
first true b h = refl
first false b h = h

second : (a b : Bool) → (a && b) ≡ true → b ≡ true
second true b h = h
second false b h = absurd (cc)

-- a test that holds of a list holds of an element
pub holds-at : {X : Type 0} (test : X → Bool) (all : List X → Bool)
    → ((x : X) (xs : List X) → all (x ∷ xs) ≡ (test x && all xs)) → (xs : List X) (i : ℕ) (x : X)
    → all xs ≡ true → i < length xs → x ≡ get_or xs i x → test x ≡ true
holds-at test all next [] i x h low is = absurd (omega arith)
holds-at test all next (y ∷ xs) zero x h low is =
    ap test is ∙ first (test y) (all xs) (sym (next y xs) ∙ h)
holds-at test all next (y ∷ xs) (suc i) x h low is =
    holds-at test all next xs i x (second (test y) (all xs) (sym (next y xs) ∙ h)) (omega arith) is

-- a row of a list that is read
pub read-row : {X Y : Type 0} (none : Y) (plain : X → Y) (xs : List X) (i : ℕ) (x : X) → IsRow xs i x
    → read none plain xs i ≡ plain x
read-row none plain [] i x row = let h = row.within in absurd (omega arith)
read-row none plain (y ∷ ys) zero x row = ap plain (row.is y)
read-row none plain (y ∷ ys) (suc i) x row =
    let h = row.within in
    let earlier : IsRow ys i x = record { within = omega arith; is = row.is } in
    read-row none plain ys i x earlier

-- lists that agree in what is seen of their elements
pub record SeenAt {X Y : Type 0} (see : X → Y) (xs : List X) (i : ℕ) (y : X) : Type 0 where
  pub element : X
  pub at : slice_get xs i ≡ Some element
  pub seen : see element ≡ see y

pub seen-at : {X Y : Type 0} (see : X → Y) (xs ys : List X) (i : ℕ) (y : X) → map see xs ≡ map see ys
    → i < length ys → y ≡ get_or ys i y → SeenAt see xs i y
seen-at see xs [] i y e low is = absurd (omega arith)
seen-at see [] (z ∷ ys) i y e low is = absurd (cc)
seen-at see (x ∷ xs) (z ∷ ys) zero y e low is =
    let same : see x ≡ see z = cc in record { element = x; at = refl; seen = same ∙ ap see (sym is) }
seen-at see (x ∷ xs) (z ∷ ys) (suc i) y e low is =
    let rest : map see xs ≡ map see ys = cc in
    let later = seen-at see xs ys i y rest (omega arith) is in
    record { element = later.element; at = later.at; seen = later.seen }

-- a test that holds of the elements from one on holds of those after it
pub holds-next : {X : Type 0} (test : X → Bool) (all : List X → Bool)
    → ((x : X) (xs : List X) → all (x ∷ xs) ≡ (test x && all xs)) → (xs : List X) (i : ℕ)
    → all (drop i xs) ≡ true → i < length xs → all (drop (i + 1) xs) ≡ true
holds-next test all next [] i h low = absurd (omega arith)
holds-next test all next (y ∷ xs) zero h low = second (test y) (all xs) (sym (next y xs) ∙ h)
holds-next test all next (y ∷ xs) (suc i) h low =
    let number : suc i + 1 ≡ suc (i + 1) = omega arith in
    ap (λ j. all (drop j (y ∷ xs))) number ∙ holds-next test all next xs i h (omega arith)

-- an element that a loop came to, as a row
pub row-of : {X : Type 0} (ys xs : List X) (i : ℕ) (x : X) → ys ≡ xs → i < length ys → x ≡ get_or ys i x → IsRow xs i x
row-of ys xs i x same low is =
    let at : IsRow ys i x = record { within = low; is = λ d. get_or_default ys i d x low ∙ sym is } in
    subst (λ zs. IsRow zs i x) same at
