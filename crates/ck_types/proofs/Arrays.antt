-- The elements of arrays, dimension by dimension.
use Rattle.std.proofs.Common.{◌≡◌, ℕ, ◌-◌, ◌*◌, ◌^◌, ◌<◌, ◌≤◌, true, false, List, take}
use Rattle.std.proofs.Common.{Option, Some, None, refl, ap, sym, subst, ◌∙◌, arith}
use Rattle.std.specs.Prelude.{nat_le}
use Rattle.std.specs.Option.{option_map}
use Rattle.std.proofs.lemmas.Bool.Decides.{nat_tests}
use Rattle.std.proofs.Math.Nat.{mul_assoc, mul-le-mul_left, mul-one, one-mul}
use Rattle.ck_types.specs.Elements.{array_parts, element_count, element_type, saturated, times}
use Rattle.ck_types.specs.TypeTable.{Entry, IsNode, IsTable, as_type, entries_of, fits_type, names_type, type_at}
use Rattle.ck_types.specs.TypeTable.{type_node, type_of}
use Rattle.ck_types.specs.Types.{StructIdentity}
use Rattle.ck_types.specs.declared.types.CType.{CType}
use Rattle.ck_types.specs.declared.types.CType.TheVariants as types
use Rattle.ck_types.specs.declared.types.Node.{Node}
use Rattle.ck_types.specs.declared.types.TypeId.{TypeId}
use Rattle.ck_types.proofs.Entries.{numbers-stand}
use Rattle.ck_types.proofs.InRange.{either}
use Rattle.ck_types.proofs.OneNumber.{type-among}

-- the type of a number, by its node
pub type-is : (identity : ℕ → StructIdentity) (ns : List Node) (i : ℕ) (t : CType) → IsTable ns
    → IsNode ns i (type_node t) → type_at (entries_of identity ns) i ≡ type_of identity (entries_of identity ns) t
type-is identity ns i t table node = ap as_type (numbers-stand identity ns i (type_node t) table node)

some-equal : (p q : TypeId × Option ℕ) → Some p ≡ Some q → p ≡ q
some-equal p q e = cc

abbrev paired : TypeId → Option ℕ → Option (TypeId × Option ℕ)
paired t n = Some (t, n)

first-same : (u v : TypeId) (m n : Option ℕ) → paired u m ≡ paired v n → u ≡ v
first-same u v m n e = ap (λ p. p.0) (some-equal (u, m) (v, n) e)

second-same : (u v : TypeId) (m n : Option ℕ) → paired u m ≡ paired v n → m ≡ n
second-same u v m n e = ap (λ p. p.1) (some-equal (u, m) (v, n) e)

-- an array names what it is of, which has a smaller number
parts-fit : (before : List Node) (t : CType) (of : TypeId) (n : Option ℕ) → array_parts t ≡ Some (of, n)
    → fits_type before t ≡ true → names_type before of.0 ≡ true
parts-fit before (types.Array q u m) of n e h = subst (λ v. names_type before v.0 ≡ true) (first-same u of m n e) h
parts-fit before _ of n e h = absurd (cc)

pub array-fits : (ns : List Node) (i : ℕ) (t : CType) (of : TypeId) (n : Option ℕ) → array_parts t ≡ Some (of, n)
    → fits_type (take i ns) t ≡ true → (names_type ns of.0 ≡ true) × (of.0 < i)
array-fits ns i t of n e h = type-among ns i of.0 (parts-fit (take i ns) t of n e h)

module _ (identity : ℕ → StructIdentity) (es : List Entry) where
  pub element-inner : (t : CType) (of : TypeId) (n : Option ℕ) → array_parts t ≡ Some (of, n)
      → element_type (type_of identity es t) ≡ element_type (type_at es of.0)
  element-inner (types.Array q u m) of n e = ap (λ v. element_type (type_at es v.0)) (first-same u of m n e)
  element-inner _ of n e = absurd (cc)

  pub element-own : (t : CType) → array_parts t ≡ None → element_type (type_of identity es t) ≡ type_of identity es t
  element-own (types.Array q u m) e = absurd (cc)
  element-own types.Void e = refl
  element-own (types.Integer t) e = refl
  element-own (types.Pointer q t) e = refl
  element-own (types.Struct s) e = refl
  element-own (types.Function q r ps v) e = refl

  pub count-inner : (t : CType) (of : TypeId) (n : Option ℕ) → array_parts t ≡ Some (of, n)
      → element_count (type_of identity es t) ≡ times n (element_count (type_at es of.0))
  count-inner (types.Array q u m) of n e =
      let same = first-same u of m n e in
      let size = second-same u of m n e in
      ap (λ v. times m (element_count (type_at es v.0))) same ∙ ap (λ k. times k (element_count (type_at es of.0))) size
  count-inner _ of n e = absurd (cc)

  pub count-own : (t : CType) → array_parts t ≡ None → element_count (type_of identity es t) ≡ Some 1
  count-own (types.Array q u m) e = absurd (cc)
  count-own types.Void e = refl
  count-own (types.Integer t) e = refl
  count-own (types.Pointer q t) e = refl
  count-own (types.Struct s) e = refl
  count-own (types.Function q r ps v) e = refl

-- saturating at each step or at the end is one
saturated-product : (x n : ℕ) → saturated (x * n) ≡ saturated (saturated x * n)
saturated-product x n = either (nat_le x (2 ^ 64 - 1)) small great where
  small : nat_le x (2 ^ 64 - 1) ≡ true → saturated (x * n) ≡ saturated (saturated x * n)
  small h = let same : saturated x ≡ x = grind (arith, nat_tests, h) in ap (λ y. saturated (y * n)) (sym same)

  great : nat_le x (2 ^ 64 - 1) ≡ false → saturated (x * n) ≡ saturated (saturated x * n)
  great h = either (nat_le 1 n) some none where
    top : saturated x ≡ 2 ^ 64 - 1
    top = grind (arith, nat_tests, h)

    some : nat_le 1 n ≡ true → saturated (x * n) ≡ saturated (saturated x * n)
    some e =
        let one : 1 ≤ n = grind (arith, nat_tests, e) in
        let a : x * 1 ≤ x * n = mul-le-mul_left x one in
        let b : (2 ^ 64 - 1) * 1 ≤ (2 ^ 64 - 1) * n = mul-le-mul_left (2 ^ 64 - 1) one in
        rw top (grind (arith, nat_tests, h, a, b))

    none : nat_le 1 n ≡ false → saturated (x * n) ≡ saturated (saturated x * n)
    none e = let zeros : n ≡ 0 = grind (arith, nat_tests, e) in rw zeros (grind arith)

abbrev pub Counted : ℕ → Option ℕ → Option ℕ
Counted so_far rest = option_map saturated (times (Some so_far) rest)

pub counted-none : (rest : Option ℕ) → option_map saturated rest ≡ Counted 1 rest
counted-none None = refl
counted-none (Some m) = ap (λ k. Some (saturated k)) (sym (one-mul m))

pub counted-more : (so_far n : ℕ) (rest : Option ℕ) → Counted so_far (times (Some n) rest)
    ≡ Counted (saturated (so_far * n)) rest
counted-more so_far n None = refl
counted-more so_far n (Some m) = ap (λ k. Some (saturated k)) (sym (mul_assoc so_far n m))
    ∙ ap Some (saturated-product (so_far * n) m)

pub counted-unknown : (so_far : ℕ) (rest : Option ℕ) → Counted so_far (times None rest) ≡ None
counted-unknown so_far rest = refl

pub counted-all : (so_far : ℕ) → so_far ≤ 2 ^ 64 - 1 → Counted so_far (Some 1) ≡ Some so_far
counted-all so_far h =
    let same : saturated (so_far * 1) ≡ so_far = rw (mul-one so_far) (grind (arith, h)) in
    ap Some same
