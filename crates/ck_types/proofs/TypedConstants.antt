-- Each integer constant whose type is to exist within 64 bits has a type in the table of 6.4.4.1, and no other has.
use Rattle.std.proofs.Common.{◌≡◌, ℕ, ◌^◌, pos, Bool, true, false, List, [], ◌∷◌, Option, Some, None}
use Rattle.std.proofs.Common.{refl, sym, ◌∙◌, arith}
use Rattle.std.specs.Prelude.{◌&&◌, ◌==◌, not, nat_lt, count_by, length, if◌then◌else◌}
use Rattle.std.specs.Option.{is_some}
use Rattle.std.proofs.lemmas.Bool.Decides.{nat_tests}
use Rattle.ck_base.specs.IntegerConstants.{base_of, digits_of, is_integer_constant, is_suffix, is_unsigned_suffix}
use Rattle.ck_base.specs.IntegerConstants.{suffix_of, value_limit, value_of}
use Rattle.ck_types.specs.ConstantTypes.{ConstantsHaveTypes, constant_type, first_representing}
use Rattle.ck_types.specs.ConstantTypes.{is_long, suffix_written, with_value}
use Rattle.ck_types.specs.IntegerTypes.{represents}
use Rattle.ck_types.specs.declared.integer_types.IntegerType.{IntegerType}
use Rattle.ck_types.specs.declared.integer_types.IntegerType.TheVariants as types
use Rattle.ck_types.specs.declared.constants.Suffix.{Suffix}
use Rattle.ck_types.specs.declared.constants.Suffix.TheVariants as suffixes
use Rattle.ck_types.specs.declared.operators.IntegerValue.{IntegerValue}
use Rattle.ck_types.proofs.InRange.{either}

-- what a type of 64 bits can represent is below 2^64, and what a signed one can is below 2^63
below : (t : IntegerType) (v : ℕ) → represents t (pos v) ≡ true → nat_lt v (2 ^ 64) ≡ true
below types.Bool v h = grind (arith, nat_tests, h)
below types.Char v h = grind (arith, nat_tests, h)
below types.SignedChar v h = grind (arith, nat_tests, h)
below types.Short v h = grind (arith, nat_tests, h)
below types.UnsignedShort v h = grind (arith, nat_tests, h)
below types.Int v h = grind (arith, nat_tests, h)
below types.UnsignedInt v h = grind (arith, nat_tests, h)
below types.Long v h = grind (arith, nat_tests, h)
below types.UnsignedLong v h = grind (arith, nat_tests, h)
below types.LongLong v h = grind (arith, nat_tests, h)
below types.UnsignedLongLong v h = grind (arith, nat_tests, h)

int-below : (v : ℕ) → represents types.Int (pos v) ≡ true → nat_lt v (2 ^ 63) ≡ true
int-below v h = grind (arith, nat_tests, h)

long-below : (v : ℕ) → represents types.Long (pos v) ≡ true → nat_lt v (2 ^ 63) ≡ true
long-below v h = grind (arith, nat_tests, h)

signed-last : (v : ℕ) → represents types.LongLong (pos v) ≡ nat_lt v (2 ^ 63)
signed-last v = either (nat_lt v (2 ^ 63)) (λ h. grind (arith, nat_tests, h)) (λ h. grind (arith, nat_tests, h))

unsigned-last : (v : ℕ) → represents types.UnsignedLongLong (pos v) ≡ nat_lt v (2 ^ 64)
unsigned-last v = either (nat_lt v (2 ^ 64)) (λ h. grind (arith, nat_tests, h)) (λ h. grind (arith, nat_tests, h))

-- the first type that can represent a value, by the last
last-of : (t : IntegerType) (v limit : ℕ) → represents t (pos v) ≡ nat_lt v limit
    → is_some (first_representing (t ∷ []) (pos v)) ≡ nat_lt v limit
last-of t v limit e = either (represents t (pos v)) (λ h. rw h (sym h ∙ e)) (λ h. rw h (sym h ∙ e))

one-before : (t : IntegerType) (ts : List IntegerType) (v limit : ℕ)
    → (represents t (pos v) ≡ true → nat_lt v limit ≡ true)
    → is_some (first_representing ts (pos v)) ≡ nat_lt v limit
    → is_some (first_representing (t ∷ ts) (pos v)) ≡ nat_lt v limit
one-before t ts v limit less rest = either (represents t (pos v)) (λ h. rw h (sym (less h))) (λ h. rw h rest)

abbrev UL : List IntegerType
UL = types.UnsignedLong ∷ types.UnsignedLongLong ∷ []

unsigned-long : (v : ℕ) → is_some (first_representing UL (pos v)) ≡ nat_lt v (2 ^ 64)
unsigned-long v =
    one-before types.UnsignedLong (types.UnsignedLongLong ∷ []) v (2 ^ 64) (below types.UnsignedLong v)
    (last-of types.UnsignedLongLong v (2 ^ 64) (unsigned-last v))

unsigned-int : (v : ℕ) → is_some (first_representing (types.UnsignedInt ∷ UL) (pos v)) ≡ nat_lt v (2 ^ 64)
unsigned-int v = one-before types.UnsignedInt UL v (2 ^ 64) (below types.UnsignedInt v) (unsigned-long v)

abbrev AnyLongLong : List IntegerType
AnyLongLong = types.LongLong ∷ types.UnsignedLongLong ∷ []

any-long_long : (v : ℕ) → is_some (first_representing AnyLongLong (pos v)) ≡ nat_lt v (2 ^ 64)
any-long_long v = one-before types.LongLong (types.UnsignedLongLong ∷ []) v (2 ^ 64) (below types.LongLong v)
    (last-of types.UnsignedLongLong v (2 ^ 64) (unsigned-last v))

abbrev AnyLong : List IntegerType
AnyLong = types.Long ∷ types.UnsignedLong ∷ AnyLongLong

any-long : (v : ℕ) → is_some (first_representing AnyLong (pos v)) ≡ nat_lt v (2 ^ 64)
any-long v = one-before types.Long (types.UnsignedLong ∷ AnyLongLong) v (2 ^ 64) (below types.Long v)
    (one-before types.UnsignedLong AnyLongLong v (2 ^ 64) (below types.UnsignedLong v) (any-long_long v))

any-int : (v : ℕ) → is_some (first_representing (types.Int ∷ types.UnsignedInt ∷ AnyLong) (pos v)) ≡ nat_lt v (2 ^ 64)
any-int v = one-before types.Int (types.UnsignedInt ∷ AnyLong) v (2 ^ 64) (below types.Int v)
    (one-before types.UnsignedInt AnyLong v (2 ^ 64) (below types.UnsignedInt v) (any-long v))

signed-long : (v : ℕ) → is_some (first_representing (types.Long ∷ types.LongLong ∷ []) (pos v)) ≡ nat_lt v (2 ^ 63)
signed-long v =
    one-before types.Long (types.LongLong ∷ []) v (2 ^ 63) (long-below v)
    (last-of types.LongLong v (2 ^ 63) (signed-last v))

signed-int : (v : ℕ) → is_some (first_representing (types.Int ∷ types.Long ∷ types.LongLong ∷ []) (pos v))
    ≡ nat_lt v (2 ^ 63)
signed-int v = one-before types.Int (types.Long ∷ types.LongLong ∷ []) v (2 ^ 63) (int-below v) (signed-long v)

abbrev written : Bool → Bool → Bool → Suffix
written none one is_unsigned =
    if none then (if is_unsigned then suffixes.U else suffixes.Nothing)
    else if one then (if is_unsigned then suffixes.UL else suffixes.L)
    else (if is_unsigned then suffixes.ULL else suffixes.LL)

abbrev EndsWith : Bool → Bool → Bool → Bool → ℕ → Type 0
EndsWith is_decimal is_unsigned none one v =
    is_some (constant_type is_decimal (written none one is_unsigned) v)
    ≡ nat_lt v (if is_decimal && not is_unsigned then 2 ^ 63 else 2 ^ 64)

ends : (is_decimal is_unsigned none one : Bool) (v : ℕ) → EndsWith is_decimal is_unsigned none one v
ends true true true one v = unsigned-int v
ends true true false true v = unsigned-long v
ends true true false false v = last-of types.UnsignedLongLong v (2 ^ 64) (unsigned-last v)
ends true false true one v = signed-int v
ends true false false true v = signed-long v
ends true false false false v = last-of types.LongLong v (2 ^ 63) (signed-last v)
ends false true true one v = unsigned-int v
ends false true false true v = unsigned-long v
ends false true false false v = last-of types.UnsignedLongLong v (2 ^ 64) (unsigned-last v)
ends false false true one v = any-int v
ends false false false true v = any-long v
ends false false false false v = any-long_long v

with-value : (v : ℕ) (o : Option IntegerType) → is_some (with_value v o) ≡ is_some o
with-value v None = refl
with-value v (Some t) = refl

if-some : (b c : Bool) (o : Option IntegerValue) → (b ≡ true → is_some o ≡ c)
    → (b && c) ≡ is_some (if b then o else None)
if-some true c o h = sym (h refl)
if-some false c o h = refl

pub constants-typed : ConstantsHaveTypes
unfolding is_integer_constant
constants-typed text =
    let base = base_of text in
    let digits = digits_of base text in
    let suffix = suffix_of base text in
    let v = value_of base digits in
    let type = constant_type (base == 10) (suffix_written suffix) v in
    if-some (nat_lt 0 (length digits) && is_suffix suffix) (nat_lt v (value_limit base suffix)) (with_value v type)
    (λ h. with-value v type ∙ ends (base == 10) (is_unsigned_suffix suffix) (count_by is_long suffix == 0)
    (count_by is_long suffix == 1) v)
