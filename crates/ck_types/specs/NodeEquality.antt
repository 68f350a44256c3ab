-- That nodes which the code finds the same are equal, so that they may be keys that are hashed.
use Rattle.std.proofs.Common.{◌≡◌, ℕ, Bool, true, false, Option, Some, None, refl, ap, sym, subst, ◌∙◌, arith}
use Rattle.std.proofs.lemmas.Bool.{and_parts, eqb-true}
use Rattle.std.specs.Cmp.{IsEquivalence, IsPartialEquivalence, partial_equiv_from_equiv}
use Rattle.std.specs.Prelude.{◌&&◌, ◌==◌, if◌then◌else◌, IsTrue}
use Rattle.ck_types.specs.IntegerTypes.{rank, is_signed}
use Rattle.ck_types.specs.SameNodes.{same_count, same_node, same_type, same_written, writes}
use Rattle.ck_types.specs.Types.{same_integer, same_truth}
use Rattle.ck_types.specs.declared.integer_types.IntegerType.{IntegerType}
use Rattle.ck_types.specs.declared.integer_types.IntegerType.TheVariants as integers
use Rattle.ck_types.specs.declared.types.CType.{CType}
use Rattle.ck_types.specs.declared.types.CType.TheVariants as types
use Rattle.ck_types.specs.declared.types.Node.{Node}
use Rattle.ck_types.specs.declared.types.Node.TheVariants as nodes
use Rattle.ck_types.specs.declared.types.ParametersId.{ParametersId}
use Rattle.ck_types.specs.declared.types.Qualifiers.{Qualifiers}
use Rattle.ck_types.specs.declared.types.StructId.{StructId}
use Rattle.ck_types.specs.declared.types.TypeId.{TypeId}

pub and-true : {a b : Bool} → a ≡ true → b ≡ true → (a && b) ≡ true
and-true {a} {b} p q = rw (p, q) refl

pub same_truth-self : (b : Bool) → same_truth b b ≡ true
same_truth-self true = refl
same_truth-self false = refl

pub equal-self : (n : ℕ) → (n == n) ≡ true
equal-self n = grind arith

pub same_integer-self : (t : IntegerType) → same_integer t t ≡ true
same_integer-self t = and-true (equal-self (rank t)) (same_truth-self (is_signed t))

truth-equal : (a b : Bool) → same_truth a b ≡ true → a ≡ b
truth-equal true true h = refl
truth-equal true false h = absurd (cc)
truth-equal false true h = absurd (cc)
truth-equal false false h = refl

-- a type by its rank and sign
abbrev ranked : ℕ → Bool → IntegerType
ranked r true =
    if r == 1 then integers.SignedChar
    else if r == 2 then integers.Short
    else if r == 3 then integers.Int
    else if r == 4 then integers.Long
    else integers.LongLong
ranked r false =
    if r == 0 then integers.Bool
    else if r == 1 then integers.Char
    else if r == 2 then integers.UnsignedShort
    else if r == 3 then integers.UnsignedInt
    else if r == 4 then integers.UnsignedLong
    else integers.UnsignedLongLong

ranked-is : (t : IntegerType) → ranked (rank t) (is_signed t) ≡ t
ranked-is integers.Bool = refl
ranked-is integers.Char = refl
ranked-is integers.SignedChar = refl
ranked-is integers.Short = refl
ranked-is integers.UnsignedShort = refl
ranked-is integers.Int = refl
ranked-is integers.UnsignedInt = refl
ranked-is integers.Long = refl
ranked-is integers.UnsignedLong = refl
ranked-is integers.LongLong = refl
ranked-is integers.UnsignedLongLong = refl

integer-equal : (t u : IntegerType) → same_integer t u ≡ true → t ≡ u
integer-equal t u h =
    let parts = and_parts (rank t == rank u) (same_truth (is_signed t) (is_signed u)) h in
    let r : rank t ≡ rank u = eqb-true (rank t) (rank u) parts.0 in
    let s : is_signed t ≡ is_signed u = truth-equal (is_signed t) (is_signed u) parts.1 in
    sym (ranked-is t) ∙ ap (λ n. ranked n (is_signed t)) r ∙ ap (ranked (rank u)) s ∙ ranked-is u

abbrev pub qualifiers : Bool → Bool → Qualifiers
qualifiers c v = record { constant = c; volatile = v }

abbrev pub type_id : ℕ → TypeId
type_id n = record { 0 = n }

abbrev pub list_id : ℕ → ParametersId
list_id n = record { 0 = n }

abbrev pub struct_id : ℕ → StructId
struct_id n = record { 0 = n }

written-equal : (p q : Qualifiers) → same_written p q ≡ true → p ≡ q
written-equal p q h =
    let parts = and_parts (same_truth p.constant q.constant) (same_truth p.volatile q.volatile) h in
    ap (λ c. qualifiers c p.volatile) (truth-equal p.constant q.constant parts.0)
    ∙ ap (qualifiers q.constant) (truth-equal p.volatile q.volatile parts.1)

count-equal : (n m : Option ℕ) → same_count n m ≡ true → n ≡ m
count-equal None None h = refl
count-equal None (Some m) h = absurd (cc)
count-equal (Some n) None h = absurd (cc)
count-equal (Some n) (Some m) h = ap Some (eqb-true n m h)

type_id-equal : (t u : TypeId) → (t.0 == u.0) ≡ true → t ≡ u
type_id-equal t u h = ap type_id (eqb-true t.0 u.0 h)

list_id-equal : (t u : ParametersId) → (t.0 == u.0) ≡ true → t ≡ u
list_id-equal t u h = ap list_id (eqb-true t.0 u.0 h)

struct_id-equal : (t u : StructId) → (t.0 == u.0) ≡ true → t ≡ u
struct_id-equal t u h = ap struct_id (eqb-true t.0 u.0 h)

type-equal : (a b : CType) → same_type a b ≡ true → a ≡ b
type-equal types.Void types.Void h = refl
type-equal (types.Integer t) (types.Integer u) h = ap types.Integer (integer-equal t u h)
type-equal (types.Pointer p t) (types.Pointer q u) h =
    let parts = and_parts (same_written p q) (t.0 == u.0) h in
    let q = written-equal p q parts.0 in
    let e = type_id-equal t u parts.1 in
    cc
type-equal (types.Array p t n) (types.Array q u m) h =
    let parts = and_parts (same_written p q && t.0 == u.0) (same_count n m) h in
    let first = and_parts (same_written p q) (t.0 == u.0) parts.0 in
    let w = written-equal p q first.0 in
    let e = type_id-equal t u first.1 in
    let c = count-equal n m parts.1 in
    cc
type-equal (types.Struct s) (types.Struct t) h = ap types.Struct (struct_id-equal s t h)
type-equal (types.Function p t ps v) (types.Function q u qs w) h =
    let parts = and_parts (same_written p q && t.0 == u.0 && ps.0 == qs.0) (same_truth v w) h in
    let first = and_parts (same_written p q && t.0 == u.0) (ps.0 == qs.0) parts.0 in
    let second = and_parts (same_written p q) (t.0 == u.0) first.0 in
    let a = written-equal p q second.0 in
    let b = type_id-equal t u second.1 in
    let c = list_id-equal ps qs first.1 in
    let d = truth-equal v w parts.1 in
    cc
type-equal _ _ h = absurd (cc)

pub node-equal : (a b : Node) → same_node a b ≡ true → a ≡ b
node-equal (nodes.Type t) (nodes.Type u) h = ap nodes.Type (type-equal t u h)
node-equal nodes.NoParameters nodes.NoParameters h = refl
node-equal (nodes.Parameter t ps) (nodes.Parameter u qs) h =
    let parts = and_parts (t.0 == u.0) (ps.0 == qs.0) h in
    let e = type_id-equal t u parts.0 in
    let f = list_id-equal ps qs parts.1 in
    cc
node-equal _ _ h = absurd (cc)

written-self : (q : Qualifiers) → same_written q q ≡ true
written-self q = and-true (same_truth-self q.constant) (same_truth-self q.volatile)

count-self : (n : Option ℕ) → same_count n n ≡ true
count-self None = refl
count-self (Some n) = equal-self n

type-self : (a : CType) → same_type a a ≡ true
type-self types.Void = refl
type-self (types.Integer t) = same_integer-self t
type-self (types.Pointer q t) = and-true (written-self q) (equal-self t.0)
type-self (types.Array q t n) = and-true (and-true (written-self q) (equal-self t.0)) (count-self n)
type-self (types.Struct s) = equal-self s.0
type-self (types.Function q t ps v) =
    and-true (and-true (and-true (written-self q) (equal-self t.0)) (equal-self ps.0)) (same_truth-self v)

pub node-self : (a : Node) → same_node a a ≡ true
node-self (nodes.Type t) = type-self t
node-self nodes.NoParameters = refl
node-self (nodes.Parameter t ps) = and-true (equal-self t.0) (equal-self ps.0)

-- equality of nodes decides whether they are one
both-ways : (a b : Bool) → (a ≡ true → b ≡ true) → (b ≡ true → a ≡ true) → a ≡ b
both-ways true b to from = sym (to refl)
both-ways false true to from = from refl
both-ways false false to from = refl

node-symmetric : (a b : Node) → same_node a b ≡ true → same_node b a ≡ true
node-symmetric a b h = subst (λ n. same_node n a ≡ true) (node-equal a b h) (node-self a)

pub whole : IsEquivalence same_node
whole = record {
  refl = node-self;
  symm = λ a b. both-ways (same_node a b) (same_node b a) (node-symmetric a b) (node-symmetric b a);
  congr = λ a b c h. ap (λ n. same_node n c) (node-equal a b h);
}

pub partial : IsPartialEquivalence same_node
partial = partial_equiv_from_equiv whole

pub writes-equal : (a b : Node) → IsTrue (same_node a b) → writes a ≡ writes b
writes-equal a b h = ap writes (node-equal a b h)
