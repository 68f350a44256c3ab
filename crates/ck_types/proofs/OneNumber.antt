-- Equal entries of a table have one number.
use Rattle.std.proofs.Common.{◌≡◌, ℕ, zero, suc, ◌<◌, Bool, true, false, List, [], ◌∷◌, ◌++◌, length, take, get_or}
use Rattle.std.proofs.Common.{refl, ap, sym, subst, ◌∙◌, arith}
use Rattle.std.specs.Prelude.{nat_lt}
use Rattle.std.proofs.lemmas.Bool.{and_parts}
use Rattle.std.proofs.lemmas.Bool.Decides.{nat_tests}
use Rattle.std.proofs.lemmas.List.{append_assoc, append-nil}
use Rattle.ck_types.specs.TableLaws.{EqualTypesHaveOneNumber}
use Rattle.ck_types.specs.TypeTable.{Entry, IsTable, entries_of, entry_at, entry_of, fits, fits_after, fits_type}
use Rattle.ck_types.specs.TypeTable.{is_type, list_at, names_list, names_type, plain_qualifiers, type_at, type_of}
use Rattle.ck_types.specs.TypeTable.{as_list, as_type, AType, AList}
use Rattle.ck_types.specs.Types.{Qualifiers as PlainQualifiers, StructIdentity}
use Rattle.ck_types.specs.declared.types.CType.{CType}
use Rattle.ck_types.specs.declared.types.CType.TheVariants as types
use Rattle.ck_types.specs.declared.types.Node.{Node}
use Rattle.ck_types.specs.declared.types.Node.TheVariants as nodes
use Rattle.ck_types.specs.declared.types.Qualifiers.{Qualifiers}
use Rattle.ck_types.proofs.Entries.{numbers-stand}
use Rattle.ck_types.proofs.InRange.{either}
use Rattle.ck_types.specs.NodeEquality.{list_id, qualifiers, struct_id, type_id}
use Rattle.ck_types.proofs.Tables.{is-node, list-named, list-there, type-named, type-there}

-- the node of a number fits what is before it
pub node-fits : (before ns : List Node) (i : ℕ) (d : Node) → i < length ns → fits_after before ns ≡ true
    → fits (before ++ take i ns) (get_or ns i d) ≡ true
node-fits before [] i d h fit = absurd (omega arith)
node-fits before (n ∷ ns) zero d h fit =
    subst (λ b. fits b n ≡ true) (sym (append-nil before))
    (and_parts (fits before n) (fits_after (before ++ n ∷ []) ns) fit).0
node-fits before (n ∷ ns) (suc i) d h fit =
    subst (λ b. fits b (get_or ns i d) ≡ true) (append_assoc before (n ∷ []) (take i ns))
    (node-fits (before ++ n ∷ []) ns i d (omega arith)
    (and_parts (fits before n) (fits_after (before ++ n ∷ []) ns) fit).1)

-- what is named among the first nodes is named among all, and has a smaller number
pub type-among : (ns : List Node) (i c : ℕ) → names_type (take i ns) c ≡ true → (names_type ns c ≡ true) × (c < i)
type-among ns zero c h = absurd (cc)
type-among [] (suc i) c h = absurd (cc)
type-among (n ∷ ns) (suc i) zero h = (h, omega arith)
type-among (n ∷ ns) (suc i) (suc c) h = let rest = type-among ns i c h in (rest.0, omega (arith, rest.1))

pub list-among : (ns : List Node) (i c : ℕ) → names_list (take i ns) c ≡ true → (names_list ns c ≡ true) × (c < i)
list-among ns zero c h = absurd (cc)
list-among [] (suc i) c h = absurd (cc)
list-among (n ∷ ns) (suc i) zero h = (h, omega arith)
list-among (n ∷ ns) (suc i) (suc c) h = let rest = list-among ns i c h in (rest.0, omega (arith, rest.1))

constant-of : PlainQualifiers → Bool
constant-of q = q.constant

volatile-of : PlainQualifiers → Bool
volatile-of q = q.volatile

qualifiers-equal : (q r : Qualifiers) → plain_qualifiers q ≡ plain_qualifiers r → q ≡ r
unfolding constant-of volatile-of
qualifiers-equal q r h =
    let c : q.constant ≡ r.constant = ap constant-of h in
    let v : q.volatile ≡ r.volatile = ap volatile-of h in
    ap (λ b. qualifiers b q.volatile) c ∙ ap (qualifiers r.constant) v

module _ (identity : ℕ → StructIdentity) (es : List Entry) where
  type-entry : (n : Node) → is_type n ≡ true → entry_of identity es n ≡ AType (as_type (entry_of identity es n))
  type-entry (nodes.Type t) h = refl
  type-entry nodes.NoParameters h = absurd (cc)
  type-entry (nodes.Parameter first rest) h = absurd (cc)

  list-entry : (n : Node) → is_type n ≡ false → entry_of identity es n ≡ AList (as_list (entry_of identity es n))
  list-entry (nodes.Type t) h = absurd (cc)
  list-entry nodes.NoParameters h = refl
  list-entry (nodes.Parameter first rest) h = refl

  -- two nodes over nodes that are told apart
  module _ (is_one : (s t : ℕ) → identity s ≡ identity t → s ≡ t) (before after : List Node)
      (same_type : (c d : ℕ) → names_type before c ≡ true → names_type after d ≡ true → type_at es c ≡ type_at es d
      → c ≡ d)
      (same_list : (c d : ℕ) → names_list before c ≡ true → names_list after d ≡ true → list_at es c ≡ list_at es d
      → c ≡ d) where
    types-equal : (t u : CType) → fits_type before t ≡ true → fits_type after u ≡ true
        → type_of identity es t ≡ type_of identity es u → t ≡ u
    types-equal types.Void types.Void f g h = refl
    types-equal (types.Integer t) (types.Integer u) f g h = let e : t ≡ u = cc in ap types.Integer e
    types-equal (types.Pointer q t) (types.Pointer r u) f g h =
        let p : plain_qualifiers q ≡ plain_qualifiers r = cc in
        let inner : type_at es t.0 ≡ type_at es u.0 = cc in
        let a = qualifiers-equal q r p in
        let b : t ≡ u = ap type_id (same_type t.0 u.0 f g inner) in
        cc
    types-equal (types.Array q t n) (types.Array r u m) f g h =
        let p : plain_qualifiers q ≡ plain_qualifiers r = cc in
        let inner : type_at es t.0 ≡ type_at es u.0 = cc in
        let count : n ≡ m = cc in
        let a = qualifiers-equal q r p in
        let b : t ≡ u = ap type_id (same_type t.0 u.0 f g inner) in
        cc
    types-equal (types.Struct s) (types.Struct t) f g h =
        let e : identity s.0 ≡ identity t.0 = cc in
        ap (λ n. types.Struct (struct_id n)) (is_one s.0 t.0 e)
    types-equal (types.Function q t ps v) (types.Function r u qs w) f g h =
        let fs = and_parts (names_type before t.0) (names_list before ps.0) f in
        let gs = and_parts (names_type after u.0) (names_list after qs.0) g in
        let p : plain_qualifiers q ≡ plain_qualifiers r = cc in
        let inner : type_at es t.0 ≡ type_at es u.0 = cc in
        let list : list_at es ps.0 ≡ list_at es qs.0 = cc in
        let more : v ≡ w = cc in
        let a = qualifiers-equal q r p in
        let b : t ≡ u = ap type_id (same_type t.0 u.0 fs.0 gs.0 inner) in
        let c : ps ≡ qs = ap list_id (same_list ps.0 qs.0 fs.1 gs.1 list) in
        cc
    types-equal _ _ f g h = absurd (cc)

    nodes-equal : (a b : Node) → fits before a ≡ true → fits after b ≡ true
        → entry_of identity es a ≡ entry_of identity es b → a ≡ b
    nodes-equal (nodes.Type t) (nodes.Type u) f g h =
        let e : type_of identity es t ≡ type_of identity es u = cc in
        ap nodes.Type (types-equal t u f g e)
    nodes-equal nodes.NoParameters nodes.NoParameters f g h = refl
    nodes-equal (nodes.Parameter t ps) (nodes.Parameter u qs) f g h =
        let fs = and_parts (names_type before t.0) (names_list before ps.0) f in
        let gs = and_parts (names_type after u.0) (names_list after qs.0) g in
        let inner : type_at es t.0 ≡ type_at es u.0 = cc in
        let list : list_at es ps.0 ≡ list_at es qs.0 = cc in
        let b : t ≡ u = ap type_id (same_type t.0 u.0 fs.0 gs.0 inner) in
        let c : ps ≡ qs = ap list_id (same_list ps.0 qs.0 fs.1 gs.1 list) in
        cc
    nodes-equal _ _ f g h = absurd (cc)

module _ (identity : ℕ → StructIdentity) (is_one : (s t : ℕ) → identity s ≡ identity t → s ≡ t) (ns : List Node)
    (table : IsTable ns) where
  abbrev es : List Entry
  es = entries_of identity ns

  abbrev none : Node
  none = nodes.NoParameters

  stands : (i : ℕ) → i < length ns → entry_at es i ≡ entry_of identity es (get_or ns i none)
  stands i h = numbers-stand identity ns i (get_or ns i none) table (is-node ns i none (get_or ns i none) h refl)

  type-there-entry : (i : ℕ) → names_type ns i ≡ true → entry_at es i ≡ AType (type_at es i)
  type-there-entry i h =
      let here = stands i (type-there ns i h) in
      here ∙ type-entry identity es (get_or ns i none) (type-named ns i none h)
      ∙ ap (λ e. AType (as_type e)) (sym here)

  list-there-entry : (i : ℕ) → names_list ns i ≡ true → entry_at es i ≡ AList (list_at es i)
  list-there-entry i h =
      let here = stands i (list-there ns i h) in
      here ∙ list-entry identity es (get_or ns i none) (list-named ns i none h)
      ∙ ap (λ e. AList (as_list e)) (sym here)

  index-equal : (i j : ℕ) → i < length ns → j < length ns → get_or ns i none ≡ get_or ns j none → i ≡ j
  index-equal i j h k same = either (nat_lt i j)
      (λ less. let l : i < j = grind (arith, nat_tests, less) in absurd (table.distinct i j none l k same))
      (λ no_less. either (nat_lt j i)
      (λ less. let l : j < i = grind (arith, nat_tests, less) in absurd (table.distinct j i none l h (sym same)))
      (λ no_more. grind (arith, nat_tests, no_less, no_more)))

  one-number : (k i j : ℕ) → i < k → i < length ns → j < length ns → entry_at es i ≡ entry_at es j → i ≡ j
  one-number zero i j less h g same = absurd (omega arith)
  one-number (suc k) i j less h g same = index-equal i j h g (nodes-equal identity es is_one (take i ns) (take j ns)
      (λ c d p q e. let there = type-among ns i c p in let other = type-among ns j d q in
      one-number k c d (omega (arith, there.1, less)) (type-there ns c there.0) (type-there ns d other.0)
      (type-there-entry c there.0 ∙ ap AType e ∙ sym (type-there-entry d other.0)))
      (λ c d p q e. let there = list-among ns i c p in let other = list-among ns j d q in
      one-number k c d (omega (arith, there.1, less)) (list-there ns c there.0) (list-there ns d other.0)
      (list-there-entry c there.0 ∙ ap AList e ∙ sym (list-there-entry d other.0)))
      (get_or ns i none) (get_or ns j none) (node-fits [] ns i none h table.fitting)
      (node-fits [] ns j none g table.fitting) (sym (stands i h) ∙ same ∙ stands j g))

pub equal-one_number : EqualTypesHaveOneNumber
equal-one_number identity ns i j table is_one h g same =
    one-number identity is_one ns table (suc i) i j (omega arith) h g same
