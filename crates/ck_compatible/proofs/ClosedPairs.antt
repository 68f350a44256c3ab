-- Pairs that are settled one after another; where all are, what they stand for is compatible.
use Rattle.std.proofs.Common.{◌≡◌, ℕ, zero, suc, ◌+◌, ◌<◌, ◌≤◌, ◌⊎◌, inl, inr, Bool, true, false, List, []}
use Rattle.std.proofs.Common.{◌∷◌, take, length}
use Rattle.std.proofs.Common.{Option, Some, None, refl, ap, sym, subst, ◌∙◌, arith}
use Rattle.std.specs.Prelude.{◌&&◌, ◌==◌, slice_get}
use Rattle.std.proofs.lemmas.Bool.{and_parts, eqb-true}
use Rattle.std.proofs.lemmas.Bool.Decides.{nat_tests}
use Rattle.ck_compatible.proofs.NodeSteps.{nodes-step, parts_compatible, types-compatible}
use Rattle.ck_compatible.proofs.PairLemmas.{AllAre, IsPart, Keeps, at-before, among-kept, paired-kept, put-all}
use Rattle.ck_compatible.proofs.PairLemmas.{put-kept, put-paired, there}
use Rattle.ck_compatible.specs.Agreement.{agree, named_list, named_type}
use Rattle.ck_compatible.specs.Compatible.{IsCompatible, IsOneToOne}
use Rattle.ck_compatible.specs.Pairs.{AreApart, ArePaired, AreSettled, IsAmong, IsAt, IsClosed, IsOwed, IsSettled}
use Rattle.ck_compatible.specs.Pairs.{IsWithin, Pair, are_compatible, entries_compatible, pair_of, put_pair, put_parts}
use Rattle.ck_types.proofs.Compatible.{is_reflexive}
use Rattle.ck_types.specs.NodeEquality.{and-true}
use Rattle.ck_types.proofs.Entries.{numbers-stand}
use Rattle.ck_types.proofs.OneNumber.{list-among, node-fits, type-among}
use Rattle.ck_types.proofs.Tables.{list-there, type-there}
use Rattle.ck_types.specs.TypeTable.{AList, AType, Entry, IsNode, IsTable, entries_of, entry_at, entry_of, fits}
use Rattle.ck_types.specs.TypeTable.{names_list, names_type, type_at}
use Rattle.ck_types.specs.Types.{StructIdentity, all_compatible, compatible}
use Rattle.ck_types.specs.Types.{Function, Parameters, Qualifiers, Void}
use Rattle.ck_types.specs.declared.types.CType.TheVariants as types
use Rattle.ck_types.specs.declared.types.Node.{Node}
use Rattle.ck_types.specs.declared.types.Node.TheVariants as nodes

never : (b : Bool) → (b ≡ true → ⊥) → b ≡ false
never true h = absurd (h refl)
never false h = refl

absurd_of : (b : Bool) → b ≡ true → b ≡ false → ⊥
absurd_of true h g = absurd (cc)
absurd_of false h g = absurd (cc)

settled-kept : (ns : List Node) (ks ms : List Pair) (p : Pair) → Keeps ks ms → IsSettled ns ks p → IsSettled ns ms p
settled-kept ns ks ms p kept s = record {
  table = s.table;
  one = s.one;
  other = s.other;
  one_is = s.one_is;
  other_is = s.other_is;
  agrees = s.agrees;
  types = paired-kept ks ms (named_type s.one) (named_type s.other) kept s.types;
  lists = paired-kept ks ms (named_list s.one) (named_list s.other) kept s.lists;
}

last-by : (P : ℕ → Type 0) (k at : ℕ) (same : Bool) → (k == at) ≡ same → k < at + 1 → (k < at → P k) → P at → P k
last-by P k at true is less before last = subst P (sym (eqb-true k at is)) last
last-by P k at false is less before last = before (grind (arith, nat_tests, is, less))

last-or-before : (P : ℕ → Type 0) (k at : ℕ) → k < at + 1 → (k < at → P k) → P at → P k
last-or-before P k at less before last = last-by P k at (k == at) refl less before last

-- a table's node names what has smaller numbers
module _ (ns : List Node) (table : IsTable ns) where
  pub fits-there : (i : ℕ) (n : Node) → IsNode ns i n → fits (take i ns) n ≡ true
  fits-there i n is =
      subst (λ m. fits (take i ns) m ≡ true) (is.is nodes.NoParameters)
      (node-fits [] ns i nodes.NoParameters is.within table.fitting)

  pub type-smaller : (i : ℕ) (n : Node) (c : ℕ) → fits (take i ns) n ≡ true → named_type n ≡ Some c
      → (names_type ns c ≡ true) × (c < i)
  type-smaller i (nodes.Type (types.Pointer q to)) c f h =
      let e : to.0 ≡ c = cc in
      type-among ns i c (subst (λ d. names_type (take i ns) d ≡ true) e f)
  type-smaller i (nodes.Type (types.Array q of n)) c f h =
      let e : of.0 ≡ c = cc in
      type-among ns i c (subst (λ d. names_type (take i ns) d ≡ true) e f)
  type-smaller i (nodes.Type (types.Function q result ps v)) c f h =
      let e : result.0 ≡ c = cc in
      let fs = and_parts (names_type (take i ns) result.0) (names_list (take i ns) ps.0) f in
      type-among ns i c (subst (λ d. names_type (take i ns) d ≡ true) e fs.0)
  type-smaller i (nodes.Parameter first rest) c f h =
      let e : first.0 ≡ c = cc in
      let fs = and_parts (names_type (take i ns) first.0) (names_list (take i ns) rest.0) f in
      type-among ns i c (subst (λ d. names_type (take i ns) d ≡ true) e fs.0)
  type-smaller i _ c f h = absurd (cc)

  pub list-smaller : (i : ℕ) (n : Node) (c : ℕ) → fits (take i ns) n ≡ true → named_list n ≡ Some c
      → (names_list ns c ≡ true) × (c < i)
  list-smaller i (nodes.Type (types.Function q result ps v)) c f h =
      let e : ps.0 ≡ c = cc in
      let fs = and_parts (names_type (take i ns) result.0) (names_list (take i ns) ps.0) f in
      list-among ns i c (subst (λ d. names_list (take i ns) d ≡ true) e fs.1)
  list-smaller i (nodes.Parameter first rest) c f h =
      let e : rest.0 ≡ c = cc in
      let fs = and_parts (names_type (take i ns) first.0) (names_list (take i ns) rest.0) f in
      list-among ns i c (subst (λ d. names_list (take i ns) d ≡ true) e fs.1)
  list-smaller i _ c f h = absurd (cc)

  module _ (i j : ℕ) (n m : Node) (one : IsNode ns i n) (other : IsNode ns j m) where
    pub pair-step : (identity : ℕ → StructIdentity) → IsOneToOne identity
        → are_compatible identity ns i j
        ≡ (agree n m && parts_compatible identity ns table (named_type n) (named_type m)
        && parts_compatible identity ns table (named_list n) (named_list m))
    pair-step identity is_one =
        ap (λ e. entries_compatible e (entry_at (entries_of identity ns) j)) (numbers-stand identity ns i n table one)
        ∙ ap (entries_compatible (entry_of identity (entries_of identity ns) n))
        (numbers-stand identity ns j m table other)
        ∙ nodes-step identity ns table is_one i j n m (fits-there i n one) (fits-there j m other)

    within-by : (x y : Option ℕ) → ((c : ℕ) → x ≡ Some c → c < length ns) → ((d : ℕ) → y ≡ Some d → d < length ns)
        → (q : Pair) → IsPart x y q → IsWithin ns q
    within-by (Some c) (Some d) f g q h =
        subst (IsWithin ns) (sym h) (f c refl, g d refl)
    within-by None y f g q h = absurd h
    within-by (Some c) None f g q h = absurd h

    owed-by : (a b : ℕ) (x y : Option ℕ)
        → ((identity : ℕ → StructIdentity) → IsOneToOne identity → are_compatible identity ns a b ≡ true
        → parts_compatible identity ns table x y ≡ true)
        → (q : Pair) → IsPart x y q → IsOwed ns a b q
    owed-by a b (Some c) (Some d) f q h = subst (IsOwed ns a b) (sym h) f
    owed-by a b None y f q h = absurd h
    owed-by a b (Some c) None f q h = absurd h

    module _ (a b at : ℕ) (ks : List Pair) (so_far : AreSettled ns a b at ks) (here : IsAt ks at (pair_of i j)) where
      -- what the pair owes
      owes : (identity : ℕ → StructIdentity) → IsOneToOne identity → are_compatible identity ns a b ≡ true
          → (agree n m && parts_compatible identity ns table (named_type n) (named_type m)
          && parts_compatible identity ns table (named_list n) (named_list m)) ≡ true
      owes identity is_one h =
          sym (pair-step identity is_one) ∙ so_far.owed at (pair_of i j) here identity is_one h

      types-owed : (identity : ℕ → StructIdentity) → IsOneToOne identity → are_compatible identity ns a b ≡ true
          → parts_compatible identity ns table (named_type n) (named_type m) ≡ true
      types-owed identity is_one h =
          (and_parts (agree n m) (parts_compatible identity ns table (named_type n) (named_type m))
          (and_parts (agree n m && parts_compatible identity ns table (named_type n) (named_type m))
          (parts_compatible identity ns table (named_list n) (named_list m)) (owes identity is_one h)).0).1

      lists-owed : (identity : ℕ → StructIdentity) → IsOneToOne identity → are_compatible identity ns a b ≡ true
          → parts_compatible identity ns table (named_list n) (named_list m) ≡ true
      lists-owed identity is_one h =
          (and_parts (agree n m && parts_compatible identity ns table (named_type n) (named_type m))
          (parts_compatible identity ns table (named_list n) (named_list m)) (owes identity is_one h)).1

      agreement-owed : (identity : ℕ → StructIdentity) → IsOneToOne identity → are_compatible identity ns a b ≡ true
          → agree n m ≡ true
      agreement-owed identity is_one h =
          (and_parts (agree n m) (parts_compatible identity ns table (named_type n) (named_type m))
          (and_parts (agree n m && parts_compatible identity ns table (named_type n) (named_type m))
          (parts_compatible identity ns table (named_list n) (named_list m)) (owes identity is_one h)).0).0

      -- where the nodes don't agree, nor do the numbers that were begun with
      pub apart : agree n m ≡ false → AreApart ns a b
      apart differ = record {
        table = table;
        differ = λ identity is_one. never (are_compatible identity ns a b)
            (λ h. absurd_of (agree n m) (agreement-owed identity is_one h) differ);
      }

      abbrev types_put : List Pair
      types_put = put_pair ks (named_type n) (named_type m)

      abbrev all_put : List Pair
      all_put = put_parts ks n m

      grown : Keeps ks all_put
      grown k q h =
          put-kept types_put (named_list n) (named_list m) k q (put-kept ks (named_type n) (named_type m) k q h)

      all-within : AllAre (IsWithin ns) all_put
      all-within = put-all (IsWithin ns) types_put (named_list n) (named_list m)
          (put-all (IsWithin ns) ks (named_type n) (named_type m) so_far.within
          (within-by (named_type n) (named_type m)
          (λ c h. type-there ns c (type-smaller i n c (fits-there i n one) h).0)
          (λ c h. type-there ns c (type-smaller j m c (fits-there j m other) h).0)))
          (within-by (named_list n) (named_list m)
          (λ c h. list-there ns c (list-smaller i n c (fits-there i n one) h).0)
          (λ c h. list-there ns c (list-smaller j m c (fits-there j m other) h).0))

      all-owed : AllAre (IsOwed ns a b) all_put
      all-owed = put-all (IsOwed ns a b) types_put (named_list n) (named_list m)
          (put-all (IsOwed ns a b) ks (named_type n) (named_type m) so_far.owed
          (owed-by a b (named_type n) (named_type m) types-owed))
          (owed-by a b (named_list n) (named_list m) lists-owed)

      settled-here : agree n m ≡ true → IsSettled ns all_put (pair_of i j)
      settled-here agrees = record {
        table = table;
        one = n;
        other = m;
        one_is = one;
        other_is = other;
        agrees = agrees;
        types = paired-kept types_put all_put (named_type n) (named_type m)
            (put-kept types_put (named_list n) (named_list m)) (put-paired ks (named_type n) (named_type m));
        lists = put-paired types_put (named_list n) (named_list m);
      }

      settled-before : (k : ℕ) (p : Pair) → k < at → IsAt all_put k p → IsSettled ns all_put p
      settled-before k p less h =
          let old = at-before ks all_put k p grown (omega (arith, less, there ks at (pair_of i j) here)) h in
          settled-kept ns ks all_put p grown (so_far.settled k p less old)

      settled-at : agree n m ≡ true → (p : Pair) → IsAt all_put at p → IsSettled ns all_put p
      settled-at agrees p h =
          let same : Some (pair_of i j) ≡ Some p = sym (grown at (pair_of i j) here) ∙ h in
          let e : pair_of i j ≡ p = cc in
          subst (IsSettled ns all_put) e (settled-here agrees)

      -- one more pair is settled
      pub settled-more : agree n m ≡ true → AreSettled ns a b (at + 1) all_put
      settled-more agrees = record {
        begun = among-kept ks all_put (pair_of a b) grown so_far.begun;
        within = all-within;
        owed = all-owed;
        settled = λ k p less h. last-or-before (λ l. IsAt all_put l p → IsSettled ns all_put p) k at less
            (λ l. settled-before k p l) (settled-at agrees p) h;
      }

pub past-none : (ks : List Pair) (at : ℕ) → slice_get ks at ≡ None → length ks ≤ at
past-none [] at h = omega arith
past-none (x ∷ ks) zero h = absurd (cc)
past-none (x ∷ ks) (suc at) h = omega (arith, past-none ks at h)

-- all pairs are settled
pub all-settled : (ns : List Node) (a b at : ℕ) (ks : List Pair) → AreSettled ns a b at ks → length ks ≤ at
    → IsClosed ns a b ks
all-settled ns a b at ks so_far past = record {
  begun = so_far.begun;
  settled = λ k p h. so_far.settled k p (omega (arith, there ks k p h, past)) h;
}

abbrev unqualified : Qualifiers
unqualified = record { constant = false; volatile = false }

list-itself : (ps : Parameters) → all_compatible ps ps ≡ true
list-itself ps =
    let h : (all_compatible ps ps && true) ≡ true = is_reflexive (Function unqualified Void ps false) in
    (and_parts (all_compatible ps ps) true h).0

-- entries are compatible with themselves
entry-itself : (e : Entry) → entries_compatible e e ≡ true
entry-itself (AType t) = is_reflexive t
entry-itself (AList ps) = list-itself ps

module _ (identity : ℕ → StructIdentity) (is_one : IsOneToOne identity) (ns : List Node) (ks : List Pair)
    (settled : (k : ℕ) (p : Pair) → IsAt ks k p → IsSettled ns ks p) where
  number-by : (bound i j : ℕ) → i < bound
      → ((c d : ℕ) → c < bound → IsAmong ks (pair_of c d) → are_compatible identity ns c d ≡ true)
      → (i ≡ j) ⊎ IsAmong ks (pair_of i j) → are_compatible identity ns i j ≡ true
  number-by bound i j less smaller (inl e) =
      subst (λ k. are_compatible identity ns i k ≡ true) e (entry-itself (entry_at (entries_of identity ns) i))
  number-by bound i j less smaller (inr a) = smaller i j less a

  parts-by : (table : IsTable ns) (bound : ℕ) (x y : Option ℕ) → ((c : ℕ) → x ≡ Some c → c < bound)
      → ((c d : ℕ) → c < bound → IsAmong ks (pair_of c d) → are_compatible identity ns c d ≡ true)
      → ArePaired ks x y → parts_compatible identity ns table x y ≡ true
  parts-by table bound (Some i) (Some j) less smaller h = number-by bound i j (less i refl) smaller h
  parts-by table bound None y less smaller h = refl
  parts-by table bound (Some i) None less smaller h = refl

  settled-compatible : (p : Pair) → IsSettled ns ks p
      → ((c d : ℕ) → c < p.0 → IsAmong ks (pair_of c d) → are_compatible identity ns c d ≡ true)
      → are_compatible identity ns p.0 p.1 ≡ true
  settled-compatible p s smaller =
      let fit = fits-there ns s.table p.0 s.one s.one_is in
      let types = parts-by s.table p.0 (named_type s.one) (named_type s.other)
      (λ c h. (type-smaller ns s.table p.0 s.one c fit h).1) smaller s.types in
      let lists = parts-by s.table p.0 (named_list s.one) (named_list s.other)
      (λ c h. (list-smaller ns s.table p.0 s.one c fit h).1) smaller s.lists in
      pair-step ns s.table p.0 p.1 s.one s.other s.one_is s.other_is identity is_one
      ∙ and-true (and-true s.agrees types) lists

  pub pairs-compatible : (bound i j : ℕ) → i < bound → IsAmong ks (pair_of i j)
      → are_compatible identity ns i j ≡ true
  pairs-compatible zero i j less a = absurd (omega arith)
  pairs-compatible (suc bound) i j less a =
      settled-compatible (pair_of i j) (settled a.place (pair_of i j) a.is)
      (λ c d smaller b. pairs-compatible bound c d (omega (arith, smaller, less)) b)

-- a table, where its pairs are closed
table-of : (ns : List Node) (a b : ℕ) (ks : List Pair) → IsClosed ns a b ks → IsTable ns
table-of ns a b ks closed = (closed.settled closed.begun.place (pair_of a b) closed.begun.is).table

pub closed-compatible : (ns : List Node) (a b : ℕ) (ks : List Pair) → names_type ns a ≡ true → names_type ns b ≡ true
    → IsClosed ns a b ks → IsCompatible ns a b true
closed-compatible ns a b ks first second closed identity is_one =
    sym (pairs-compatible identity is_one ns ks closed.settled (suc a) a b (omega arith) closed.begun)
    ∙ types-compatible identity ns (table-of ns a b ks closed) a b first second

pub apart-incompatible : (ns : List Node) (a b : ℕ) → names_type ns a ≡ true → names_type ns b ≡ true
    → AreApart ns a b → IsCompatible ns a b false
apart-incompatible ns a b first second apart identity is_one =
    sym (apart.differ identity is_one) ∙ types-compatible identity ns apart.table a b first second

pub number-itself : (ns : List Node) (a b : ℕ) → a ≡ b → IsCompatible ns a b true
number-itself ns a b same identity is_one =
    sym (ap (λ c. compatible (type_at (entries_of identity ns) a) (type_at (entries_of identity ns) c)) (sym same)
    ∙ is_reflexive (type_at (entries_of identity ns) a))
