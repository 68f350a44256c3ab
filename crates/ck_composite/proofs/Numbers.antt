-- Numbers of composites are made one after another, over a table that grows.
use Rattle.std.proofs.Common.{◌≡◌, ℕ, ◌<◌, ◌≤◌, ◌⊎◌, inl, inr, Bool, true, false, List, []}
use Rattle.std.proofs.Common.{◌∷◌, ◌++◌, get_or, length, take, Option, Some, None, refl, ap, sym, subst}
use Rattle.std.proofs.Common.{◌∙◌, arith, below_more}
use Rattle.std.specs.Prelude.{◌==◌, if◌then◌else◌, slice_index}
use Rattle.std.proofs.Math.Seq.{get_or-append_seam}
use Rattle.std.proofs.lemmas.Bool.{eqb-true}
use Rattle.std.proofs.lemmas.List.{append_assoc, get_or_append_left, length-append}
use Rattle.ck_compatible.proofs.ClosedPairs.{fits-there, list-smaller, type-smaller}
use Rattle.ck_compatible.proofs.NodeSteps.{list-entry, type-entry}
use Rattle.ck_compatible.proofs.PairLemmas.{there}
use Rattle.ck_compatible.specs.Agreement.{agree, named_list, named_type}
use Rattle.ck_compatible.specs.Pairs.{ArePaired, IsAmong, IsAt, IsSettled, Pair, pair_of}
use Rattle.ck_composite.proofs.CompositeLaws.{composite-self, entry-self}
use Rattle.ck_composite.proofs.CompositeSteps.{IsListPart, IsTypePart, composite_node-kind, node-fits, node-step}
use Rattle.ck_composite.proofs.PairOrder.{number-found, number-same}
use Rattle.ck_composite.specs.Composite.{IsComposite}
use Rattle.ck_composite.specs.Made.{AreMade, AreOrdered, IsGrown, IsMade, composite_entry, node_made, number_made}
use Rattle.ck_composite.specs.Made.{part_made}
use Rattle.ck_types.proofs.Entries.{numbers-kept, numbers-stand}
use Rattle.ck_types.proofs.InRange.{either}
use Rattle.ck_types.proofs.Tables.{list-named, list-there, node-named, type-named, type-there}
use Rattle.ck_types.specs.NodeEquality.{equal-self, list_id, type_id}
use Rattle.ck_types.specs.TypeTable.{AList, AType, Extends, IsNode, IsTable, KeepsLists, KeepsTypes, as_list, as_type}
use Rattle.ck_types.specs.TypeTable.{entries_of, entry_at, entry_of, fits, is_type, list_at, names_list}
use Rattle.ck_types.specs.TypeTable.{names_type, type_at}
use Rattle.ck_types.specs.Types.{StructIdentity, all_composite}
use Rattle.ck_types.specs.declared.types.Node.{Node}

pub grown-more : (old new newer : List Node) → IsGrown old new → Extends new newer → KeepsTypes new newer
    → KeepsLists new newer → IsTable newer → IsGrown old newer
grown-more old new newer first second types lists table = record {
  kept = record {
    more = first.kept.more ++ second.more;
    is = second.is ∙ ap (λ ns. ns ++ second.more) first.kept.is ∙ append_assoc old first.kept.more second.more;
  };
  types = λ i h. types i (first.types i h);
  lists = λ i h. lists i (first.lists i h);
  table = table;
}

pub longer : (old new : List Node) (i : ℕ) → Extends old new → i < length old → i < length new
longer old new i grown less =
    let e : length new ≡ length (old ++ grown.more) = ap length grown.is in
    omega (arith, e, length-append old grown.more, less)

pub node-kept : (old new : List Node) (i : ℕ) (n : Node) → Extends old new → IsNode old i n → IsNode new i n
node-kept old new i n grown node = record {
  within = longer old new i grown node.within;
  is = λ d. ap (λ ns. get_or ns i d) grown.is ∙ get_or_append_left old grown.more d i node.within ∙ node.is d;
}

-- a number stands for its own composite with itself
made-self : (old new : List Node) (i : ℕ) → IsGrown old new → i < length old → IsMade old new i i i
made-self old new i grown less = record {
  within = longer old new i grown.kept less;
  types = grown.types i;
  lists = grown.lists i;
  is = λ identity. numbers-kept identity old new i grown.kept less
      ∙ sym (entry-self (entry_at (entries_of identity old) i));
}

-- a table that grows keeps what was made
made-kept : (old new newer : List Node) (i j made : ℕ) → Extends new newer → KeepsTypes new newer
    → KeepsLists new newer → IsMade old new i j made → IsMade old newer i j made
made-kept old new newer i j made grown types lists m = record {
  within = longer new newer made grown m.within;
  types = λ h. types made (m.types h);
  lists = λ h. lists made (m.lists h);
  is = λ identity. numbers-kept identity new newer made grown m.within ∙ m.is identity;
}

pub all-kept : (old new newer : List Node) (ks : List Pair) (ms : List ℕ) → Extends new newer
    → KeepsTypes new newer → KeepsLists new newer → AreMade old new ks ms → AreMade old newer ks ms
all-kept old new newer ks ms grown types lists m = record {
  made = λ k p less h. made-kept old new newer p.0 p.1 (slice_index ms k) grown types lists (m.made k p less h);
}

-- what a made number stands for
module _ (old new : List Node) (table : IsTable old) (c d made : ℕ) (m : IsMade old new c d made) where
  pub type-made : names_type old c ≡ true → names_type old d ≡ true → IsComposite old new c d made
  type-made h g identity =
      ap as_type (m.is identity)
      ∙ ap (λ e. as_type (composite_entry e (entry_at (entries_of identity old) d)))
      (type-entry identity old table c h)
      ∙ ap (λ e. as_type (composite_entry (AType (type_at (entries_of identity old) c)) e))
      (type-entry identity old table d g)

  list-made : names_list old c ≡ true → names_list old d ≡ true → (identity : ℕ → StructIdentity)
      → list_at (entries_of identity new) made
      ≡ all_composite (list_at (entries_of identity old) c) (list_at (entries_of identity old) d)
  list-made h g identity =
      ap as_list (m.is identity)
      ∙ ap (λ e. as_list (composite_entry e (entry_at (entries_of identity old) d)))
      (list-entry identity old table c h)
      ∙ ap (λ e. as_list (composite_entry (AList (list_at (entries_of identity old) c)) e))
      (list-entry identity old table d g)

-- a number that is told for two types where it was made for them
pub record IsJoined (old new : List Node) (a b joined : ℕ) : Type 0 where
  pub composite : IsComposite old new a b joined
  pub named : names_type new joined ≡ true

pub number-itself : (ns : List Node) (a b : ℕ) → a ≡ b → IsComposite ns ns a b a
number-itself ns a b same =
    subst (λ c. IsComposite ns ns a c a) same
    (λ identity. sym (composite-self (type_at (entries_of identity ns) a)))

pub joined-numbers : (old new : List Node) (ks : List Pair) (ms : List ℕ) (a b joined : ℕ) → IsTable old
    → names_type old a ≡ true → names_type old b ≡ true → (a == b) ≡ false → IsAmong ks (pair_of a b)
    → AreMade old new ks ms → length ks ≤ length ms → joined ≡ number_made ks ms a b
    → IsJoined old new a b joined
joined-numbers old new ks ms a b joined table first second differ among made whole told =
    let f = number-found ks ms a b differ among in
    let here : IsMade old new a b joined =
    subst (IsMade old new a b) (sym f.number ∙ sym told)
    (made.made f.place (pair_of a b) (omega (arith, there ks f.place (pair_of a b) f.is, whole)) f.is) in
    record { composite = type-made old new table a b joined here first second; named = here.types first }

-- the nodes of a pair, and what is known of them
pub record IsStep (old : List Node) (ks : List Pair) (i j : ℕ) (n m : Node) : Type 0 where
  pub one : IsNode old i n
  pub other : IsNode old j m
  pub agrees : agree n m ≡ true
  pub types : ArePaired ks (named_type n) (named_type m)
  pub lists : ArePaired ks (named_list n) (named_list m)

node-unique : (old new : List Node) (i : ℕ) (n m : Node) → Extends old new → IsNode old i n → IsNode new i m
    → n ≡ m
node-unique old new i n m grown a b = sym ((node-kept old new i n grown a).is n) ∙ b.is n

pub step-of : (old new : List Node) (ks : List Pair) (i j : ℕ) (n m : Node) → Extends old new
    → IsSettled old ks (pair_of i j) → IsNode new i n → IsNode new j m → IsStep old ks i j n m
step-of old new ks i j n m grown s one other =
    let first : IsStep old ks i j s.one s.other = record {
      one = s.one_is;
      other = s.other_is;
      agrees = s.agrees;
      types = s.types;
      lists = s.lists;
    } in
    subst (IsStep old ks i j n) (node-unique old new j s.other m grown s.other_is other)
    (subst (λ x. IsStep old ks i j x s.other) (node-unique old new i s.one n grown s.one_is one) first)

module _ (old : List Node) (ks : List Pair) (ordered : AreOrdered old ks) (ms : List ℕ) (i j : ℕ)
    (here : IsAt ks (length ms) (pair_of i j)) (n m : Node) (step : IsStep old ks i j n m) where
  module _ (new : List Node) (grown : IsGrown old new) (made : AreMade old new ks ms) where
    -- each part has its number
    same-made : (c d : ℕ) → c < length old → (c == d) ≡ true → IsMade old new c d (number_made ks ms c d)
    same-made c d within same =
        let e : c ≡ d = eqb-true c d same in
        subst (IsMade old new c d) (sym (number-same ks ms c d same))
        (subst (λ x. IsMade old new c x c) e (made-self old new c grown within))

    other-made : (c d : ℕ) → c < i → (c == d) ≡ false → (c ≡ d) ⊎ IsAmong ks (pair_of c d)
        → IsMade old new c d (number_made ks ms c d)
    other-made c d less differ (inl e) =
        let same : (c == d) ≡ true = subst (λ x. (c == x) ≡ true) e (equal-self c) in
        let never : true ≡ false = sym same ∙ differ in
        absurd (cc)
    other-made c d less differ (inr a) =
        let f = number-found ks ms c d differ a in
        subst (IsMade old new c d) (sym f.number)
        (made.made f.place (pair_of c d)
        (ordered.in_order f.place (length ms) (pair_of c d) (pair_of i j) f.is here less) f.is)

    number-is-made : (c d : ℕ) → c < i → c < length old → (c ≡ d) ⊎ IsAmong ks (pair_of c d)
        → IsMade old new c d (number_made ks ms c d)
    number-is-made c d less within paired = either (c == d)
        (λ same. same-made c d within same)
        (λ differ. other-made c d less differ paired)

    type-part : (x y : Option ℕ) → ArePaired ks x y
        → ((c : ℕ) → x ≡ Some c → (names_type old c ≡ true) × (c < i))
        → ((d : ℕ) → y ≡ Some d → (names_type old d ≡ true) × (d < j))
        → IsTypePart old new x y (part_made ks ms x y)
    type-part (Some c) (Some d) paired f g =
        let named = f c refl in
        let is = number-is-made c d named.1 (type-there old c named.0) paired in
        (is.types named.0, type-made old new ordered.table c d (number_made ks ms c d) is named.0 (g d refl).0)
    type-part None y paired f g = record {}
    type-part (Some c) None paired f g = record {}

    list-part : (x y : Option ℕ) → ArePaired ks x y
        → ((c : ℕ) → x ≡ Some c → (names_list old c ≡ true) × (c < i))
        → ((d : ℕ) → y ≡ Some d → (names_list old d ≡ true) × (d < j))
        → IsListPart old new x y (part_made ks ms x y)
    list-part (Some c) (Some d) paired f g =
        let named = f c refl in
        let is = number-is-made c d named.1 (list-there old c named.0) paired in
        (is.lists named.0, list-made old new ordered.table c d (number_made ks ms c d) is named.0 (g d refl).0)
    list-part None y paired f g = record {}
    list-part (Some c) None paired f g = record {}

    abbrev fit_one : fits (take i old) n ≡ true
    fit_one = fits-there old ordered.table i n step.one

    abbrev fit_other : fits (take j old) m ≡ true
    fit_other = fits-there old ordered.table j m step.other

    types-here : IsTypePart old new (named_type n) (named_type m) (part_made ks ms (named_type n) (named_type m))
    types-here = type-part (named_type n) (named_type m) step.types
        (λ c h. type-smaller old ordered.table i n c fit_one h)
        (λ d h. type-smaller old ordered.table j m d fit_other h)

    lists-here : IsListPart old new (named_list n) (named_list m) (part_made ks ms (named_list n) (named_list m))
    lists-here = list-part (named_list n) (named_list m) step.lists
        (λ c h. list-smaller old ordered.table i n c fit_one h)
        (λ d h. list-smaller old ordered.table j m d fit_other h)

    -- the node names what is in the table
    pub made-fits : fits new (node_made ks ms n m) ≡ true
    made-fits = node-fits old new (type_id (part_made ks ms (named_type n) (named_type m)))
        (list_id (part_made ks ms (named_list n) (named_list m))) n m step.agrees types-here lists-here

    module _ (number : ℕ) (node : IsNode new number (node_made ks ms n m)) where
      kind : is_type (node_made ks ms n m) ≡ is_type n
      kind = composite_node-kind n m (type_id (part_made ks ms (named_type n) (named_type m)))
          (list_id (part_made ks ms (named_list n) (named_list m)))

      kind-of : (b : Bool) → is_type n ≡ b → (if b then names_type new number else names_list new number) ≡ true
      kind-of b h =
          subst (λ v. (if v then names_type new number else names_list new number) ≡ true) (kind ∙ h)
          (node-named new number (node_made ks ms n m) node)

      -- the number stands for the composite of the pair
      made-here : IsMade old new i j number
      made-here = record {
        within = node.within;
        types = λ h. kind-of true (ap is_type (sym (step.one.is n)) ∙ type-named old i n h);
        lists = λ h. kind-of false (ap is_type (sym (step.one.is n)) ∙ list-named old i n h);
        is = λ identity.
            numbers-stand identity new number (node_made ks ms n m) grown.table node
            ∙ node-step old new (type_id (part_made ks ms (named_type n) (named_type m)))
            (list_id (part_made ks ms (named_list n) (named_list m))) identity n m step.agrees types-here lists-here
            ∙ ap (λ e. composite_entry e (entry_of identity (entries_of identity old) m))
            (sym (numbers-stand identity old i n ordered.table step.one))
            ∙ ap (composite_entry (entry_at (entries_of identity old) i))
            (sym (numbers-stand identity old j m ordered.table step.other));
      }

      last-made : (p : Pair) → IsAt ks (length ms) p
          → IsMade old new p.0 p.1 (slice_index (ms ++ number ∷ []) (length ms))
      last-made p h =
          let same : Some (pair_of i j) ≡ Some p = sym here ∙ h in
          let e : pair_of i j ≡ p = cc in
          subst (λ q. IsMade old new q.0 q.1 (slice_index (ms ++ number ∷ []) (length ms))) e
          (subst (IsMade old new i j) (sym (get_or-append_seam ms number [] 0)) made-here)

      before-made : (k : ℕ) → k < length ms → (p : Pair) → IsAt ks k p
          → IsMade old new p.0 p.1 (slice_index (ms ++ number ∷ []) k)
      before-made k less p h =
          subst (IsMade old new p.0 p.1) (sym (get_or_append_left ms (number ∷ []) 0 k less)) (made.made k p less h)

      -- one more number is made
      pub made-more : AreMade old new ks (ms ++ number ∷ [])
      made-more = record {
        made = λ k p less h. below_more
            (λ l. (q : Pair) → IsAt ks l q → IsMade old new q.0 q.1 (slice_index (ms ++ number ∷ []) l))
            (length ms) before-made last-made k (omega (arith, less, length-append ms (number ∷ []))) p h;
      }
