-- Two nodes stand for compatible entries where they agree and what they name does.
use Rattle.std.proofs.Common.{◌≡◌, ℕ, ◌<◌, Bool, true, false, List, take, get_or, length, Option, Some}
use Rattle.std.proofs.Common.{refl, ap, sym, subst, ◌∙◌, arith}
use Rattle.std.specs.Prelude.{◌&&◌, ◌==◌}
use Rattle.std.specs.Str.{bytes_eq}
use Rattle.std.specs.Cmp.Lexicographic.{bytes_decides}
use Rattle.std.proofs.lemmas.Bool.{and_parts, eqb-true}
use Rattle.ck_compatible.specs.Agreement.{agree, named_list, named_type}
use Rattle.ck_compatible.specs.Compatible.{IsOneToOne}
use Rattle.ck_compatible.specs.Pairs.{are_compatible, entries_compatible}
use Rattle.ck_types.proofs.Compatible.{is_reflexive}
use Rattle.ck_types.proofs.Entries.{numbers-stand}
use Rattle.ck_types.proofs.OneNumber.{list-among, type-among}
use Rattle.ck_types.proofs.Tables.{is-node, list-named, list-there, type-named, type-there}
use Rattle.ck_types.specs.SameNodes.{same_written}
use Rattle.ck_types.specs.TypeTable.{AList, AType, Entry, IsTable, as_list, as_type, entries_of, entry_at}
use Rattle.ck_types.specs.TypeTable.{entry_of, fits, fits_type, is_type, list_at, names_list, names_type, type_at}
use Rattle.ck_types.specs.TypeTable.{type_of}
use Rattle.ck_types.specs.Types.{ByMember, ByParameter, ByPlace, ByTag, ByTypedef, StructIdentity, all_compatible}
use Rattle.ck_types.specs.Types.{compatible, same_integer, same_size, same_struct, same_truth}
use Rattle.ck_types.specs.declared.types.CType.{CType}
use Rattle.ck_types.specs.declared.types.CType.TheVariants as types
use Rattle.ck_types.specs.declared.types.Node.{Node}
use Rattle.ck_types.specs.declared.types.Node.TheVariants as nodes

both-ways : (a b : Bool) → (a ≡ true → b ≡ true) → (b ≡ true → a ≡ true) → a ≡ b
both-ways true b to from = sym (to refl)
both-ways false true to from = from refl
both-ways false false to from = refl

-- structs that are the same are one
bytes-equal : (a b : List ℕ) → bytes_eq a b ≡ true → a ≡ b
bytes-equal a b h = (bytes_decides a b).0 h

struct-equal : (s t : StructIdentity) → same_struct s t ≡ true → s ≡ t
struct-equal (ByTag a) (ByTag b) h = ap ByTag (bytes-equal a b h)
struct-equal (ByTypedef a) (ByTypedef b) h = ap ByTypedef (bytes-equal a b h)
struct-equal (ByPlace f a) (ByPlace g b) h =
    let parts = and_parts (f == g) (a == b) h in
    let file = eqb-true f g parts.0 in
    let offset = eqb-true a b parts.1 in
    cc
struct-equal (ByMember s k) (ByMember t i) h =
    let parts = and_parts (same_struct s t) (k == i) h in
    let same = struct-equal s t parts.0 in
    let place = eqb-true k i parts.1 in
    cc
struct-equal (ByParameter a f k) (ByParameter b g i) h =
    let parts = and_parts (bytes_eq a b && f == g) (k == i) h in
    let first = and_parts (bytes_eq a b) (f == g) parts.0 in
    let tag = bytes-equal a b first.0 in
    let file = eqb-true f g first.1 in
    let place = eqb-true k i parts.1 in
    cc
struct-equal _ _ h = absurd (cc)

struct-itself : (s : StructIdentity) → same_struct s s ≡ true
struct-itself s = is_reflexive (Rattle.ck_types.specs.Types.Struct s)

struct-same : (identity : ℕ → StructIdentity) (s t : ℕ) → IsOneToOne identity
    → same_struct (identity s) (identity t) ≡ (s == t)
struct-same identity s t is_one = both-ways (same_struct (identity s) (identity t)) (s == t)
    (λ h. let e = is_one s t (struct-equal (identity s) (identity t) h) in grind (arith, e))
    (λ h. let e = eqb-true s t h in
    subst (λ u. same_struct (identity s) (identity u) ≡ true) e (struct-itself (identity s)))

-- conjunctions in the order of the nodes' parts
one-part : (a b : Bool) → (a && b) ≡ (a && b && true)
one-part true true = refl
one-part true false = refl
one-part false b = refl

no-part : (a : Bool) → a ≡ (a && true && true)
no-part true = refl
no-part false = refl

sized-part : (a b c : Bool) → (a && b && c) ≡ ((a && c) && b && true)
sized-part true true true = refl
sized-part true true false = refl
sized-part true false true = refl
sized-part true false false = refl
sized-part false b c = refl

two-parts : (a b c d : Bool) → (a && b && c && d) ≡ ((a && d) && b && c)
two-parts true true true true = refl
two-parts true true true false = refl
two-parts true true false true = refl
two-parts true true false false = refl
two-parts true false c true = refl
two-parts true false c false = refl
two-parts false b c d = refl

module _ (identity : ℕ → StructIdentity) (ns : List Node) (table : IsTable ns) where
  abbrev es : List Entry
  es = entries_of identity ns

  abbrev none : Node
  none = nodes.NoParameters

  type-of-node : (n : Node) (e : Entry) → is_type n ≡ true → e ≡ entry_of identity es n → e ≡ AType (as_type e)
  type-of-node (nodes.Type t) e h is = is ∙ ap (λ f. AType (as_type f)) (sym is)
  type-of-node nodes.NoParameters e h is = absurd (cc)
  type-of-node (nodes.Parameter first rest) e h is = absurd (cc)

  list-of-node : (n : Node) (e : Entry) → is_type n ≡ false → e ≡ entry_of identity es n → e ≡ AList (as_list e)
  list-of-node (nodes.Type t) e h is = absurd (cc)
  list-of-node nodes.NoParameters e h is = is ∙ ap (λ f. AList (as_list f)) (sym is)
  list-of-node (nodes.Parameter first rest) e h is = is ∙ ap (λ f. AList (as_list f)) (sym is)

  stands : (i : ℕ) → i < length ns → entry_at es i ≡ entry_of identity es (get_or ns i none)
  stands i h = numbers-stand identity ns i (get_or ns i none) table (is-node ns i none (get_or ns i none) h refl)

  pub type-entry : (i : ℕ) → names_type ns i ≡ true → entry_at es i ≡ AType (type_at es i)
  type-entry i h =
      type-of-node (get_or ns i none) (entry_at es i) (type-named ns i none h) (stands i (type-there ns i h))

  pub list-entry : (i : ℕ) → names_list ns i ≡ true → entry_at es i ≡ AList (list_at es i)
  list-entry i h =
      list-of-node (get_or ns i none) (entry_at es i) (list-named ns i none h) (stands i (list-there ns i h))

  pub types-compatible : (i j : ℕ) → names_type ns i ≡ true → names_type ns j ≡ true
      → are_compatible identity ns i j ≡ compatible (type_at es i) (type_at es j)
  types-compatible i j h g =
      ap (λ e. entries_compatible e (entry_at es j)) (type-entry i h)
      ∙ ap (entries_compatible (AType (type_at es i))) (type-entry j g)

  lists-compatible : (i j : ℕ) → names_list ns i ≡ true → names_list ns j ≡ true
      → are_compatible identity ns i j ≡ all_compatible (list_at es i) (list_at es j)
  lists-compatible i j h g =
      ap (λ e. entries_compatible e (entry_at es j)) (list-entry i h)
      ∙ ap (entries_compatible (AList (list_at es i))) (list-entry j g)

  -- what two nodes name is compatible, where both name something
  abbrev pub parts_compatible : Option ℕ → Option ℕ → Bool
  parts_compatible (Some i) (Some j) = are_compatible identity ns i j
  parts_compatible _ _ = true

  abbrev steps : Node → Node → Bool
  steps n m =
      agree n m && parts_compatible (named_type n) (named_type m) && parts_compatible (named_list n) (named_list m)

  module _ (is_one : IsOneToOne identity) (i j : ℕ) where
    types-step : (t u : CType) → fits_type (take i ns) t ≡ true → fits_type (take j ns) u ≡ true
        → compatible (type_of identity es t) (type_of identity es u) ≡ steps (nodes.Type t) (nodes.Type u)
    types-step types.Void types.Void f g = refl
    types-step (types.Integer t) (types.Integer u) f g = no-part (same_integer t u)
    types-step (types.Pointer p t) (types.Pointer q u) f g =
        ap (λ b. same_written p q && b)
        (sym (types-compatible t.0 u.0 (type-among ns i t.0 f).0 (type-among ns j u.0 g).0))
        ∙ one-part (same_written p q) (are_compatible identity ns t.0 u.0)
    types-step (types.Array p t n) (types.Array q u m) f g =
        ap (λ b. same_written p q && b && same_size n m)
        (sym (types-compatible t.0 u.0 (type-among ns i t.0 f).0 (type-among ns j u.0 g).0))
        ∙ sized-part (same_written p q) (are_compatible identity ns t.0 u.0) (same_size n m)
    types-step (types.Struct s) (types.Struct t) f g =
        struct-same identity s.0 t.0 is_one ∙ no-part (s.0 == t.0)
    types-step (types.Function p t ps v) (types.Function q u qs w) f g =
        let fs = and_parts (names_type (take i ns) t.0) (names_list (take i ns) ps.0) f in
        let gs = and_parts (names_type (take j ns) u.0) (names_list (take j ns) qs.0) g in
        ap (λ b. same_written p q && b && all_compatible (list_at es ps.0) (list_at es qs.0) && same_truth v w)
        (sym (types-compatible t.0 u.0 (type-among ns i t.0 fs.0).0 (type-among ns j u.0 gs.0).0))
        ∙ ap (λ b. same_written p q && are_compatible identity ns t.0 u.0 && b && same_truth v w)
        (sym (lists-compatible ps.0 qs.0 (list-among ns i ps.0 fs.1).0 (list-among ns j qs.0 gs.1).0))
        ∙ two-parts (same_written p q) (are_compatible identity ns t.0 u.0) (are_compatible identity ns ps.0 qs.0)
        (same_truth v w)
    types-step _ _ f g = refl

    pub nodes-step : (n m : Node) → fits (take i ns) n ≡ true → fits (take j ns) m ≡ true
        → entries_compatible (entry_of identity es n) (entry_of identity es m) ≡ steps n m
    nodes-step (nodes.Type t) (nodes.Type u) f g = types-step t u f g
    nodes-step nodes.NoParameters nodes.NoParameters f g = refl
    nodes-step (nodes.Parameter t ps) (nodes.Parameter u qs) f g =
        let fs = and_parts (names_type (take i ns) t.0) (names_list (take i ns) ps.0) f in
        let gs = and_parts (names_type (take j ns) u.0) (names_list (take j ns) qs.0) g in
        ap (λ b. b && all_compatible (list_at es ps.0) (list_at es qs.0))
        (sym (types-compatible t.0 u.0 (type-among ns i t.0 fs.0).0 (type-among ns j u.0 gs.0).0))
        ∙ ap (λ b. are_compatible identity ns t.0 u.0 && b)
        (sym (lists-compatible ps.0 qs.0 (list-among ns i ps.0 fs.1).0 (list-among ns j qs.0 gs.1).0))
    nodes-step _ _ f g = refl
