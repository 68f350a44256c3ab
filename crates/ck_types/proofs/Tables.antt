-- A table that grows at its end is a table.
use Rattle.std.proofs.Common.{◌≡◌, ℕ, zero, suc, ◌+◌, ◌<◌, Bool, true, false, List, [], ◌∷◌, ◌++◌, length, get_or}
use Rattle.std.proofs.Common.{refl, ap, sym, subst, ◌∙◌, arith}
use Rattle.std.specs.Prelude.{◌==◌, ◌≢◌, not}
use Rattle.std.proofs.lemmas.Bool.{and_parts, eqb-true}
use Rattle.std.proofs.lemmas.Bool.Decides.{nat_tests}
use Rattle.std.proofs.lemmas.List.{append_assoc, append-nil, get_or_append_left}
use Rattle.std.proofs.Math.Seq.{get_or-append_seam}
use Rattle.ck_types.specs.TypeTable.{AreDistinct, IsNode, IsTable, fits, fits_after, is_type}
use Rattle.ck_types.specs.TypeTable.{names_as, names_list, names_type}
use Rattle.ck_types.specs.declared.types.Node.{Node}
use Rattle.ck_types.specs.NodeEquality.{and-true}
use Rattle.ck_types.proofs.InRange.{either}

-- a node that isn't in a table
abbrev pub IsMissing : List Node → Node → Type 0
IsMissing ns n = (i : ℕ) (d : Node) → i < length ns → get_or ns i d ≢ n

pub empty-table : IsTable []
empty-table = record { fitting = refl; distinct = λ i j d before within. absurd (omega (arith, within)) }

fits_after-last : (before ns : List Node) (n : Node) → fits_after before ns ≡ true → fits (before ++ ns) n ≡ true
    → fits_after before (ns ++ n ∷ []) ≡ true
fits_after-last before [] n h fit = and-true (subst (λ b. fits b n ≡ true) (append-nil before) fit) refl
fits_after-last before (m ∷ ns) n h fit =
    let parts = and_parts (fits before m) (fits_after (before ++ m ∷ []) ns) h in
    and-true parts.0 (fits_after-last (before ++ m ∷ []) ns n parts.1
    (subst (λ b. fits b n ≡ true) (sym (append_assoc before (m ∷ []) ns)) fit))

length-last : (ns : List Node) (n : Node) → length (ns ++ n ∷ []) ≡ length ns + 1
length-last [] n = refl
length-last (m ∷ ns) n = let e = length-last ns n in omega (arith, e)

distinct-last : (ns : List Node) (n : Node) → AreDistinct ns → IsMissing ns n → AreDistinct (ns ++ n ∷ [])
distinct-last ns n distinct fresh i j d before within e = either (j == length ns) at_end among where
  size : length (ns ++ n ∷ []) ≡ length ns + 1
  size = length-last ns n

  at_end : (j == length ns) ≡ true → ⊥
  at_end h =
      let same : j ≡ length ns = eqb-true j (length ns) h in
      let last : get_or (ns ++ n ∷ []) j d ≡ n =
      ap (λ k. get_or (ns ++ n ∷ []) k d) same ∙ get_or-append_seam ns n [] d in
      fresh i d (omega (arith, before, same)) (sym (get_or_append_left ns (n ∷ []) d i (omega (arith, before, same)))
      ∙ e ∙ last)

  among : (j == length ns) ≡ false → ⊥
  among h =
      let fit : j < length ns = grind (arith, nat_tests, h, within, size) in
      distinct i j d before fit (sym (get_or_append_left ns (n ∷ []) d i (omega (arith, before, fit))) ∙ e
      ∙ get_or_append_left ns (n ∷ []) d j fit)

pub IsTable-last : (ns : List Node) (n : Node) → IsTable ns → fits ns n ≡ true → IsMissing ns n
    → IsTable (ns ++ n ∷ [])
IsTable-last ns n table fit fresh = record {
  fitting = fits_after-last [] ns n table.fitting fit;
  distinct = distinct-last ns n table.distinct fresh;
}

pub type-there : (ns : List Node) (i : ℕ) → names_type ns i ≡ true → i < length ns
type-there [] i h = absurd (cc)
type-there (n ∷ ns) zero h = omega arith
type-there (n ∷ ns) (suc i) h = omega (arith, type-there ns i h)

pub list-there : (ns : List Node) (i : ℕ) → names_list ns i ≡ true → i < length ns
list-there [] i h = absurd (cc)
list-there (n ∷ ns) zero h = omega arith
list-there (n ∷ ns) (suc i) h = omega (arith, list-there ns i h)

pub type-named : (ns : List Node) (i : ℕ) (d : Node) → names_type ns i ≡ true → is_type (get_or ns i d) ≡ true
type-named [] i d h = absurd (cc)
type-named (n ∷ ns) zero d h = h
type-named (n ∷ ns) (suc i) d h = type-named ns i d h

not_true : (v : Bool) → not v ≡ true → v ≡ false
not_true true h = absurd (cc)
not_true false h = refl

pub list-named : (ns : List Node) (i : ℕ) (d : Node) → names_list ns i ≡ true → is_type (get_or ns i d) ≡ false
list-named [] i d h = absurd (cc)
list-named (n ∷ ns) zero d h = not_true (is_type n) h
list-named (n ∷ ns) (suc i) d h = list-named ns i d h

-- an element that is there doesn't depend on what would stand for a missing one
pub get_or-there : (ns : List Node) (i : ℕ) (d e : Node) → i < length ns → get_or ns i d ≡ get_or ns i e
get_or-there [] i d e h = absurd (omega arith)
get_or-there (n ∷ ns) zero d e h = refl
get_or-there (n ∷ ns) (suc i) d e h = get_or-there ns i d e (omega arith)

pub is-node : (ns : List Node) (i : ℕ) (d n : Node) → i < length ns → get_or ns i d ≡ n → IsNode ns i n
is-node ns i d n h e = record { within = h; is = λ c. get_or-there ns i c d h ∙ e }

pub types-kept : (ns more : List Node) (i : ℕ) → names_type ns i ≡ true → names_type (ns ++ more) i ≡ true
types-kept [] more i h = absurd (cc)
types-kept (n ∷ ns) more zero h = h
types-kept (n ∷ ns) more (suc i) h = types-kept ns more i h

pub lists-kept : (ns more : List Node) (i : ℕ) → names_list ns i ≡ true → names_list (ns ++ more) i ≡ true
lists-kept [] more i h = absurd (cc)
lists-kept (n ∷ ns) more zero h = h
lists-kept (n ∷ ns) more (suc i) h = lists-kept ns more i h

-- a node that is there is named
type-names : (ns : List Node) (i : ℕ) (d : Node) → i < length ns → is_type (get_or ns i d) ≡ true
    → names_type ns i ≡ true
type-names [] i d h e = absurd (omega arith)
type-names (n ∷ ns) zero d h e = e
type-names (n ∷ ns) (suc i) d h e = type-names ns i d (omega arith) e

list-names : (ns : List Node) (i : ℕ) (d : Node) → i < length ns → is_type (get_or ns i d) ≡ false
    → names_list ns i ≡ true
list-names [] i d h e = absurd (omega arith)
list-names (n ∷ ns) zero d h e = rw e refl
list-names (n ∷ ns) (suc i) d h e = list-names ns i d (omega arith) e

pub node-named : (ns : List Node) (i : ℕ) (n : Node) → IsNode ns i n → names_as n ns i ≡ true
node-named ns i n node = either (is_type n)
    (λ h. rw h (type-names ns i n node.within (ap is_type (node.is n) ∙ h)))
    (λ h. rw h (list-names ns i n node.within (ap is_type (node.is n) ∙ h)))
