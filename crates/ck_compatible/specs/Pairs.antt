-- Pairs of numbers that have to agree where two numbers do: each number is compared over the parts of its node.
use Rattle.std.specs.Prelude.{◌≡◌, ◌<◌, ◌⊎◌, ⊤, ℕ, Bool, true, false, ◌&&◌, ◌==◌, if◌then◌else◌, List, length}
use Rattle.std.specs.Prelude.{Option, Some, slice_get}
use Rattle.indexmap.specs.IndexSet.{insert_key}
use Rattle.ck_compatible.specs.Agreement.{agree, named_list, named_type}
use Rattle.ck_compatible.specs.Compatible.{IsOneToOne}
use Rattle.ck_types.specs.TypeTable.{AList, AType, Entry, IsNode, IsTable, entries_of, entry_at}
use Rattle.ck_types.specs.Types.{StructIdentity, all_compatible, compatible}
use Rattle.ck_types.specs.declared.types.Node.{Node}

abbrev pub Pair : Type 0
Pair = ℕ × ℕ

abbrev pub pair_of : ℕ → ℕ → Pair
pair_of i j = (i, j)

abbrev pub same_pair : Pair → Pair → Bool
same_pair p q = p.0 == q.0 && p.1 == q.1

-- a pair of different numbers, where there are two, is put to the others
abbrev pub put_pair : List Pair → Option ℕ → Option ℕ → List Pair
put_pair ks (Some i) (Some j) = if i == j then ks else insert_key same_pair ks (pair_of i j)
put_pair ks _ _ = ks

abbrev pub put_parts : List Pair → Node → Node → List Pair
put_parts ks n m = put_pair (put_pair ks (named_type n) (named_type m)) (named_list n) (named_list m)

-- a pair is at a place
abbrev pub IsAt : List Pair → ℕ → Pair → Type 0
IsAt ks k p = slice_get ks k ≡ Some p

pub record IsAmong (ks : List Pair) (p : Pair) : Type 0 where
  pub place : ℕ
  pub is : IsAt ks place p

-- two numbers are one, or their pair is among these
abbrev pub ArePaired : List Pair → Option ℕ → Option ℕ → Type 0
ArePaired ks (Some i) (Some j) = (i ≡ j) ⊎ IsAmong ks (pair_of i j)
ArePaired ks _ _ = ⊤

-- the nodes of two numbers agree, and the pairs of what they name are among these
pub record IsSettled (ns : List Node) (ks : List Pair) (p : Pair) : Type 0 where
  pub table : IsTable ns
  pub one : Node
  pub other : Node
  pub one_is : IsNode ns p.0 one
  pub other_is : IsNode ns p.1 other
  pub agrees : agree one other ≡ true
  pub types : ArePaired ks (named_type one) (named_type other)
  pub lists : ArePaired ks (named_list one) (named_list other)

abbrev pub entries_compatible : Entry → Entry → Bool
entries_compatible (AType t) (AType u) = compatible t u
entries_compatible (AList ps) (AList qs) = all_compatible ps qs
entries_compatible _ _ = false

abbrev pub are_compatible : (ℕ → StructIdentity) → List Node → ℕ → ℕ → Bool
are_compatible identity ns i j =
    entries_compatible (entry_at (entries_of identity ns) i) (entry_at (entries_of identity ns) j)

abbrev pub IsWithin : List Node → Pair → Type 0
IsWithin ns p = (p.0 < length ns) × (p.1 < length ns)

-- what two numbers stand for is compatible, if it is for two others
abbrev pub IsOwed : List Node → ℕ → ℕ → Pair → Type 0
IsOwed ns a b p =
    (identity : ℕ → StructIdentity) → IsOneToOne identity → are_compatible identity ns a b ≡ true
    → are_compatible identity ns p.0 p.1 ≡ true

-- pairs that the compatibility of two numbers owes, of which those before a place are settled
pub record AreSettled (ns : List Node) (a b at : ℕ) (ks : List Pair) : Type 0 where
  pub begun : IsAmong ks (pair_of a b)
  pub within : (k : ℕ) (p : Pair) → IsAt ks k p → IsWithin ns p
  pub owed : (k : ℕ) (p : Pair) → IsAt ks k p → IsOwed ns a b p
  pub settled : (k : ℕ) (p : Pair) → k < at → IsAt ks k p → IsSettled ns ks p

-- all of them are settled
pub record IsClosed (ns : List Node) (a b : ℕ) (ks : List Pair) : Type 0 where
  pub begun : IsAmong ks (pair_of a b)
  pub settled : (k : ℕ) (p : Pair) → IsAt ks k p → IsSettled ns ks p

-- what two numbers stand for isn't compatible
pub record AreApart (ns : List Node) (a b : ℕ) : Type 0 where
  pub table : IsTable ns
  pub differ : (identity : ℕ → StructIdentity) → IsOneToOne identity → are_compatible identity ns a b ≡ false
