-- Numbers that were made for pairs of numbers. Private contracts alone speak of it.
use Rattle.std.specs.Prelude.{◌≡◌, ◌<◌, ℕ, true, ◌==◌, if◌then◌else◌, List, length, slice_index}
use Rattle.std.specs.Prelude.{Option, Some, None}
use Rattle.std.specs.List.{position}
use Rattle.ck_compatible.specs.Agreement.{named_list, named_type}
use Rattle.ck_compatible.specs.Pairs.{IsAmong, IsAt, IsSettled, Pair, pair_of, same_pair}
use Rattle.ck_composite.specs.CompositeNodes.{composite_node}
use Rattle.ck_types.specs.NodeEquality.{list_id, type_id}
use Rattle.ck_types.specs.TypeTable.{AList, AType, Entry, Extends, IsTable, KeepsLists, KeepsTypes, entries_of}
use Rattle.ck_types.specs.TypeTable.{entry_at, names_list, names_type}
use Rattle.ck_types.specs.Types.{StructIdentity, all_composite, composite}
use Rattle.ck_types.specs.declared.types.Node.{Node}

abbrev pub composite_entry : Entry → Entry → Entry
composite_entry (AType t) (AType u) = AType (composite t u)
composite_entry (AList ps) (AList qs) = AList (all_composite ps qs)
composite_entry e _ = e

-- a table that has grown at its end, and is one
pub record IsGrown (old new : List Node) : Type 0 where
  pub kept : Extends old new
  pub types : KeepsTypes old new
  pub lists : KeepsLists old new
  pub table : IsTable new

-- a number of the new table stands for the composite of what two numbers of the old one stand for
pub record IsMade (old new : List Node) (i j made : ℕ) : Type 0 where
  pub within : made < length new
  pub types : names_type old i ≡ true → names_type new made ≡ true
  pub lists : names_list old i ≡ true → names_list new made ≡ true
  pub is : (identity : ℕ → StructIdentity)
      → entry_at (entries_of identity new) made
      ≡ composite_entry (entry_at (entries_of identity old) i) (entry_at (entries_of identity old) j)

-- the first number of a pair rises: a pair comes after those of its parts
abbrev pub IsInOrder : List Pair → Type 0
IsInOrder ks = (k l : ℕ) (p q : Pair) → IsAt ks k p → IsAt ks l q → p.0 < q.0 → k < l

-- the same pairs in their order
pub record IsOrderOf (ks ordered : List Pair) : Type 0 where
  pub there : (p : Pair) → IsAmong ks p → IsAmong ordered p
  pub back : (p : Pair) → IsAmong ordered p → IsAmong ks p
  pub in_order : IsInOrder ordered

-- pairs in order, each with those of its parts
pub record AreOrdered (ns : List Node) (ks : List Pair) : Type 0 where
  pub table : IsTable ns
  pub in_order : IsInOrder ks
  pub settled : (k : ℕ) (p : Pair) → IsAt ks k p → IsSettled ns ks p

-- the first of the pairs have their numbers, in the same places
pub record AreMade (old new : List Node) (ks : List Pair) (ms : List ℕ) : Type 0 where
  pub made : (k : ℕ) (p : Pair) → k < length ms → IsAt ks k p → IsMade old new p.0 p.1 (slice_index ms k)

abbrev pub number_at : List ℕ → Option ℕ → ℕ
number_at ms None = 0
number_at ms (Some k) = slice_index ms k

-- the number that was made for two: a number with itself is its own composite
abbrev pub number_made : List Pair → List ℕ → ℕ → ℕ → ℕ
number_made ks ms i j = if i == j then i else number_at ms (position (same_pair (pair_of i j)) ks)

abbrev pub part_made : List Pair → List ℕ → Option ℕ → Option ℕ → ℕ
part_made ks ms (Some i) (Some j) = number_made ks ms i j
part_made ks ms _ _ = 0

-- the node of the composite of what two nodes stand for, over the numbers that were made for their parts
abbrev pub node_made : List Pair → List ℕ → Node → Node → Node
node_made ks ms n m = composite_node n m (type_id (part_made ks ms (named_type n) (named_type m)))
    (list_id (part_made ks ms (named_list n) (named_list m)))
