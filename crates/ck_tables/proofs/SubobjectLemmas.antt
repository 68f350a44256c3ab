-- A table of subobjects that grows at its end.
use Rattle.std.proofs.Common.{◌≡◌, ℕ, ◌<◌, List, [], ◌∷◌, ◌++◌, length, get_or, refl, ap, arith, sym, ◌∙◌}
use Rattle.std.specs.Prelude.{true, Option, Some, None}
use Rattle.ck_tables.specs.SubobjectTable.{path_around, make, path_at, around_below, reads_below, IsOrdered, IsNode}
use Rattle.ck_tables.specs.SubobjectTable.{Keeps}
use Rattle.ck_tables.proofs.TableLemmas.{Agree, length-more, are_ordered_last, below_at, tree_in-more, stands_last}
use Rattle.ck_tables.proofs.TableLemmas.{stands_at}
use Rattle.ck_tables.specs.declared.subobjects.Subobject.{Subobject}
use Rattle.ck_tables.specs.declared.subobjects.SubobjectId.{SubobjectId}

around-same : (k : ℕ) (f g : ℕ → List ℕ) (s : Option SubobjectId) → Agree k f g → around_below k s ≡ true
    → path_around f s ≡ path_around g s
around-same k f g None same h = refl
around-same k f g (Some s) same h = same s.0 (grind arith)

make-same : (k : ℕ) (f g : ℕ → List ℕ) (n : Subobject) → Agree k f g → reads_below k n ≡ true → make f n ≡ make g n
make-same k f g n same h = ap (λ p. p ++ (n.number ∷ [])) (around-same k f g n.within same h)

pub keeps_more : (ns ms : List Subobject) → Keeps ns (ns ++ ms)
keeps_more ns ms = record { no_less = length-more ns ms; same = λ i h. tree_in-more [] make ns ms i h }

pub keeps_none : (ns : List Subobject) → Keeps ns ns
keeps_none ns = record { no_less = omega arith; same = λ i h. refl }

pub keeps_twice : (ns ms ls : List Subobject) → Keeps ns ms → Keeps ms ls → Keeps ns ls
keeps_twice ns ms ls x y =
    let first = x.no_less in
    let next = y.no_less in
    record { no_less = omega arith; same = λ i h. y.same i (omega arith) ∙ x.same i h }

pub is_ordered_last : (ns : List Subobject) (n : Subobject) → IsOrdered ns → reads_below (length ns) n ≡ true
    → IsOrdered (ns ++ (n ∷ []))
is_ordered_last ns n h last = are_ordered_last reads_below ns n h last

pub is_node_last : (ns : List Subobject) (n : Subobject) → reads_below (length ns) n ≡ true
    → IsNode (ns ++ (n ∷ [])) (length ns) n
is_node_last ns n last = record { below = last; path = stands_last [] make reads_below make-same ns n last }

pub is_node_at : (ns : List Subobject) (i : ℕ) (d : Subobject) → IsOrdered ns → i < length ns
    → IsNode ns i (get_or ns i d)
is_node_at ns i d ordered h =
    record {
      below = below_at reads_below ns i d h ordered;
      path = stands_at [] make reads_below make-same ns i d h ordered;
    }

-- a part that a table has stays when the table grows
pub is_node_kept : (ns ms : List Subobject) (i : ℕ) (n : Subobject) → i < length ns → Keeps ns ms → IsNode ns i n
    → IsNode ms i n
is_node_kept ns ms i n h kept was =
    record {
      below = was.below;
      path =
          kept.same i h
          ∙ was.path
          ∙ sym (make-same i (path_at ms) (path_at ns) n (λ j less. kept.same j (omega arith)) was.below);
    }

pub ruleset growing = (keeps_none, keeps_more, is_ordered_last, is_node_last)
