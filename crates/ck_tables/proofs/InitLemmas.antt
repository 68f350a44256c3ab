-- A table of initialisers that grows at its end.
use Rattle.std.proofs.Common.{◌≡◌, ℕ, ◌<◌, ◌≤◌, List, [], ◌∷◌, ◌++◌, length, get_or, refl, ap, arith, sym, ◌∙◌}
use Rattle.std.specs.Prelude.{true}
use Rattle.ck_prog.specs.TypedBodies as bodies
use Rattle.ck_prog.specs.TypedBodies.{TypedInitialiser, TypedInitialisers}
use Rattle.ck_tables.specs.Readings.{BodyReadings}
use Rattle.ck_tables.specs.InitTable.{plain_init_facts, designation_of, item_before, row_of, make, no_initialiser}
use Rattle.ck_tables.specs.InitTable.{init_at, item_below, row_below, reads_below, IsOrdered, IsNode, Keeps}
use Rattle.ck_tables.proofs.TableLemmas.{Agree, length-more, are_ordered_last, below_at, tree_in-more, stands_last}
use Rattle.ck_tables.proofs.TableLemmas.{stands_at}
use Rattle.ck_tables.specs.declared.inits.InitItem.{InitItem}
use Rattle.ck_tables.specs.declared.inits.InitItem.TheVariants as items
use Rattle.ck_tables.specs.declared.inits.InitNode.{InitNode}
use Rattle.ck_tables.specs.declared.inits.InitNode.TheVariants as nodes

item-same : (b : BodyReadings) (k : ℕ) (f g : ℕ → TypedInitialiser) (i : InitItem) (rest : TypedInitialisers)
    → Agree k f g → item_below k i ≡ true → item_before b f i rest ≡ item_before b g i rest
item-same b k f g (items.Plain initialiser) rest same h =
    ap (λ t. bodies.Initialiser bodies.NoDesignators t rest) (same initialiser.0 (grind arith))
item-same b k f g (items.Designated initialiser designation) rest same h =
    ap (λ t. bodies.Initialiser (designation_of b designation.value) t rest) (same initialiser.0 (grind arith))

row-same : (b : BodyReadings) (k : ℕ) (f g : ℕ → TypedInitialiser) (is : List InitItem) → Agree k f g
    → row_below k is ≡ true → row_of b f is ≡ row_of b g is
row-same b k f g [] same h = refl
row-same b k f g (i ∷ is) same h =
    item-same b k f g i (row_of b f is) same (grind arith)
    ∙ ap (item_before b g i) (row-same b k f g is same (grind arith))

make-same : (b : BodyReadings) (k : ℕ) (f g : ℕ → TypedInitialiser) (n : InitNode) → Agree k f g
    → reads_below k n ≡ true → make b f n ≡ make b g n
make-same b k f g (nodes.Value facts value) same h = refl
make-same b k f g (nodes.Braces facts row) same h =
    ap (bodies.Braces (plain_init_facts b.readings facts)) (row-same b k f g row.items same h)

item-more : (k l : ℕ) (i : InitItem) → k ≤ l → item_below k i ≡ true → item_below l i ≡ true
item-more k l (items.Plain initialiser) most h = grind arith
item-more k l (items.Designated initialiser designation) most h = grind arith

row-more : (k l : ℕ) (is : List InitItem) → k ≤ l → row_below k is ≡ true → row_below l is ≡ true
row-more k l [] most h = refl
row-more k l (i ∷ is) most h =
    let here = item-more k l i most (grind arith) in
    let more = row-more k l is most (grind arith) in
    grind (arith, here, more)

keeping_rows : (ns ms : List InitNode) → length ns ≤ length ms
    → ((b : BodyReadings) (i : ℕ) → i < length ns → init_at b ms i ≡ init_at b ns i) → Keeps ns ms
keeping_rows ns ms most same =
    record {
      no_less = most;
      same = same;
      same_row = λ b is h. row-same b (length ns) (init_at b ms) (init_at b ns) is (same b) h;
      more_row = λ is h. row-more (length ns) (length ms) is most h;
    }

pub keeps_more : (ns ms : List InitNode) → Keeps ns (ns ++ ms)
keeps_more ns ms =
    keeping_rows ns (ns ++ ms) (length-more ns ms) (λ b i h. tree_in-more no_initialiser (make b) ns ms i h)

pub keeps_none : (ns : List InitNode) → Keeps ns ns
keeps_none ns = keeping_rows ns ns (omega arith) (λ b i h. refl)

pub keeps_twice : (ns ms ls : List InitNode) → Keeps ns ms → Keeps ms ls → Keeps ns ls
keeps_twice ns ms ls x y = keeping_rows ns ls (omega arith) (λ b i h. y.same b i (omega arith) ∙ x.same b i h)

pub is_ordered_last : (ns : List InitNode) (n : InitNode) → IsOrdered ns → reads_below (length ns) n ≡ true
    → IsOrdered (ns ++ (n ∷ []))
is_ordered_last ns n h last = are_ordered_last reads_below ns n h last

pub is_node_last : (ns : List InitNode) (n : InitNode) → reads_below (length ns) n ≡ true
    → IsNode (ns ++ (n ∷ [])) (length ns) n
is_node_last ns n last =
    record { below = last; tree = λ b. stands_last no_initialiser (make b) reads_below (make-same b) ns n last }

pub is_node_at : (ns : List InitNode) (i : ℕ) (d : InitNode) → IsOrdered ns → i < length ns
    → IsNode ns i (get_or ns i d)
is_node_at ns i d ordered h =
    record {
      below = below_at reads_below ns i d h ordered;
      tree = λ b. stands_at no_initialiser (make b) reads_below (make-same b) ns i d h ordered;
    }

-- a node that a table has stays when the table grows
pub is_node_kept : (ns ms : List InitNode) (i : ℕ) (n : InitNode) → i < length ns → Keeps ns ms → IsNode ns i n
    → IsNode ms i n
is_node_kept ns ms i n h kept was =
    record {
      below = was.below;
      tree =
          λ b.
          kept.same b i h
          ∙ was.tree b
          ∙ sym (make-same b i (init_at b ms) (init_at b ns) n (λ j less. kept.same b j (omega arith)) was.below);
    }

pub ruleset growing = (keeps_none, keeps_more, is_ordered_last, is_node_last)
