-- A table of statements that grows at its end.
use Rattle.std.proofs.Common.{◌≡◌, ℕ, ◌<◌, ◌≤◌, List, [], ◌∷◌, ◌++◌, length, get_or, refl, ap, arith, sym, ◌∙◌}
use Rattle.std.specs.Prelude.{true}
use Rattle.ck_prog.specs.TypedBodies as bodies
use Rattle.ck_prog.specs.TypedBodies.{TypedStatement, TypedItems}
use Rattle.ck_tables.specs.Readings.{BodyReadings, plain_value}
use Rattle.ck_tables.specs.StmtTable.{plain_start, plain_expression, item_before, items_of, make, no_statement}
use Rattle.ck_tables.specs.StmtTable.{statement_at, item_below, items_below, reads_below, IsOrdered, IsNode, Keeps}
use Rattle.ck_tables.proofs.TableLemmas.{Agree, length-more, are_ordered_last, below_at, tree_in-more, stands_last}
use Rattle.ck_tables.proofs.TableLemmas.{stands_at}
use Rattle.ck_tables.specs.declared.stmts.Item.{Item}
use Rattle.ck_tables.specs.declared.stmts.Item.TheVariants as items
use Rattle.ck_tables.specs.declared.stmts.StmtNode.{StmtNode}
use Rattle.ck_tables.specs.declared.stmts.StmtNode.TheVariants as nodes

item-same : (b : BodyReadings) (k : ℕ) (f g : ℕ → TypedStatement) (i : Item) (rest : TypedItems) → Agree k f g
    → item_below k i ≡ true → item_before b f i rest ≡ item_before b g i rest
item-same b k f g (items.Declaration d) rest same h = refl
item-same b k f g (items.Statement s) rest same h = ap (λ t. bodies.StatementItem t rest) (same s.0 (grind arith))

items-same : (b : BodyReadings) (k : ℕ) (f g : ℕ → TypedStatement) (is : List Item) → Agree k f g
    → items_below k is ≡ true → items_of b f is ≡ items_of b g is
items-same b k f g [] same h = refl
items-same b k f g (i ∷ is) same h =
    item-same b k f g i (items_of b f is) same (grind arith)
    ∙ ap (item_before b g i) (items-same b k f g is same (grind arith))

make-same : (b : BodyReadings) (k : ℕ) (f g : ℕ → TypedStatement) (n : StmtNode) → Agree k f g
    → reads_below k n ≡ true → make b f n ≡ make b g n
make-same b k f g (nodes.Block first row) same h = ap (bodies.Block first) (items-same b k f g row.items same h)
make-same b k f g (nodes.Empty first) same h = refl
make-same b k f g (nodes.Expression value) same h = refl
make-same b k f g (nodes.If keyword test controlled) same h =
    ap (bodies.If keyword (b.expr_of test.0)) (same controlled.0 (grind arith))
make-same b k f g (nodes.IfElse keyword test controlled otherwise) same h =
    ap (λ t. bodies.IfElse keyword (b.expr_of test.0) t (f otherwise.0)) (same controlled.0 (grind arith))
    ∙ ap (bodies.IfElse keyword (b.expr_of test.0) (g controlled.0)) (same otherwise.0 (grind arith))
make-same b k f g (nodes.Switch keyword value body) same h =
    ap (bodies.Switch keyword (b.expr_of value.0)) (same body.0 (grind arith))
make-same b k f g (nodes.While keyword test body) same h =
    ap (bodies.While keyword (b.expr_of test.0)) (same body.0 (grind arith))
make-same b k f g (nodes.Do keyword body test) same h =
    ap (λ t. bodies.Do keyword t (b.expr_of test.0)) (same body.0 (grind arith))
make-same b k f g (nodes.For keyword start test step body) same h =
    ap (bodies.For keyword (plain_start b start) (plain_expression b test) (plain_expression b step))
    (same body.0 (grind arith))
make-same b k f g (nodes.Case keyword in_switch value converted labelled) same h =
    ap (bodies.Case keyword in_switch (b.expr_of value.0) (plain_value b.readings converted))
    (same labelled.0 (grind arith))
make-same b k f g (nodes.Default keyword in_switch labelled) same h =
    ap (bodies.Default keyword in_switch) (same labelled.0 (grind arith))
make-same b k f g (nodes.Label name text labelled) same h =
    ap (bodies.Label name (b.readings.name_of text.0)) (same labelled.0 (grind arith))
make-same b k f g (nodes.Goto keyword text) same h = refl
make-same b k f g (nodes.Jump keyword to found) same h = refl
make-same b k f g (nodes.Return keyword) same h = refl
make-same b k f g (nodes.ReturnValue keyword result value) same h = refl

item-more : (k l : ℕ) (i : Item) → k ≤ l → item_below k i ≡ true → item_below l i ≡ true
item-more k l (items.Declaration d) most h = refl
item-more k l (items.Statement s) most h = grind arith

items-more : (k l : ℕ) (is : List Item) → k ≤ l → items_below k is ≡ true → items_below l is ≡ true
items-more k l [] most h = refl
items-more k l (i ∷ is) most h =
    let one = item-more k l i most (grind arith) in
    let more = items-more k l is most (grind arith) in
    grind (arith, one, more)

keeping_rows : (ns ms : List StmtNode) → length ns ≤ length ms
    → ((b : BodyReadings) (i : ℕ) → i < length ns → statement_at b ms i ≡ statement_at b ns i) → Keeps ns ms
keeping_rows ns ms most same =
    record {
      no_less = most;
      same = same;
      same_items = λ b is h. items-same b (length ns) (statement_at b ms) (statement_at b ns) is (same b) h;
      more_items = λ is h. items-more (length ns) (length ms) is most h;
    }

pub keeps_more : (ns ms : List StmtNode) → Keeps ns (ns ++ ms)
keeps_more ns ms =
    keeping_rows ns (ns ++ ms) (length-more ns ms) (λ b i h. tree_in-more no_statement (make b) ns ms i h)

pub keeps_none : (ns : List StmtNode) → Keeps ns ns
keeps_none ns = keeping_rows ns ns (omega arith) (λ b i h. refl)

pub keeps_twice : (ns ms ls : List StmtNode) → Keeps ns ms → Keeps ms ls → Keeps ns ls
keeps_twice ns ms ls x y = keeping_rows ns ls (omega arith) (λ b i h. y.same b i (omega arith) ∙ x.same b i h)

pub is_ordered_last : (ns : List StmtNode) (n : StmtNode) → IsOrdered ns → reads_below (length ns) n ≡ true
    → IsOrdered (ns ++ (n ∷ []))
is_ordered_last ns n h last = are_ordered_last reads_below ns n h last

pub is_node_last : (ns : List StmtNode) (n : StmtNode) → reads_below (length ns) n ≡ true
    → IsNode (ns ++ (n ∷ [])) (length ns) n
is_node_last ns n last =
    record { below = last; tree = λ b. stands_last no_statement (make b) reads_below (make-same b) ns n last }

pub is_node_at : (ns : List StmtNode) (i : ℕ) (d : StmtNode) → IsOrdered ns → i < length ns
    → IsNode ns i (get_or ns i d)
is_node_at ns i d ordered h =
    record {
      below = below_at reads_below ns i d h ordered;
      tree = λ b. stands_at no_statement (make b) reads_below (make-same b) ns i d h ordered;
    }

-- a node that a table has stays when the table grows
pub is_node_kept : (ns ms : List StmtNode) (i : ℕ) (n : StmtNode) → i < length ns → Keeps ns ms → IsNode ns i n
    → IsNode ms i n
is_node_kept ns ms i n h kept was =
    record {
      below = was.below;
      tree =
          λ b.
          kept.same b i h
          ∙ was.tree b
          ∙ sym
          (make-same b i (statement_at b ms) (statement_at b ns) n (λ j less. kept.same b j (omega arith)) was.below);
    }

pub ruleset growing = (keeps_none, keeps_more, is_ordered_last, is_node_last)
