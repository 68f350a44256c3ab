-- Nodes that are looked up and placed in a table.
use Rattle.std.proofs.Common.{◌≡◌, ℕ, zero, suc, List, [], ◌∷◌, ◌++◌, Bool, true, false, Some, refl, sym}
use Rattle.std.proofs.Common.{subst, arith}
use Rattle.std.proofs.lemmas.List.{append-nil}
use Rattle.std.specs.List.{list_any}
use Rattle.std.specs.Prelude.{◌≢◌, if◌then◌else◌, slice_get}
use Rattle.ck_types.proofs.Tables.{IsMissing, IsTable-last, lists-kept, types-kept}
use Rattle.ck_types.specs.NodeEquality.{node-equal, node-self}
use Rattle.ck_types.specs.SameNodes.{same_node}
use Rattle.ck_types.specs.TypeTable.{Extends, IsNode, IsTable, KeepsLists, KeepsTypes, fits}
use Rattle.ck_types.specs.declared.types.Node.{Node}

-- a node that no node of these is the same as isn't among them
differs-first : (k n : Node) (ks : List Node) → list_any (same_node n) (k ∷ ks) ≡ false → k ≢ n
differs-first k n ks none e =
    let same : same_node n k ≡ true = subst (λ m. same_node n m ≡ true) (sym e) (node-self n) in
    grind (arith, none, same)

pub not-among : (ks : List Node) (n : Node) → list_any (same_node n) ks ≡ false → IsMissing ks n
not-among [] n none i d h = absurd (omega (arith, h))
not-among (k ∷ ks) n none zero d h = differs-first k n ks none
not-among (k ∷ ks) n none (suc i) d h = not-among ks n (grind (arith, none)) i d (omega (arith, h))

-- what a table is after a node was placed in it
pub record IsPlaced (old new : List Node) : Type 0 where
  pub kept : Extends old new
  pub types : KeepsTypes old new
  pub lists : KeepsLists old new
  pub table : IsTable new

placed-by : (ks : List Node) (n : Node) (known : Bool) → list_any (same_node n) ks ≡ known → IsTable ks
    → fits ks n ≡ true → IsPlaced ks (if known then ks else ks ++ n ∷ [])
placed-by ks n true is table fit = record {
  kept = record { more = []; is = sym (append-nil ks) };
  types = λ i h. h;
  lists = λ i h. h;
  table = table;
}
placed-by ks n false is table fit = record {
  kept = record { more = n ∷ []; is = refl };
  types = types-kept ks (n ∷ []);
  lists = lists-kept ks (n ∷ []);
  table = IsTable-last ks n table fit (not-among ks n is);
}

pub placed : (ks ms : List Node) (n : Node) → ms ≡ (if list_any (same_node n) ks then ks else ks ++ n ∷ [])
    → IsTable ks → fits ks n ≡ true → IsPlaced ks ms
placed ks ms n is table fit =
    subst (IsPlaced ks) (sym is) (placed-by ks n (list_any (same_node n) ks) refl table fit)

-- the element of a number is a node there
pub node-got : (ks : List Node) (i : ℕ) (k : Node) → slice_get ks i ≡ Some k → IsNode ks i k
node-got [] i k h = grind (arith, h)
node-got (x ∷ ks) zero k h = record { within = omega arith; is = λ d. grind (arith, h) }
node-got (x ∷ ks) (suc i) k h =
    let rest = node-got ks i k h in
    record { within = omega (arith, rest.within); is = rest.is }

pub node-stored : (ks : List Node) (i : ℕ) (n k : Node) → slice_get ks i ≡ Some k → same_node n k ≡ true
    → IsNode ks i n
node-stored ks i n k at same = subst (IsNode ks i) (sym (node-equal n k same)) (node-got ks i k at)
