-- A table of nodes, each over the nodes before it: what its numbers stand for, by one fold. `make` gives a node's tree
-- where a function says what the numbers that it names stand for, and `below` tells that it names smaller numbers than
-- one.
use Rattle.std.specs.Prelude.{◌≡◌, ℕ, zero, suc, Bool, true, ◌&&◌, List, [], ◌∷◌, ◌++◌}

-- the tree of a number, or one for the numbers that no node has
abbrev pub nth : {Tree : Type 0} → Tree → List Tree → ℕ → Tree
nth none [] i = none
nth none (t ∷ ts) zero = t
nth none (t ∷ ts) (suc i) = nth none ts i

module _ {Tree Node : Type 0} (none : Tree) (make : (ℕ → Tree) → Node → Tree) where
  -- the trees of nodes, after those before them
  abbrev pub trees_after : List Tree → List Node → List Tree
  trees_after done [] = done
  trees_after done (n ∷ ns) = trees_after (done ++ (make (nth none done) n ∷ [])) ns

  -- what a number of a table stands for
  unfoldable pub tree_in : List Node → ℕ → Tree
  tree_in ns i = nth none (trees_after [] ns) i

module _ {Node : Type 0} (below : ℕ → Node → Bool) where
  abbrev pub ordered_from : ℕ → List Node → Bool
  ordered_from k [] = true
  ordered_from k (n ∷ ns) = below k n && ordered_from (suc k) ns

  -- each node names smaller numbers than its own
  abbrev pub AreOrdered : List Node → Type 0
  AreOrdered ns = ordered_from 0 ns ≡ true
