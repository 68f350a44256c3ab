-- A table that grows at its end: what its numbers stand for stays, and each stands for its node's tree.
use Rattle.std.proofs.Common.{◌≡◌, ℕ, zero, suc, ◌+◌, ◌<◌, ◌≤◌, List, [], ◌∷◌, ◌++◌, length, get_or, refl, ap, subst}
use Rattle.std.proofs.Common.{arith, sym, ◌∙◌, append_assoc}
use Rattle.std.specs.Prelude.{Bool, true}
use Rattle.ck_tables.specs.Rows.{IsRow}
use Rattle.ck_tables.specs.Tables.{nth, trees_after, tree_in, ordered_from, AreOrdered}

-- two functions say the same of numbers below one
abbrev pub Agree : {Tree : Type 0} → ℕ → (ℕ → Tree) → (ℕ → Tree) → Type 0
Agree limit f g = (i : ℕ) → i < limit → f i ≡ g i

module _ {X : Type 0} where
  length-last : (xs : List X) (x : X) → length (xs ++ (x ∷ [])) ≡ suc (length xs)
  length-last [] x = refl
  length-last (y ∷ xs) x = ap suc (length-last xs x)

  pub length-more : (xs ys : List X) → length xs ≤ length (xs ++ ys)
  length-more [] ys = omega arith
  length-more (x ∷ xs) ys = let h = length-more xs ys in omega arith

  nth-front : (none : X) (xs ys : List X) (i : ℕ) → i < length xs → nth none (xs ++ ys) i ≡ nth none xs i
  nth-front none [] ys i h = grind arith
  nth-front none (x ∷ xs) ys zero h = refl
  nth-front none (x ∷ xs) ys (suc i) h = nth-front none xs ys i (omega arith)

  nth-last : (none : X) (xs : List X) (x : X) → nth none (xs ++ (x ∷ [])) (length xs) ≡ x
  nth-last none [] x = refl
  nth-last none (y ∷ xs) x = nth-last none xs x

  get_or-any : (xs : List X) (i : ℕ) (d e : X) → i < length xs → get_or xs i d ≡ get_or xs i e
  get_or-any [] i d e h = grind arith
  get_or-any (x ∷ xs) zero d e h = refl
  get_or-any (x ∷ xs) (suc i) d e h = get_or-any xs i d e (omega arith)

  pub is_row_at : (xs : List X) (i : ℕ) (x : X) → i < length xs → x ≡ get_or xs i x → IsRow xs i x
  is_row_at xs i x h at = record { within = h; is = λ d. get_or-any xs i d x h ∙ sym at }

module _ {Node : Type 0} (below : ℕ → Node → Bool) where
  ordered-last : (k : ℕ) (ns : List Node) (n : Node) → ordered_from below k ns ≡ true
      → below (k + length ns) n ≡ true → ordered_from below k (ns ++ (n ∷ [])) ≡ true
  ordered-last k [] n h last =
      let e : k + 0 ≡ k = omega arith in
      let here = subst (λ j. below j n ≡ true) e last in
      grind (arith, here)
  ordered-last k (m ∷ ns) n h last =
      let e : k + suc (length ns) ≡ suc k + length ns = omega arith in
      let rest = ordered-last (suc k) ns n (grind arith) (subst (λ j. below j n ≡ true) e last) in
      grind (arith, rest)

  pub are_ordered_last : (ns : List Node) (n : Node) → AreOrdered below ns → below (length ns) n ≡ true
      → AreOrdered below (ns ++ (n ∷ []))
  are_ordered_last ns n h last = ordered-last 0 ns n h (subst (λ k. below k n ≡ true) (omega arith) last)

  below-from : (k : ℕ) (ns : List Node) (i : ℕ) (d : Node) → i < length ns → ordered_from below k ns ≡ true
      → below (k + i) (get_or ns i d) ≡ true
  below-from k [] i d h o = grind arith
  below-from k (n ∷ ns) zero d h o =
      let e : k ≡ k + zero = omega arith in
      subst (λ j. below j n ≡ true) e (grind arith)
  below-from k (n ∷ ns) (suc i) d h o =
      let e : suc k + i ≡ k + suc i = omega arith in
      subst (λ j. below j (get_or ns i d) ≡ true) e (below-from (suc k) ns i d (omega arith) (grind arith))

  pub below_at : (ns : List Node) (i : ℕ) (d : Node) → i < length ns → AreOrdered below ns
      → below i (get_or ns i d) ≡ true
  below_at ns i d h o =
      let e : 0 + i ≡ i = omega arith in
      subst (λ j. below j (get_or ns i d) ≡ true) e (below-from 0 ns i d h o)

module _ {Tree Node : Type 0} (none : Tree) (make : (ℕ → Tree) → Node → Tree) where
  after-append : (done : List Tree) (ns ms : List Node)
      → trees_after none make done (ns ++ ms) ≡ trees_after none make (trees_after none make done ns) ms
  after-append done [] ms = refl
  after-append done (n ∷ ns) ms = after-append (done ++ (make (nth none done) n ∷ [])) ns ms

  after-length : (done : List Tree) (ns : List Node)
      → length (trees_after none make done ns) ≡ length done + length ns
  after-length done [] = omega arith
  after-length done (n ∷ ns) =
      let e = length-last done (make (nth none done) n) in
      let h = after-length (done ++ (make (nth none done) n ∷ [])) ns in
      omega arith

  after-front : (done : List Tree) (ns : List Node) (i : ℕ) → i < length done
      → nth none (trees_after none make done ns) i ≡ nth none done i
  after-front done [] i h = refl
  after-front done (n ∷ ns) i h =
      let e = length-last done (make (nth none done) n) in
      after-front (done ++ (make (nth none done) n ∷ [])) ns i (omega arith)
      ∙ nth-front none done (make (nth none done) n ∷ []) i h

  -- what was there stays
  pub tree_in-more : (ns ms : List Node) (i : ℕ) → i < length ns
      → tree_in none make (ns ++ ms) i ≡ tree_in none make ns i
  unfolding tree_in
  tree_in-more ns ms i h =
      let e = after-length [] ns in
      ap (λ ts. nth none ts i) (after-append [] ns ms)
      ∙ after-front (trees_after none make [] ns) ms i (omega arith)

  tree_in-last : (ns : List Node) (n : Node)
      → tree_in none make (ns ++ (n ∷ [])) (length ns) ≡ make (tree_in none make ns) n
  unfolding tree_in
  tree_in-last ns n =
      let e : length ns ≡ length {A = Tree} [] + length ns = omega arith in
      let ts = trees_after none make [] ns in
      ap (λ us. nth none us (length ns)) (after-append [] ns (n ∷ []))
      ∙ ap (nth none (ts ++ (make (nth none ts) n ∷ []))) (e ∙ sym (after-length [] ns))
      ∙ nth-last none ts (make (nth none ts) n)

-- where a node's tree depends on the numbers alone that it names
module _ {Tree Node : Type 0} (none : Tree) (make : (ℕ → Tree) → Node → Tree) (below : ℕ → Node → Bool)
    (make_same : (k : ℕ) (f g : ℕ → Tree) (n : Node) → Agree k f g → below k n ≡ true → make f n ≡ make g n) where
  -- the last number stands for the last node's tree
  pub stands_last : (ns : List Node) (n : Node) → below (length ns) n ≡ true
      → tree_in none make (ns ++ (n ∷ [])) (length ns) ≡ make (tree_in none make (ns ++ (n ∷ []))) n
  stands_last ns n last =
      let all = ns ++ (n ∷ []) in
      tree_in-last none make ns n
      ∙ sym (make_same (length ns) (tree_in none make all) (tree_in none make ns) n
      (tree_in-more none make ns (n ∷ [])) last)

  stands-kept : (ns ms : List Node) (i : ℕ) (n : Node) → i < length ns → below i n ≡ true
      → tree_in none make ns i ≡ make (tree_in none make ns) n
      → tree_in none make (ns ++ ms) i ≡ make (tree_in none make (ns ++ ms)) n
  stands-kept ns ms i n h less was =
      let f = tree_in none make (ns ++ ms) in
      let g = tree_in none make ns in
      tree_in-more none make ns ms i h
      ∙ was
      ∙ sym (make_same i f g n (λ j most. tree_in-more none make ns ms j (omega arith)) less)

  stands-here : (front : List Node) (n : Node) (ns : List Node) → below (length front) n ≡ true
      → tree_in none make (front ++ (n ∷ ns)) (length front) ≡ make (tree_in none make (front ++ (n ∷ ns))) n
  stands-here front n ns less =
      let e = length-last front n in
      let was = stands_last front n less in
      subst (λ all. tree_in none make all (length front) ≡ make (tree_in none make all) n)
      (append_assoc front (n ∷ []) ns)
      (stands-kept (front ++ (n ∷ [])) ns (length front) n (omega arith) less was)

  stands-from : (front ns : List Node) (i : ℕ) (d : Node) → ordered_from below (length front) ns ≡ true
      → i < length ns
      → tree_in none make (front ++ ns) (length front + i) ≡ make (tree_in none make (front ++ ns)) (get_or ns i d)
  stands-from front [] i d o h = grind arith
  stands-from front (n ∷ ns) zero d o h =
      let e : length front ≡ length front + zero = omega arith in
      let all = front ++ (n ∷ ns) in
      subst (λ k. tree_in none make all k ≡ make (tree_in none make all) n) e (stands-here front n ns (grind arith))
  stands-from front (n ∷ ns) (suc i) d o h =
      let e = length-last front n in
      let k : length (front ++ (n ∷ [])) + i ≡ length front + suc i = omega arith in
      let m = get_or ns i d in
      let later = subst (λ k. ordered_from below k ns ≡ true) (sym e) (grind arith) in
      let more = stands-from (front ++ (n ∷ [])) ns i d later (omega arith) in
      subst (λ all. tree_in none make all (length front + suc i) ≡ make (tree_in none make all) m)
      (append_assoc front (n ∷ []) ns)
      (subst
      (λ k. tree_in none make ((front ++ (n ∷ [])) ++ ns) k ≡ make (tree_in none make ((front ++ (n ∷ [])) ++ ns)) m)
      k more)

  -- each number of a table stands for its node's tree
  pub stands_at : (ns : List Node) (i : ℕ) (d : Node) → i < length ns → AreOrdered below ns
      → tree_in none make ns i ≡ make (tree_in none make ns) (get_or ns i d)
  stands_at ns i d h o =
      let e : 0 + i ≡ i = omega arith in
      subst (λ k. tree_in none make ns k ≡ make (tree_in none make ns) (get_or ns i d)) e (stands-from [] ns i d o h)
