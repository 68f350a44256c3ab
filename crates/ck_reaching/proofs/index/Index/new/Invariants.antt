use Rattle.std.proofs.Common.{◌≡◌, ℕ, [], length}
use Rattle.ck_reaching.specs.Indices.{lists_of, numbers_at}
use Rattle.ck_reaching.proofs.index.Index.new.Given as goal

-- the lists so far, which are empty
abbrev pub invariant-sizes : goal.invariant-sizes
invariant-sizes l = record {
  length : length l.lists.items ≡ l._list;
  none : (k : ℕ) → numbers_at (lists_of l.lists.items) k ≡ [];
}
