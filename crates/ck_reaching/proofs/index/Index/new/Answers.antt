use Rattle.std.proofs.Common.{◌+◌, length, ap, ◌∙◌, arith}
use Rattle.std.proofs.lemmas.List.{length-map}
use Rattle.ck_reaching.specs.Indices.{lists_of, items_of, numbers_at}
use Rattle.ck_reaching.proofs.IndexLemmas.{length-pushed, none-pushed, no_numbers}
use Rattle.ck_reaching.proofs.index.Index.new.Goals as goal

pub sizes-init : goal.sizes-init
unfolding numbers_at
sizes-init c = record {
  length = ap length c.new-lists.ensures.items;
  none = λ k. ap (λ items. numbers_at (lists_of items) k) c.new-lists.ensures.items;
}

pub sizes-preserved : goal.sizes-preserved
sizes-preserved c = record {
  length = length-pushed c.sizes.lists.items c.push.new.self.items _ c.in_ok-push.ensures.items ∙
      ap (λ n. n + 1) c.sizes.invariant.length;
  none = none-pushed c.sizes.lists.items c.push.new.self.items _ c.in_ok-push.ensures.items c.new.ensures.items
      c.sizes.invariant.none;
}

pub returns-clause-size : goal.returns-clause-size
returns-clause-size c = length-map c.sizes.lists.items items_of ∙ omega arith

pub returns-clause-empty : goal.returns-clause-empty
returns-clause-empty c = no_numbers (lists_of c.sizes.lists.items) c.sizes.invariant.none
