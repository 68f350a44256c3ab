use Rattle.std.proofs.Common.{rules}
use Rattle.std.proofs.lemmas.List.Sorted.{answers_always, IsPermutation-map}
use Rattle.ck_drafts.specs.Drafts.{plain_draft}
use Rattle.ck_numbering.proofs.Sorting.{draft_less, draft_less_order, plain_sorted, ascending_from_sorted}
use Rattle.ck_numbering.proofs.Sorting.{apart_after_permutation}
use Rattle.ck_numbering.proofs.order.sort.Goals as goal

pub returns-clause-ascending : goal.returns-clause-ascending
returns-clause-ascending c =
    ascending_from_sorted _
    (plain_sorted _
    (c.in_ok-sort_by.ensures.sorted draft_less draft_less_order
    (answers_always _ _ _ (λ f a r g called. search rules))))
    (apart_after_permutation _ _ (IsPermutation-map plain_draft _ _ c.sort_by.ensures.permutation) c.requires)

pub returns-clause-same : goal.returns-clause-same
returns-clause-same c = IsPermutation-map plain_draft _ _ c.sort_by.ensures.permutation
