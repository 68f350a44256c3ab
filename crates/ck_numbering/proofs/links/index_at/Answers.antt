use Rattle.std.proofs.Common.{◌≡◌, rules}
use Rattle.std.proofs.lemmas.List.Sorted.{searchable_from_sorted}
use Rattle.std.proofs.lemmas.Fn.{always_returns_same}
use Rattle.ck_drafts.specs.Drafts.{plain_place}
use Rattle.ck_drafts.specs.declared.drafts.Draft.{Draft}
use Rattle.ck_numbering.proofs.PlaceOrderLaws.{place_cmp_total}
use Rattle.ck_numbering.proofs.Search.{against, found, not_missing}
use Rattle.ck_numbering.proofs.Sorting.{draft_sorted}
use Rattle.ck_numbering.proofs.links.index_at.Goals as goal

pub unreachable-requires : goal.unreachable-requires
unreachable-requires c =
    let at = plain_place c.args.at.now in
    not_missing c.args.drafts.now at c.in-Err.field-0 c.requires.there
    (c.in-Err.ensures.position (against at)
    (always_returns_same _ (λ a r. r ≡ against at a.0.now) _ (λ a r q called. (search rules, search rules)))
    (searchable_from_sorted place_cmp_total (λ (d : Draft). plain_place d.at) c.args.drafts.now at
    (draft_sorted c.args.drafts.now c.requires.ascending)))

pub returns : goal.returns
returns c =
    let at = plain_place c.args.at.now in
    found c.args.drafts.now at c.in-Ok.index c.in-Ok.ensures.bound
    (c.in-Ok.ensures.position (against at)
    (always_returns_same _ (λ a r. r ≡ against at a.0.now) _ (λ a r q called. (search rules, search rules))))
