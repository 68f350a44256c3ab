-- Where edges of drafts lead.
use Rattle.std.proofs.Common.{◌≡◌, sym}
use Rattle.std.specs.Prelude.{◌<◌, ℕ, List, length, map, slice_index_or, All, Contains}
use Rattle.std.proofs.lemmas.List.Elements.{Contains-get_or}
use Rattle.ck_drafts.specs.Drafts.{PlainDraft, plain_draft, plain_edge, plain_place}
use Rattle.ck_drafts.specs.declared.drafts.Draft.{Draft}
use Rattle.ck_numbering.specs.Closed.{HasDraftAt, AllLeadInto}
use Rattle.ck_numbering.proofs.ListLemmas.{Contains-map}

-- the edges of one of the drafts lead there
pub edges_lead : (ds : List PlainDraft) (xs : List Draft) (i : ℕ) (x : Draft) → i < length xs
    → x ≡ slice_index_or xs i x → AllLeadInto ds (map plain_draft xs)
    → All (λ e. HasDraftAt ds (plain_place e.to)) x.edges.items
edges_lead ds xs i x low is lead k e inside =
    let own : Contains xs x = (i, low, sym is) in
    lead.there (plain_draft x) (Contains-map plain_draft xs x own) (plain_edge (slice_index_or x.edges.items k e))
    (Contains-map plain_edge x.edges.items (slice_index_or x.edges.items k e)
    (Contains-get_or x.edges.items k e inside))
