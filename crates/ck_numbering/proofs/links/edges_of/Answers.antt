use Rattle.std.proofs.Common.{refl}
use Rattle.std.specs.Prelude.{map}
use Rattle.ck_drafts.specs.Drafts.{plain_draft, plain_edge}
use Rattle.ck_numbering.specs.Numbered.{IsEdgeOf}
use Rattle.ck_numbering.proofs.ListLemmas.{AllZip-more}
use Rattle.ck_numbering.proofs.links.edges_of.Goals as goal

pub edges-preserved : goal.edges-preserved
edges-preserved c =
    rw c.in_ok-push.ensures.items
    (AllZip-more (IsEdgeOf c.args.first (map plain_draft c.args.drafts.now)) plain_edge c.args.edges.now
    c.edges.edge-index c.edge-item.result c.edges.made.items _ c.edges-test.true c.edge-item.is c.edges.invariant
    (record { label = refl; to = c.number_at.ensures }))
