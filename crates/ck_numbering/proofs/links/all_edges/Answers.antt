use Rattle.std.specs.Prelude.{map}
use Rattle.ck_drafts.specs.Drafts.{plain_draft}
use Rattle.ck_numbering.specs.Numbered.{AreEdgesOf}
use Rattle.ck_numbering.proofs.Leading.{edges_lead}
use Rattle.ck_numbering.proofs.ListLemmas.{AllZip-more}
use Rattle.ck_numbering.proofs.links.all_edges.Goals as goal

pub edges_of-requires-clause-there : goal.edges_of-requires-clause-there
edges_of-requires-clause-there c =
    rw c.deref.ensures.value
    (edges_lead (map plain_draft c.args.drafts.now) c.args.drafts.now c.drafts.draft-index c.draft-item.result
    c.drafts-test.true c.draft-item.is c.requires.stay)

pub drafts-preserved : goal.drafts-preserved
drafts-preserved c =
    let ds = map plain_draft c.args.drafts.now in
    rw c.in_ok-push.ensures.items
    (AllZip-more (λ d es. AreEdgesOf c.args.first ds d.edges es.items) plain_draft c.args.drafts.now
    c.drafts.draft-index c.draft-item.result c.drafts.made.items c.in_ok-edges_of.field-0 c.drafts-test.true
    c.draft-item.is c.drafts.invariant (rw c.deref.ensures.value at c.in_ok-edges_of.ensures))
