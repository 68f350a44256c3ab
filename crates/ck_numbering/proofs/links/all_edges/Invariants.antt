use Rattle.std.specs.Prelude.{map, take}
use Rattle.ck_drafts.specs.Drafts.{plain_draft}
use Rattle.ck_numbering.specs.Numbered.{AreEdgesOfEach}
use Rattle.ck_numbering.proofs.links.all_edges.Given as goal

abbrev pub invariant-drafts : goal.invariant-drafts
invariant-drafts l =
    AreEdgesOfEach l.first (map plain_draft l.drafts) (map plain_draft (take l.draft-index l.drafts)) l.made.items
