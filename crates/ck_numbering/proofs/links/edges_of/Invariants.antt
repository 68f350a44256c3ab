use Rattle.std.specs.Prelude.{map, take}
use Rattle.ck_drafts.specs.Drafts.{plain_draft, plain_edge}
use Rattle.ck_numbering.specs.Numbered.{AreEdgesOf}
use Rattle.ck_numbering.proofs.links.edges_of.Given as goal

abbrev pub invariant-edges : goal.invariant-edges
invariant-edges l =
    AreEdgesOf l.first (map plain_draft l.drafts) (map plain_edge (take l.edge-index l.edges)) l.made.items
