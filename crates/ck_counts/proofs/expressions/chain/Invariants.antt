use Rattle.std.proofs.Common.{drop}
use Rattle.ck_tables.specs.ExprTable.{links_of}
use Rattle.ck_tables.specs.Program.{readings}
use Rattle.ck_counts.specs.Extents.{extent_of, extent_after_links}
use Rattle.ck_counts.specs.Weights.{Leads, tree}
use Rattle.ck_counts.proofs.expressions.chain.Given as goal

abbrev pub invariant-links : goal.invariant-links
invariant-links l =
    let t = l.program.linked in
    Leads extent_after_links l.value (links_of (readings t) (tree t) (drop l.next-index l.links))
    (extent_after_links (extent_of (tree t l.fn.first.0)) (links_of (readings t) (tree t) l.links))
