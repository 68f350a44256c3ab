use Rattle.std.specs.Prelude.{map}
use Rattle.ck_graph.specs.Flow.{flow_of}
use Rattle.ck_numbering.specs.Numbered.{IsBuilt, plain_drafts}
use Rattle.ck_numbering.proofs.functions.graph_of.Given as goal

abbrev pub invariant-functions : goal.invariant-functions
invariant-functions l = IsBuilt (map plain_drafts l.yielded) (flow_of l.parts)
