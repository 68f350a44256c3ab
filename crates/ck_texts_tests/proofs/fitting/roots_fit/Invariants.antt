use Rattle.std.proofs.Common.{◌<◌, take}
use Rattle.std.specs.List.{All}
use Rattle.ck_graph.specs.declared.entries.Root.{Root}
use Rattle.ck_graph.specs.Flow.{function_count}
use Rattle.ck_texts_tests.proofs.fitting.roots_fit.Given as goal

abbrev pub invariant-loop-root : goal.invariant-loop-root
invariant-loop-root l =
    All (λ (root : Root). root.function.0 < function_count l.graph) (take l.root-index l.roots.list.items)
