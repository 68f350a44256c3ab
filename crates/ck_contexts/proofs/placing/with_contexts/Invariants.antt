use Rattle.std.proofs.Common.{◌≡◌, ◌≤◌, ◌+◌, drop}
use Rattle.ck_graph.specs.Flow.{flow_of, point_count}
use Rattle.ck_contexts.specs.Extended.{extended}
use Rattle.ck_contexts.proofs.placing.with_contexts.Given as goal

-- the rest of the contexts leads to the whole graph, and there are no more calls of contexts than points
abbrev pub invariant-loop-context : goal.invariant-loop-context
invariant-loop-context l = record {
  same :
      extended l.number (flow_of l.parts) (drop l.context-index l.contexts)
      ≡ extended l.calls (flow_of l.fn.parts) l.contexts;
  few : l.number ≤ l.calls + point_count (flow_of l.parts);
}
