use Rattle.std.proofs.Common.{◌+◌, length, drop, ap, ◌∙◌, arith}
use Rattle.ck_graph.specs.Flow.{Flow, flow_of, point_count}
use Rattle.ck_contexts.specs.Extended.{extended}
use Rattle.ck_contexts.specs.Synthetic.{functions_of}
use Rattle.ck_contexts.proofs.Grown.{goes-on}
use Rattle.ck_contexts.proofs.StepLemmas.{functions-few}
use Rattle.ck_contexts.proofs.placing.with_contexts.Goals as goal

pub add_context-requires-clause-calls : goal.add_context-requires-clause-calls
add_context-requires-clause-calls c =
    (goes-on c.args.calls c.loop-context.number c.loop-context.context-index (flow_of c.args.parts)
    (flow_of c.loop-context.parts) c.args.contexts.now c.context-item.result c.loop-context-test.true c.context-item.is
    c.loop-context.invariant.same c.loop-context.invariant.few c.requires.points c.requires.functions).calls_fit

pub add_context-requires-clause-points : goal.add_context-requires-clause-points
add_context-requires-clause-points c =
    (goes-on c.args.calls c.loop-context.number c.loop-context.context-index (flow_of c.args.parts)
    (flow_of c.loop-context.parts) c.args.contexts.now c.context-item.result c.loop-context-test.true c.context-item.is
    c.loop-context.invariant.same c.loop-context.invariant.few c.requires.points c.requires.functions).points_fit

pub add_context-requires-clause-functions : goal.add_context-requires-clause-functions
add_context-requires-clause-functions c =
    (goes-on c.args.calls c.loop-context.number c.loop-context.context-index (flow_of c.args.parts)
    (flow_of c.loop-context.parts) c.args.contexts.now c.context-item.result c.loop-context-test.true c.context-item.is
    c.loop-context.invariant.same c.loop-context.invariant.few c.requires.points c.requires.functions).functions_fit

pub function_count-number-requires : goal.function_count-number-requires
function_count-number-requires c =
    let on =
    goes-on c.args.calls c.loop-context.number c.loop-context.context-index (flow_of c.args.parts)
    (flow_of c.loop-context.parts) c.args.contexts.now c.context-item.result c.loop-context-test.true c.context-item.is
    c.loop-context.invariant.same c.loop-context.invariant.few c.requires.points c.requires.functions in
    omega (arith, on.calls_fit, functions-few c.loop-context.number c.context-item.result)

pub overflow_add-number : goal.overflow_add-number
overflow_add-number c =
    let on =
    goes-on c.args.calls c.loop-context.number c.loop-context.context-index (flow_of c.args.parts)
    (flow_of c.loop-context.parts) c.args.contexts.now c.context-item.result c.loop-context-test.true c.context-item.is
    c.loop-context.invariant.same c.loop-context.invariant.few c.requires.points c.requires.functions in
    omega (
      arith,
      on.calls_fit,
      functions-few c.loop-context.number c.context-item.result,
      c.function_count-number.ensures,
    )

pub loop-context-preserved : goal.loop-context-preserved
loop-context-preserved c =
    let on =
    goes-on c.args.calls c.loop-context.number c.loop-context.context-index (flow_of c.args.parts)
    (flow_of c.loop-context.parts) c.args.contexts.now c.context-item.result c.loop-context-test.true c.context-item.is
    c.loop-context.invariant.same c.loop-context.invariant.few c.requires.points c.requires.functions in
    let rest = drop (c.loop-context.context-index + 1) c.args.contexts.now in
    let more = c.function_count-number.ensures in
    let made = c.in_ok-add_context.ensures in
    record {
      same =
          ap (λ n. extended (c.loop-context.number + n) (flow_of c.add_context.new.parts) rest) more
          ∙ (ap (λ flow. extended (c.loop-context.number + length (functions_of c.context-item.result)) flow rest) made
          ∙ on.same);
      few = omega (arith, on.few, more, ap (λ (flow : Flow). point_count flow) made);
    }
