use Rattle.std.proofs.Common.{◌<◌, take, sym}
use Rattle.std.proofs.lemmas.List.{take_all}
use Rattle.std.proofs.lemmas.List.Elements.{All-more, All-same}
use Rattle.ck_graph.specs.Flow.{flow_of, function_count}
use Rattle.ck_graph.proofs.checking.targets_are_functions.Goals as goal

pub loop-target-preserved : goal.loop-target-preserved
loop-target-preserved c =
    All-more (λ target. target.0 < function_count (flow_of c.args.parts.now)) c.args.targets.now
    c.loop-target.target-index (record { 0 = 0 }) c.loop-target-test.true c.loop-target.invariant
    (c.if-not-is_function.ensures)

pub returns : goal.returns
returns c =
    All-same (λ target. target.0 < function_count (flow_of c.args.parts.now)) c.args.targets.now
    (take c.loop-target.target-index c.args.targets.now) (sym
    (take_all c.loop-target.target-index c.args.targets.now c.loop-target-test.false)) c.loop-target.invariant
