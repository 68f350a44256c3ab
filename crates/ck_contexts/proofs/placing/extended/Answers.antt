use Rattle.ck_graph.specs.Flow.{flow_of}
use Rattle.ck_contexts.proofs.FilledPoints.{edges-few}
use Rattle.ck_contexts.proofs.NoFault.{no-fault}
use Rattle.ck_contexts.proofs.SoundExtension.{whole-sound}
use Rattle.ck_contexts.proofs.placing.extended.Goals as goal

pub checked-requires-clause-edges : goal.checked-requires-clause-edges
checked-requires-clause-edges c =
    let whole = c.in_ok-with_contexts.field-0 in
    edges-few whole
    (whole-sound c.args.calls (flow_of c.args.parts) (flow_of whole) c.args.contexts.now c.in_ok-with_contexts.ensures
    c.requires.sound c.requires.run c.requires.points c.requires.functions).small.edges

pub unreachable-requires : goal.unreachable-requires
unreachable-requires c =
    let whole = c.in_ok-with_contexts.field-0 in
    no-fault (flow_of whole)
    (whole-sound c.args.calls (flow_of c.args.parts) (flow_of whole) c.args.contexts.now c.in_ok-with_contexts.ensures
    c.requires.sound c.requires.run c.requires.points c.requires.functions) c.in-Err.ensures.fault
