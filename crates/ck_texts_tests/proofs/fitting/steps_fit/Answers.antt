use Rattle.std.proofs.Common.{take, sym}
use Rattle.std.proofs.lemmas.List.{take_all}
use Rattle.std.proofs.lemmas.List.Elements.{All-more, All-same}
use Rattle.ck_segments.specs.declared.segments.Step.TheVariants.{Edge}
use Rattle.ck_texts.specs.Placed.{IsStepOf}
use Rattle.ck_texts_tests.proofs.fitting.steps_fit.Goals as goal

pub loop-step-preserved : goal.loop-step-preserved
loop-step-preserved c =
    All-more (IsStepOf c.args.graph.now) c.args.steps.now c.loop-step.step-index (Edge 0) c.loop-step-test.true
    c.loop-step.invariant (c.if-not-step_fits.ensures)

pub returns : goal.returns
returns c =
    All-same (IsStepOf c.args.graph.now) c.args.steps.now (take c.loop-step.step-index c.args.steps.now)
    (sym (take_all c.loop-step.step-index c.args.steps.now c.loop-step-test.false)) c.loop-step.invariant
