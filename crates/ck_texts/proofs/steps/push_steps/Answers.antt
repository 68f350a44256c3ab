use Rattle.ck_texts.specs.Printing.{place_by}
use Rattle.ck_texts.specs.Views.{names_of}
use Rattle.ck_texts.proofs.SegmentLemmas.{after_steps-more, step_lines-more}
use Rattle.ck_texts.proofs.steps.push_steps.Goals as goal

pub loop-step-preserved : goal.loop-step-preserved
loop-step-preserved c = record {
  there = c.after_step-point.ensures.there;
  point = after_steps-more c.args.graph.now c.args.first.0 c.loop-step.point.0 c.after_step-point.result.0
      c.args.steps.now c.loop-step.step-index _ c.loop-step-test.true c.loop-step.invariant.point
      c.after_step-point.ensures.point;
  lines = step_lines-more c.args.graph.now (names_of c.args.names.now) (place_by c.args.names.now.maps.items)
      c.args.first.0 c.loop-step.point.0 c.args.steps.now c.loop-step.step-index _ c.args.text.now.items
      c.loop-step.text.items c.push_step.new.text.items c.loop-step-test.true c.loop-step.invariant.point
      c.loop-step.invariant.lines c.in_ok-push_step.ensures;
}
