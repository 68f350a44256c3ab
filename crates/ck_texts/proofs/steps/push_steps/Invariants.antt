use Rattle.std.proofs.Common.{◌≡◌, ◌<◌, ◌++◌, take}
use Rattle.ck_graph.specs.Flow.{point_count}
use Rattle.ck_texts.specs.Printing.{place_by}
use Rattle.ck_texts.specs.Report.{step_lines}
use Rattle.ck_texts.specs.Views.{names_of}
use Rattle.ck_texts.proofs.SegmentLemmas.{after_steps}
use Rattle.ck_texts.proofs.steps.push_steps.Given as goal

abbrev pub invariant-loop-step : goal.invariant-loop-step
invariant-loop-step l = record {
  there : l.point.0 < point_count l.graph;
  point : l.point.0 ≡ after_steps l.graph l.initial.point.0 (take l.step-index l.steps);
  lines : l.text.items ≡ l.initial.text.items ++ step_lines l.graph (names_of l.names)
      (place_by l.names.maps.items) l.initial.point.0 (take l.step-index l.steps);
}
