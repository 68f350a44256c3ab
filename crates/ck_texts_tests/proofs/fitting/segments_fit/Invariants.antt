use Rattle.std.proofs.Common.{take}
use Rattle.std.specs.List.{All}
use Rattle.ck_segments.specs.Plain.{segment_of}
use Rattle.ck_segments.specs.declared.segments.Segment.{Segment}
use Rattle.ck_texts.specs.Placed.{IsSegmentOf}
use Rattle.ck_texts_tests.proofs.fitting.segments_fit.Given as goal

abbrev pub invariant-loop-segment : goal.invariant-loop-segment
invariant-loop-segment l =
    All (λ (segment : Segment). IsSegmentOf l.graph (segment_of segment)) (take l.segment-index l.segments)
