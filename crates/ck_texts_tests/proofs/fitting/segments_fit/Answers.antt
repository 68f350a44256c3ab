use Rattle.std.proofs.Common.{take, sym}
use Rattle.std.proofs.lemmas.List.{take_all}
use Rattle.std.proofs.lemmas.List.Elements.{All-map, All-same}
use Rattle.ck_segments.specs.Plain.{segment_of}
use Rattle.ck_segments.specs.declared.segments.Segment.{Segment}
use Rattle.ck_texts.specs.Placed.{IsSegmentOf}
use Rattle.ck_texts_tests.proofs.fitting.segments_fit.Goals as goal

pub returns : goal.returns
returns c =
    let segments = c.args.segments.now in
    All-map (IsSegmentOf c.args.graph.now) segment_of segments
    (All-same (λ (s : Segment). IsSegmentOf c.args.graph.now (segment_of s)) segments
    (take c.loop-segment.segment-index segments)
    (sym (take_all c.loop-segment.segment-index segments c.loop-segment-test.false)) c.loop-segment.invariant)
