use Rattle.std.proofs.Common.{length}
use Rattle.ck_segments.specs.Plain.{segment_of}
use Rattle.ck_texts.specs.Placed.{IsSegmentOf}
use Rattle.ck_texts.specs.Printing.{place_by}
use Rattle.ck_texts.specs.Report.{segment_text}
use Rattle.ck_texts.specs.Views.{names_of}
use Rattle.ck_texts.proofs.GraphLemmas.{All-view}
use Rattle.ck_texts.proofs.LineLemmas.{numbered-more}
use Rattle.ck_texts.proofs.reporting.push_segments.Goals as goal

pub push_segment-requires-clause-segment : goal.push_segment-requires-clause-segment
push_segment-requires-clause-segment c =
    All-view (IsSegmentOf c.args.graph.now) segment_of c.args.segments.now c.loop-index.index
    c.index-segments-index.result c.requires.segments c.loop-index-test.true c.index-segments-index.is

pub loop-index-preserved : goal.loop-index-preserved
loop-index-preserved c =
    numbered-more (segment_text c.args.graph.now (names_of c.args.names.now) (place_by c.args.names.now.maps.items)
    (length c.args.segments.now)) segment_of c.args.segments.now c.loop-index.index c.index-segments-index.result
    c.args.text.now.items c.loop-index.text.items c.push_segment.new.text.items c.loop-index-test.true
    c.index-segments-index.is c.loop-index.invariant c.in_ok-push_segment.ensures
