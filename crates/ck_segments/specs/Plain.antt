-- Segments as plain lists, each segment known by its number, which is its place in the list.
use Rattle.std.specs.Prelude.{ℕ, List, map}
use Rattle.ck_base.specs.declared.spans.FnId.{FnId}
use Rattle.ck_segments.specs.declared.segments.Step.{Step}
use Rattle.ck_segments.specs.declared.segments.Segment.{Segment}
use Rattle.ck_segments.specs.declared.segments.Segments.{Segments}

pub record PlainSegment : Type 0 where
  pub function : FnId
  pub steps : List Step

pub record PlainSegments : Type 0 where
  pub root : ℕ
  pub list : List PlainSegment

abbrev pub segment_of : Segment → PlainSegment
segment_of segment = record { function = segment.function; steps = segment.steps.items }

abbrev pub segments_of : Segments → PlainSegments
segments_of segments = record { root = segments.root; list = map segment_of segments.list.items }
