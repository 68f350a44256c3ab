use Rattle.std.proofs.Common.{◌≡◌, ◌<◌, ℕ, Some, length, map, slice_get, take}
use Rattle.ck_segments.specs.Plain.{PlainSegment, segment_of}
use Rattle.ck_paths.specs.Tracing.{IsSegmentTo}
use Rattle.ck_paths.proofs.building.segments_to.Given as goal

-- a segment for each exit so far
abbrev pub invariant-exits : goal.invariant-exits
invariant-exits l = record {
  same : length (map segment_of l.list.items) ≡ l.s;
  each : (k x : ℕ) → k < l.s → slice_get l.exits k ≡ Some x →
      (segment : PlainSegment) × (slice_get (map segment_of l.list.items) k ≡ Some segment) × (entry : ℕ) ×
      IsSegmentTo l.graph l.found.places.items (take k l.exits) entry x segment;
}
