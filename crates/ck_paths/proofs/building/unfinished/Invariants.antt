use Rattle.std.proofs.Common.{ℕ, true, map, reverse}
use Rattle.ck_segments.specs.Plain.{segment_of}
use Rattle.ck_paths.specs.Citing.{Cites, IsListed}
use Rattle.ck_paths.specs.Tracing.{IsEntryAt, AreOpen}
use Rattle.ck_paths.proofs.building.unfinished.Given as goal

-- the segments so far, the other way round, lead from the entry to the place
abbrev pub invariant-callers : goal.invariant-callers
invariant-callers l = record {
  entered : IsEntryAt l.graph l.found.places.items l.entry;
  cited : (x : ℕ) → Cites l.found.places.items true l.entry x → IsListed l.exits x;
  going_on : AreOpen l.graph l.found.places.items l.exits l.entry (map segment_of (reverse l.list.items)) l.number;
}

abbrev pub decreases-callers : goal.decreases-callers
decreases-callers l = l.entry
