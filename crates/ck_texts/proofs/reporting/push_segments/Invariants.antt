use Rattle.std.proofs.Common.{◌≡◌, ◌++◌, length, take}
use Rattle.std.specs.Prelude.{map}
use Rattle.ck_segments.specs.Plain.{segment_of}
use Rattle.ck_texts.specs.Lines.{numbered}
use Rattle.ck_texts.specs.Printing.{place_by}
use Rattle.ck_texts.specs.Report.{segment_text}
use Rattle.ck_texts.specs.Views.{names_of}
use Rattle.ck_texts.proofs.reporting.push_segments.Given as goal

abbrev pub invariant-loop-index : goal.invariant-loop-index
invariant-loop-index l =
    l.text.items ≡ l.initial.text.items ++ numbered (segment_text l.graph (names_of l.names)
    (place_by l.names.maps.items) (length l.segments)) 1 (map segment_of (take l.index l.segments))
