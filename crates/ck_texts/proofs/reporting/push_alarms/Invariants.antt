use Rattle.std.proofs.Common.{◌≡◌, ◌++◌, take}
use Rattle.std.specs.Prelude.{map}
use Rattle.ck_texts.specs.Lines.{numbered}
use Rattle.ck_texts.specs.Printing.{place_by}
use Rattle.ck_texts.specs.Report.{alarm_text}
use Rattle.ck_texts.specs.Views.{names_of, path_of}
use Rattle.ck_texts.proofs.reporting.push_alarms.Given as goal

abbrev pub invariant-loop-index : goal.invariant-loop-index
invariant-loop-index l =
    l.text.items ≡ l.initial.text.items ++ numbered (alarm_text l.graph l.roots.list.items (names_of l.names)
    (place_by l.names.maps.items)) 1 (map path_of (take l.index l.alarms))
