use Rattle.std.proofs.Common.{◌+◌}
use Rattle.ck_graph.specs.Summary.{HasRoots}
use Rattle.ck_summary.specs.Passing.{HasPair, AllDerived, IsClosedBut}
use Rattle.ck_summary.specs.Growth.{work, IsWorkFor, table_room}
use Rattle.ck_summary.proofs.solving.fill.Given as goal

-- the table has the roots, and derived pairs alone, and is closed but for what listed points have
abbrev pub invariant-looks : goal.invariant-looks
invariant-looks l = record {
  derived : AllDerived l.graph l.roots l.table;
  entered : HasRoots l.graph l.roots (HasPair l.table);
  closed : IsClosedBut l.graph l.listed l.table;
  work : IsWorkFor l.graph (work l.table l.listed);
}

abbrev pub decreases-looks : goal.decreases-looks
decreases-looks l = table_room l.table + l.listed.count
