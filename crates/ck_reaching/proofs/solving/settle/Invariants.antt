use Rattle.std.proofs.Common.{ℕ}
use Rattle.ck_reaching.specs.Rules.{width}
use Rattle.ck_reaching.specs.Growth.{IsSized, Keeps}
use Rattle.ck_reaching.specs.Known.{work_left}
use Rattle.ck_reaching.specs.Work.{HasEdge}
use Rattle.ck_reaching.specs.Solving.{IsWorkOf, AreConnected, IsClosedBut}
use Rattle.ck_reaching.proofs.solving.settle.Given as goal

-- all was passed on but what has reached listed cells
abbrev pub invariant-looks : goal.invariant-looks
invariant-looks l = record {
  work : IsWorkOf l.rules l.work;
  kept : Keeps l.initial.work.known.reached l.work.known.reached;
  edges : (from to : ℕ) → HasEdge l.initial.work.edges from to → HasEdge l.work.edges from to;
  sized : IsSized l.rules.cells (width l.rules) l.seen;
  connected : AreConnected l.rules l.seen l.work.edges;
  closed : IsClosedBut l.rules l.work;
}

abbrev pub decreases-looks : goal.decreases-looks
decreases-looks l = work_left l.work.known
