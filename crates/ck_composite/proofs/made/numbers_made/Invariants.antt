use Rattle.std.proofs.Common.{length, ◌-◌}
use Rattle.ck_composite.specs.Made.{AreMade, IsGrown}
use Rattle.ck_composite.proofs.made.numbers_made.Given as goal

abbrev pub invariant-making : goal.invariant-making
invariant-making l = record {
  grown : IsGrown l.fn.types l.types;
  made : AreMade l.fn.types l.types l.pairs.keys l.made.items;
}

abbrev pub decreases-making : goal.decreases-making
decreases-making l = length l.pairs.keys - length l.made.items
