use Rattle.std.proofs.Common.{ℕ, ◌<◌, false, length, reverse}
use Rattle.ck_paths.specs.Citing.{Cites, IsListed}
use Rattle.ck_paths.specs.Tracing.{IsTraced}
use Rattle.ck_paths.proofs.tracing.steps_to.Given as goal

abbrev pub invariant-back : goal.invariant-back
invariant-back l = record {
  there : l.at < length l.found.places.items;
  cited : (x : ℕ) → Cites l.found.places.items false l.at x → IsListed l.exits x;
  traced : IsTraced l.graph l.found.places.items l.exits l.at l.number (reverse l.steps.items);
}

abbrev pub decreases-back : goal.decreases-back
decreases-back l = l.at
