use Rattle.std.proofs.Common.{◌<◌, length}
use Rattle.ck_paths.specs.Citing.{WalkedBack}
use Rattle.ck_paths.proofs.exits.add_cited.Given as goal

abbrev pub invariant-back : goal.invariant-back
invariant-back l = record {
  there : l.at < length l.found.places.items;
  walked : WalkedBack l.found.places.items l.on l.number l.at l.initial.pending l.pending;
}

abbrev pub decreases-back : goal.decreases-back
decreases-back l = l.at
