use Rattle.std.proofs.Common.{◌-◌, length}
use Rattle.ck_lexer.specs.Mapping.{IsMapped}
use Rattle.ck_lexer.proofs.places.place_map.Given as goal

abbrev pub invariant-loop-at : goal.invariant-loop-at
invariant-loop-at l = IsMapped l.name l.bytes l.map l.on l.at

abbrev pub decreases-loop-at : goal.decreases-loop-at
decreases-loop-at l = length l.bytes - l.at
