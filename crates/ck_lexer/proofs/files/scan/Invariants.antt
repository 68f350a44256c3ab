use Rattle.std.proofs.Common.{◌-◌, length}
use Rattle.ck_lexer.specs.Mapping.{IsMapped}
use Rattle.ck_lexer.specs.Scanning.{IsReadTo}
use Rattle.ck_lexer.proofs.files.scan.Given as goal

abbrev pub invariant-loop-at : goal.invariant-loop-at
invariant-loop-at l = record {
  mapped : IsMapped l.name l.bytes l.places l.on l.at;
  read : IsReadTo l.file l.bytes l.tokens.items l.fault l.at;
}

abbrev pub decreases-loop-at : goal.decreases-loop-at
decreases-loop-at l = length l.bytes - l.at
