use Rattle.std.proofs.Common.{◌≡◌, drop}
use Rattle.ck_lexer.specs.Scanning.{are_flags, flags_from}
use Rattle.ck_lexer.proofs.markers.are_flags.Given as goal

abbrev pub invariant-loop-byte : goal.invariant-loop-byte
invariant-loop-byte l = flags_from l.blanks (drop l.byte-index l.text) ≡ are_flags l.text
