use Rattle.ck_lexer.proofs.LinesKept.{Follows}
use Rattle.ck_lexer.proofs.places.push_lines.Given as goal

abbrev pub invariant-loop-feed : goal.invariant-loop-feed
invariant-loop-feed l = Follows l.bytes l.initial.lines.items l.fn.on l.at l.lines.items l.line l.feed
