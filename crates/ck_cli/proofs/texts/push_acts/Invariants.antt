use Rattle.std.proofs.Common.{take}
use Rattle.ck_cli.specs.Written.{AreActsWritten}
use Rattle.ck_cli.proofs.texts.push_acts.Given as goal

abbrev pub invariant-loop-made : goal.invariant-loop-made
invariant-loop-made l = AreActsWritten l.source.bytes.now (take l.made-index l.calls) l.initial.text.items l.text.items
