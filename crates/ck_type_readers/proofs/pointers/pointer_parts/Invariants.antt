use Rattle.std.proofs.Common.{◌-◌, length, [], ◌++◌}
use Rattle.ck_readers.proofs.Loops.{SoFar}
use Rattle.ck_readers.specs.SourceView.{words}
use Rattle.ck_type_readers.specs.Steps.{pointer_step, pointer_loop}
use Rattle.ck_type_readers.proofs.pointers.pointer_parts.Given as goal

abbrev pub invariant-row : goal.invariant-row
invariant-row g l =
    SoFar [] (pointer_step (words l.source)) (pointer_loop (words l.source)) (◌++◌ (g.T.Building.tokens l.stars))
    l.source.tokens l.fn.at l.here (length l.source.tokens - l._step)
