use Rattle.std.proofs.Common.{arith}
use Rattle.ck_graph.specs.Faults.{at_function}
use Rattle.ck_graph.proofs.checking.functions_are_sound.Goals as goal

pub returns-then-not-is_function_sound : goal.returns-then-not-is_function_sound
returns-then-not-is_function_sound c =
    at_function c.loop-number.number (omega (arith, c.args.parts.now.functions.ok.0))
    (c.if-not-is_function_sound.ensures)
