use Rattle.std.proofs.Common.{take}
use Rattle.std.specs.List.{All}
use Rattle.ck_texts.specs.Placed.{IsStepOf}
use Rattle.ck_texts_tests.proofs.fitting.steps_fit.Given as goal

abbrev pub invariant-loop-step : goal.invariant-loop-step
invariant-loop-step l = All (IsStepOf l.graph) (take l.step-index l.steps)
