use Rattle.std.proofs.Common.{length, ap, ◌∙◌, arith}
use Rattle.ck_contexts.specs.declared.contexts.Context.TheVariants.{Callback}
use Rattle.ck_contexts.specs.Synthetic.{steps}
use Rattle.ck_contexts.proofs.StepLemmas.{length-callback, length-locked_callback, length-timer}
use Rattle.ck_contexts.proofs.drawing.steps.Goals as goal

pub locked_callback-requires : goal.locked_callback-requires
locked_callback-requires c =
    let is = c.in-Callback.is ∙ ap (Callback c.in-Callback.functions) c.if-locked.true in
    omega (
      arith,
      c.requires,
      ap (λ x. length (steps c.args.number x)) is,
      ap length c.deref.ensures.value,
      length-locked_callback c.args.number c.in-Callback.functions.items,
    )

pub callback-requires : goal.callback-requires
callback-requires c =
    let is = c.in-Callback.is ∙ ap (Callback c.in-Callback.functions) c.if-locked.false in
    omega (
      arith,
      c.requires,
      ap (λ x. length (steps c.args.number x)) is,
      ap length c.deref-else-locked.ensures.value,
      length-callback c.args.number c.in-Callback.functions.items,
    )

pub timer-requires : goal.timer-requires
timer-requires c =
    omega (
      arith,
      c.requires,
      ap (λ x. length (steps c.args.number x)) c.in-Timer.is,
      ap length c.deref-in-Timer.ensures.value,
      length-timer c.args.number c.in-Timer.functions.items,
    )
