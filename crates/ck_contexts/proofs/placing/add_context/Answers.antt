use Rattle.std.proofs.Common.{◌+◌, ◌≤◌, length, ap, ◌∙◌, arith}
use Rattle.std.proofs.lemmas.List.Elements.{All-same}
use Rattle.ck_contexts.specs.declared.placing.Placing.{Placing}
use Rattle.ck_contexts.specs.Synthetic.{steps}
use Rattle.ck_contexts.specs.Within.{LeadsWithin}
use Rattle.ck_contexts.proofs.InnerSteps.{steps-lead}
use Rattle.ck_contexts.proofs.placing.add_context.Goals as goal

pub add_points-requires-clause-within : goal.add_points-requires-clause-within
add_points-requires-clause-within c =
    let at : Placing = record {
      function = record { 0 = c.len-2.result };
      first = c.len-first.result;
      exit = c.len-first.result + c.len.result;
      site = c.site.result;
    } in
    let made = c.in_ok-steps.ensures in
    let fits : at.first + length (steps c.args.number c.args.context.now) ≤ at.exit =
    omega (arith, c.len.ensures, c.in_ok-steps.steps.ok.0, ap length made) in
    All-same (LeadsWithin at) c.deref.result.now (steps c.args.number c.args.context.now)
    (c.deref.ensures.value ∙ made) (steps-lead at c.args.number c.args.context.now fits)
