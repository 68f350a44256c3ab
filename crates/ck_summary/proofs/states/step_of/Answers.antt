use Rattle.std.proofs.Common.{◌≡◌, ℕ, ◌+◌, sym, ◌∙◌, subst}
use Rattle.ck_base.specs.declared.states.State.{State}
use Rattle.ck_base.specs.Act.{state_code}
use Rattle.ck_summary.proofs.StateLemmas.{StepSoFar, StepSoFar-leads, StepSoFar-stays, IsOneMore}
use Rattle.ck_summary.proofs.states.step_of.Goals as goal
use Rattle.ck_summary.proofs.states.step_of.Goals.{in-Next, in_default}

pub states-preserved : goal.states-preserved
states-preserved c =
    let op = c.args.op in
    let state : State = c.state_of.result in
    let number : ℕ = c.states.number in
    let here : state_code state ≡ number = c.state_of.ensures in
    let before : StepSoFar op c.states.step (state_code state) =
    subst (StepSoFar op c.states.step) (sym here) c.states.invariant in
    elim c.match-act.branch [
      | in-Next w ↦
          let next : State = w.in-Next.next in
          let to : w.code.result ≡ state_code next = w.code.ensures.code in
          let one : IsOneMore c.states.step w.add_pair.new.rows number w.code.result =
          record {
            there = w.add_pair.ensures.there;
            kept = w.add_pair.ensures.kept;
            only =
                w.add_pair.ensures.only;
          } in
          let more : IsOneMore c.states.step w.add_pair.new.rows (state_code state) (state_code next) =
          subst (λ i. IsOneMore c.states.step w.add_pair.new.rows i (state_code next)) (sym here)
          (subst (IsOneMore c.states.step w.add_pair.new.rows number) to one) in
          let done : StepSoFar op w.add_pair.new.rows (state_code state + 1) =
          StepSoFar-leads op c.states.step w.add_pair.new.rows state next (sym w.in-Next.ensures) before more in
          subst (λ step. StepSoFar op step (number + 1)) (sym w.step-is)
          (subst (λ n. StepSoFar op w.add_pair.new.rows (n + 1)) here done)
      | in_default w ↦
          let done : StepSoFar op c.states.step (state_code state + 1) =
          StepSoFar-stays op c.states.step state (λ next e. w.in_default.not-Next next (c.act.ensures ∙ e)) before
          in
          subst (λ step. StepSoFar op step (number + 1)) (sym w.step-is)
          (subst (λ n. StepSoFar op c.states.step (n + 1)) here done)
    ]
