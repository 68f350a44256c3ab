use Rattle.std.proofs.Common.{refl}
use Rattle.ck_call_rows.specs.Walks.{path_of}
use Rattle.ck_call_rows.proofs.Rows.{adds_act, adds_row}
use Rattle.ck_call_rows.proofs.walk.Walk.call.Goals as goal

pub returns-in-None : goal.returns-in-None
returns-in-None c =
    λ s site.
    adds_act c.args.self.now _ _ s (λ r used. c.in-None.ensures.tells r s used site.named) refl

pub returns-in_ok-push-in-Some : goal.returns-in_ok-push-in-Some
returns-in_ok-push-in-Some c =
    λ s site.
    adds_row c.args.self.now _ _ _ (path_of c.args.path.now) c.args.called s site refl c.in_ok-numbers-in-Some.ensures
    c.in_ok-step_number-in-Some.ensures refl refl (λ r used. c.in-Some.ensures.tells r s used site.named)
    c.in_ok-push-in-Some.ensures.rows
