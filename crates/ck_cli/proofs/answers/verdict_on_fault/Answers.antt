use Rattle.std.proofs.Common.{◌≡◌}
use Rattle.std.proofs.lemmas.Result.{IfOk-weaker}
use Rattle.ck_cli.specs.Placed.{IsRefusalText}
use Rattle.ck_cli.specs.declared.statuses.Status.TheVariants.{Refused}
use Rattle.ck_cli.specs.Verdict.{IsVerdict}
use Rattle.ck_cli.proofs.VerdictLemmas.{faulty_verdict}
use Rattle.ck_cli.proofs.answers.verdict_on_fault.Goals as goal

pub returns : goal.returns
returns c =
    let bytes = c.args.source.now.bytes.now in
    let refusal = c.args.refusal in
    let span = c.in-At.span in
    IfOk-weaker c.refused_at.result (λ a. (a.status ≡ Refused) × IsRefusalText bytes refusal.kind span.start
    a.text.items) (λ a. IsVerdict bytes a.status a.text.items)
    (λ a refused. faulty_verdict bytes refusal span a.status a.text.items c.requires.first c.in-At.is refused.0
    refused.1) c.refused_at.ensures
