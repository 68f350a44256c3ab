use Rattle.std.proofs.Common.{◌≡◌, subst}
use Rattle.std.proofs.lemmas.Result.{IfOk-weaker}
use Rattle.ck_base.specs.declared.refusals.Unsupported.TheVariants.{U7}
use Rattle.ck_cli.specs.Placed.{IsRefusalText}
use Rattle.ck_cli.specs.Reading.{IsReading}
use Rattle.ck_cli.specs.declared.statuses.Status.TheVariants.{Refused}
use Rattle.ck_cli.specs.Verdict.{IsVerdict}
use Rattle.ck_cli.specs.Walked.{IsWalked}
use Rattle.ck_cli.proofs.ReadingLemmas.{form_read, stray_read}
use Rattle.ck_cli.proofs.VerdictLemmas.{spans-inside, stray-inside, main-inside, calls-inside, walked_verdict}
use Rattle.ck_cli.proofs.VerdictLemmas.{stray_verdict}
use Rattle.ck_cli.proofs.answers.verdict_on_tokens.Goals as goal

pub read-requires-clause-within : goal.read-requires-clause-within
read-requires-clause-within c = spans-inside c.args.source.now.bytes.now c.args.tokens.now c.requires.of_source

pub verdict_on_form-requires-clause-entry : goal.verdict_on_form-requires-clause-entry
verdict_on_form-requires-clause-entry c =
    let bytes = c.args.source.now.bytes.now in
    let form = c.in-Form.form in
    let is = form_read bytes c.args.tokens.now form (subst (IsReading bytes c.args.tokens.now) c.in-Form.is
    c.in_ok-form.ensures) in
    main-inside bytes c.args.tokens.now form.main form.calls.items c.requires.of_source is

pub verdict_on_form-requires-clause-calls : goal.verdict_on_form-requires-clause-calls
verdict_on_form-requires-clause-calls c =
    let bytes = c.args.source.now.bytes.now in
    let form = c.in-Form.form in
    let is = form_read bytes c.args.tokens.now form (subst (IsReading bytes c.args.tokens.now) c.in-Form.is
    c.in_ok-form.ensures) in
    calls-inside bytes c.args.tokens.now form.main form.calls.items c.requires.of_source is

pub refused_at-requires-clause-within : goal.refused_at-requires-clause-within
refused_at-requires-clause-within c =
    let bytes = c.args.source.now.bytes.now in
    stray-inside bytes c.args.tokens.now c.in-Stray.offset c.requires.of_source
    (stray_read bytes c.args.tokens.now c.in-Stray.offset (subst (IsReading bytes c.args.tokens.now) c.in-Stray.is
    c.in_ok-form.ensures))

pub returns-in-Form : goal.returns-in-Form
returns-in-Form c =
    let bytes = c.args.source.now.bytes.now in
    let form = c.in-Form.form in
    let is = form_read bytes c.args.tokens.now form (subst (IsReading bytes c.args.tokens.now) c.in-Form.is
    c.in_ok-form.ensures) in
    IfOk-weaker c.verdict_on_form.result (λ a. IsWalked bytes form.main form.calls.items a.status a.text.items)
    (λ a. IsVerdict bytes a.status a.text.items)
    (λ a. walked_verdict bytes c.args.tokens.now form.main form.calls.items a.status a.text.items
    c.requires.of_source is) c.verdict_on_form.ensures

pub returns-in-Stray : goal.returns-in-Stray
returns-in-Stray c =
    let bytes = c.args.source.now.bytes.now in
    let offset = c.in-Stray.offset in
    let is = stray_read bytes c.args.tokens.now offset (subst (IsReading bytes c.args.tokens.now) c.in-Stray.is
    c.in_ok-form.ensures) in
    IfOk-weaker c.refused_at.result (λ a. (a.status ≡ Refused) × IsRefusalText bytes U7 offset a.text.items)
    (λ a. IsVerdict bytes a.status a.text.items)
    (λ a refused. stray_verdict bytes c.args.tokens.now offset a.status a.text.items c.requires.of_source is
    refused.0 refused.1) c.refused_at.ensures
