use Rattle.std.proofs.Common.{sym, ◌∙◌}
use Rattle.std.proofs.lemmas.Result.{IfOk-weaker}
use Rattle.ck_slots.specs.Origins.{ResultOf, called_type}
use Rattle.ck_tables.specs.Program.{readings}
use Rattle.ck_tables.specs.Readings.{plain_facts}
use Rattle.ck_pointers.specs.ExpressionSources.{IsMadeOf, tables}
use Rattle.ck_pointers.specs.Sources.{IsResult}
use Rattle.ck_pointers.proofs.MadeLemmas.{no_outcome, outcome_made}
use Rattle.ck_pointers.proofs.expressions.Callables.outcome.Goals as goal

pub returns-in-None : goal.returns-in-None
returns-in-None c =
    no_outcome c.args.self.now c.args.before c.args.value c.args.rules.now (sym c.kind.ensures ∙ c.in-None.is)

pub returns-in-Some : goal.returns-in-Some
returns-in-Some c =
    let s = c.args.self.now in
    let new = c.result_of.new.rules in
    IfOk-weaker c.result_of.result (λ source. IsResult c.in-Some.kind c.args.value source c.args.rules.now new)
    (λ source. IsMadeOf s (ResultOf (called_type (plain_facts (readings (tables s)) c.args.before))) c.args.value source
    c.args.rules.now new)
    (λ source is. outcome_made s c.args.before c.in-Some.kind c.args.value source c.args.rules.now new
    (sym c.kind.ensures ∙ c.in-Some.is) is) c.result_of.ensures
