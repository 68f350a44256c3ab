use Rattle.std.proofs.Common.{◌+◌, drop, sym, subst}
use Rattle.ck_tables.specs.ExprFacts.{HasFacts}
use Rattle.ck_pointers.specs.ExpressionSources.{Leads, calls_by_names, origin_of_row, rows_call_functions}
use Rattle.ck_pointers.proofs.MadeLemmas.{known_made}
use Rattle.ck_pointers.proofs.RowLemmas.{call_next, holds_at, leads_first, leads_next}
use Rattle.ck_pointers.proofs.expressions.Callables.row.Goals as goal

pub steps-init : goal.steps-init
steps-init c =
    let s = c.args.self.now in
    leads_first s c.args.sources.now c.known-value.result c.facts-before.result c.args.primary.0 c.args.steps.now
    c.args.rules.now
    (known_made s c.args.sources.now c.args.primary.0 c.known-value.result c.args.rules.now c.requires.sources
    c.known-value.ensures)
    (subst (λ l. HasFacts l.exprs c.args.primary.0 c.facts-before.result) c.linked.ensures c.facts-before.ensures)

pub suffix-requires-clause-called : goal.suffix-requires-clause-called
suffix-requires-clause-called c =
    let s = c.args.self.now in
    holds_at (calls_by_names s) (rows_call_functions s) (call_next s) c.args.steps.now c.steps.step-index
    c.step-item.result c.requires.called c.steps-test.true c.step-item.is

pub steps-preserved : goal.steps-preserved
steps-preserved c =
    let s = c.args.self.now in
    subst (λ f. Leads s c.args.sources.now c.in_ok-value.value f (drop (c.steps.step-index + 1) c.args.steps.now)
    (origin_of_row s c.args.primary.0 c.args.steps.now) c.args.rules.now c.suffix.new.rules)
    (sym c.facts-before-in-steps.ensures)
    (leads_next s c.args.sources.now c.steps.value c.in_ok-value.value c.steps.before c.args.steps.now
    c.steps.step-index c.step-item.result (origin_of_row s c.args.primary.0 c.args.steps.now) c.args.rules.now
    c.steps.rules c.suffix.new.rules c.steps-test.true c.step-item.is c.steps.invariant c.in_ok-value.ensures)
