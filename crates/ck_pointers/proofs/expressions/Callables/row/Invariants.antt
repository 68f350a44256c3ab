use Rattle.std.proofs.Common.{drop}
use Rattle.ck_pointers.specs.ExpressionSources.{Leads, origin_of_row}
use Rattle.ck_pointers.proofs.expressions.Callables.row.Given as goal

-- the suffixes that are left lead to the whole row's origin
abbrev pub invariant-steps : goal.invariant-steps
invariant-steps l =
    Leads l.self l.sources l.value l.before (drop l.step-index l.steps) (origin_of_row l.self l.fn.primary.0 l.steps)
    l.initial.rules l.rules
