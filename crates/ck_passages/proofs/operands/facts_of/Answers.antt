use Rattle.std.proofs.Common.{ap, sym, ◌∙◌}
use Rattle.ck_passages.specs.Operands.{value_of}
use Rattle.ck_passages.proofs.Rows.{chain_value-facts, row_value-facts}
use Rattle.ck_tables.specs.Program.{readings}
use Rattle.ck_tables.specs.Readings.{plain_facts}
use Rattle.ck_passages.proofs.operands.facts_of.Goals as goal

pub returns-in-Some : goal.returns-in-Some
returns-in-Some c =
    let l = c.args.program.now.linked in
    sym
    (ap (λ o. (value_of l o).facts) c.in-Chain.is
    ∙ chain_value-facts l c.in-Chain.path.now c.in-Chain.first c.in-Chain.links.now _ _ c.in-Some.ensures.cases.0)

pub returns-in-Some-split_last : goal.returns-in-Some-split_last
returns-in-Some-split_last c =
    let l = c.args.program.now.linked in
    ap (plain_facts (readings l)) c.facts-in-Some-split_last.ensures
    ∙ sym
    (ap (λ o. (value_of l o).facts) c.in-Row.is
    ∙ row_value-facts l c.in-Row.path.now c.in-Row.primary c.in-Row.steps.now _ _
    c.in-Some-split_last.ensures.cases.0)
