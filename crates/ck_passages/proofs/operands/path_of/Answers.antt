use Rattle.std.proofs.Common.{ap, sym, ◌∙◌, arith}
use Rattle.ck_passages.specs.Operands.{value_of}
use Rattle.ck_passages.proofs.Rows.{chain_value-path_last, row_value-path}
use Rattle.ck_passages.proofs.operands.path_of.Goals as goal

pub returns-in_ok-below-in-Chain-2 : goal.returns-in_ok-below-in-Chain-2
returns-in_ok-below-in-Chain-2 c = λ l.
    c.in_ok-below-in-Chain-2.ensures
    ∙ sym
    (ap (λ o. (value_of l o).path) c.in-Chain.is
    ∙ chain_value-path_last l c.in-Chain.path.now c.in-Chain.first c.in-Chain.links.now _ (let h =
    c.if-operators-eq0.false in omega arith))

pub returns-in_ok-below-in-Row : goal.returns-in_ok-below-in-Row
returns-in_ok-below-in-Row c = λ l.
    c.in_ok-below-in-Row.ensures
    ∙ sym
    (ap (λ o. (value_of l o).path) c.in-Row.is
    ∙ row_value-path l c.in-Row.path.now c.in-Row.primary c.in-Row.steps.now)
