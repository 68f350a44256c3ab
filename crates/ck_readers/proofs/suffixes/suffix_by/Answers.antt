use Rattle.std.proofs.Common.{sym, ◌∙◌}
use Rattle.ck_readers.proofs.Loops.{step_same}
use Rattle.ck_readers.proofs.Readings.{call_is}
use Rattle.ck_readers.specs.SourceView.{words}
use Rattle.ck_readers.proofs.suffixes.suffix_by.Goals as goal

pub returns-then-begins_operand : goal.returns-then-begins_operand
returns-then-begins_operand g c inner reads =
    rw c.in-Parenthesis.is
    (step_same _ _ _ _ _ _ _
    (λ go. call_is (words c.args.source.now) inner go c.args.token _
    (sym c.begins_operand.ensures ∙ c.if-begins_operand.true))
    (c.call.ensures inner reads))

pub returns-in-Point : goal.returns-in-Point
returns-in-Point g c inner reads = rw c.in-Point.is (c.member_access.ensures inner)
