use Rattle.ck_readers.proofs.unary.unary_by.Goals as goal

pub returns-in-Operator : goal.returns-in-Operator
returns-in-Operator g c inner ty reads types =
    rw c.in-Operator.is (c.unary_operator-in-Operator.ensures inner reads)

pub returns-in-Sizeof : goal.returns-in-Sizeof
returns-in-Sizeof g c inner ty reads types = rw c.in-Sizeof.is (c.sizeof.ensures inner ty reads types)
