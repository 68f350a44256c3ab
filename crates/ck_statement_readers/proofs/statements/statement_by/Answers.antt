use Rattle.ck_statement_readers.proofs.statements.statement_by.Goals as goal

pub returns-in-Block : goal.returns-in-Block
returns-in-Block g c e d s es ds ss begins = rw c.in-Block.is (c.block.ensures e d s ds ss)

pub returns-in-If : goal.returns-in-If
returns-in-If g c e d s es ds ss begins = rw c.in-If.is (c.if_statement.ensures e d s es ss)

pub returns-in-Switch : goal.returns-in-Switch
returns-in-Switch g c e d s es ds ss begins = rw c.in-Switch.is (c.switch.ensures e d s es ss)

pub returns-in-While : goal.returns-in-While
returns-in-While g c e d s es ds ss begins = rw c.in-While.is (c.while_loop.ensures e d s es ss)

pub returns-in-Do : goal.returns-in-Do
returns-in-Do g c e d s es ds ss begins = rw c.in-Do.is (c.do_loop.ensures e d s es ss)

pub returns-in-For : goal.returns-in-For
returns-in-For g c e d s es ds ss begins = rw c.in-For.is (c.for_loop.ensures e d s es ds ss)

pub returns-in-Case : goal.returns-in-Case
returns-in-Case g c e d s es ds ss begins = rw c.in-Case.is (c.case_label.ensures e d s es ss)

pub returns-in-Default : goal.returns-in-Default
returns-in-Default g c e d s es ds ss begins = rw c.in-Default.is (c.default_label.ensures e d s ss)

pub returns-in-Goto : goal.returns-in-Goto
returns-in-Goto g c e d s es ds ss begins = rw c.in-Goto.is (c.goto.ensures e d s)

pub returns-in-Jump : goal.returns-in-Jump
returns-in-Jump g c e d s es ds ss begins = rw c.in-Jump.is (c.jump.ensures e d s)

pub returns-in-Return : goal.returns-in-Return
returns-in-Return g c e d s es ds ss begins = rw c.in-Return.is (c.return_statement.ensures e d s es)
