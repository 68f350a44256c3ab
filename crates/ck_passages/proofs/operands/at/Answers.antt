use Rattle.ck_passages.proofs.OperandLists.{AllFit-get, depth-get, take-next}
use Rattle.ck_passages.proofs.operands.at.Goals as goal

pub returns-clause-fits : goal.returns-clause-fits
returns-clause-fits c =
    AllFit-get c.args.program.now.linked c.args.sequence.now c.args.number _ c.requires.within
    c.index-sequence-number.is c.requires.fit

pub returns-clause-depth : goal.returns-clause-depth
returns-clause-depth c = depth-get c.args.sequence.now c.args.number _ c.requires.within c.index-sequence-number.is

pub returns-clause-row : goal.returns-clause-row
returns-clause-row c = take-next c.args.sequence.now c.args.number _ c.requires.within c.index-sequence-number.is
