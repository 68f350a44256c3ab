use Rattle.std.proofs.Common.{add-one}
use Rattle.ck_grammar.specs.Trees.{NoOperands}
use Rattle.ck_readers.proofs.Readings.{chain_read}
use Rattle.ck_readers.specs.SourceView.{words}
use Rattle.ck_readers.proofs.levels.chain.Goals as goal

pub returns : goal.returns
returns g c inner reads =
    chain_read (words c.args.source.now) g.T.Building.expr (λ row. g.T.Building.operands row NoOperands)
    (inner c.args.tighter) c.args.tighter _ _ _ _ c.in_ok-row.row _ _ (add-one c.args.tighter)
    (c.in_ok-row.ensures inner reads) c.in_ok-chained.ensures
