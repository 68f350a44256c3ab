use Rattle.ck_readers.specs.SourceView.{words}
use Rattle.ck_statement_readers.proofs.LoopParts.{block_read, unclosed}
use Rattle.ck_statement_readers.proofs.blocks.block.Goals as goal

pub returns-in_default : goal.returns-in_default
returns-in_default g c inner d s declared stated =
    unclosed (words c.args.source.now) inner d s c.args.opening c.args.source.now.tokens c.args.at
    g.T.BuildingStatements.block_items c.in_ok-found.found (c.in_ok-found.ensures d s declared stated)
    c.in_default.ensures

pub returns : goal.returns
returns g c inner d s declared stated =
    block_read (words c.args.source.now) inner d s c.args.opening c.args.source.now.tokens c.args.at
    g.T.BuildingStatements.block_items c.in_ok-found.found (c.in_ok-found.ensures d s declared stated)
    g.T.BuildingStatements.statement c.in-Some.mark c.block.result c.in-Some.ensures c.block.ensures
