use Rattle.std.proofs.Common.{sym, ◌∙◌, drop}
use Rattle.ck_readers.proofs.Readings.{read_same, cast_is}
use Rattle.ck_readers.specs.SourceView.{words}
use Rattle.ck_grammar.specs.ReadingExpressions.{unary, cast}
use Rattle.ck_readers.proofs.unary.cast.Goals as goal

pub returns-then-not-opens_type : goal.returns-then-not-opens_type
returns-then-not-opens_type g c inner ty reads types =
    let w = words c.args.source.now in
    read_same g.T.Building.expr (unary w inner ty c.args.depth) (cast w inner ty c.args.depth) c.args.source.now.tokens
    c.args.at c.unary.result
    (cast_is w inner ty c.args.depth (drop c.args.at c.args.source.now.tokens)
    (sym c.opens_type.ensures ∙ c.if-not-opens_type.true))
    (c.unary.ensures inner ty reads types)
