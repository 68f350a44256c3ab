use Rattle.std.proofs.Common.{refl}
use Rattle.ck_readers.proofs.Readings.{read_first}
use Rattle.ck_readers.specs.SourceView.{words, lead_in}
use Rattle.ck_grammar.specs.ReadingExpressions.{unary, unary_by}
use Rattle.ck_readers.proofs.unary.unary.Goals as goal

pub returns-in-Some : goal.returns-in-Some
returns-in-Some g c inner ty reads types =
    read_first g.T.Building.expr (lead_in c.args.source.now)
    (unary_by (words c.args.source.now) inner ty c.args.depth) (unary (words c.args.source.now) inner ty c.args.depth)
    _ _ _ _ c.in-Some.ensures (λ t ts. refl) (c.unary_by.ensures inner ty reads types)
