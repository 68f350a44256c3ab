use Rattle.std.proofs.Common.{drop}
use Rattle.ck_grammar.specs.ReadingExpressions.{primary_by}
use Rattle.ck_readers.proofs.Readings.{postfix_none, postfix_some, found_none, found_some}
use Rattle.ck_readers.specs.SourceView.{words}
use Rattle.ck_readers.proofs.suffixes.postfix.Goals as goal

pub returns-in_default : goal.returns-in_default
returns-in_default g c inner reads =
    let w = words c.args.source.now in
    postfix_none w inner c.args.depth c.args.lead c.args.token (drop c.args.at c.args.source.now.tokens)
    (found_none g.T.Building.expr (primary_by w inner c.args.lead c.args.token) c.args.source.now.tokens c.args.at _
    c.in_default.is (c.in_ok-read.ensures inner reads))

pub returns : goal.returns
returns g c inner reads =
    postfix_some (words c.args.source.now) g.T.Building.expr inner c.args.depth c.args.lead c.args.token _ _
    c.in-Some.read _ (found_some _ _ _ _ _ _ c.in-Some.is (c.in_ok-read.ensures inner reads))
    (c.in_ok-postfix_after.ensures inner reads)
