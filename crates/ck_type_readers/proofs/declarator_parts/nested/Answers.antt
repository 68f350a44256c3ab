use Rattle.std.proofs.Common.{sym, ◌∙◌}
use Rattle.ck_readers.specs.SourceView.{words}
use Rattle.ck_type_readers.proofs.WholeDeclarators.{nested_whole}
use Rattle.ck_type_readers.proofs.declarator_parts.nested.Goals as goal

pub returns : goal.returns
returns g c size list inner sizes lists insides =
    nested_whole (words c.args.source.now) size list g.T.Building.declarator g.T.Building.dims inner
    (g.T.Building.tokens c.args.stars) c.args.opening c.args.source.now.tokens c.args.at c.in-Some.read
    c.in-Some-mark.mark c.in_ok-suffixes.suffixes c.in_ok-tree.tree
    (rw c.in-Some.is at (insides c.args.at _ c.ranges.at.fits c.in_ok-read.ensures))
    (sym c.is_written.ensures ∙ c.if-not-is_written.false) c.in-Some-mark.ensures
    (c.in_ok-suffixes.ensures size list sizes lists) c.in_ok-tree.ensures
