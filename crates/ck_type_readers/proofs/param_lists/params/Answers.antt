use Rattle.std.proofs.Common.{sym, ◌∙◌, rules}
use Rattle.ck_readers.specs.SourceView.{words}
use Rattle.ck_type_readers.proofs.WholeParams.{params_whole}
use Rattle.ck_type_readers.proofs.param_lists.params.Goals as goal

pub returns : goal.returns
returns g c of inner specified declared =
    params_whole (words c.args.source.now) of inner g.T.Building.specifiers g.T.Building.declarator
    g.T.Building.more_params g.T.Building.params c.args.source.now.tokens c.args.at (c.in-Some.of, c.in-Some.after_of)
    (c.in-Some-2.first, c.in-Some-2.after_first) c.in_ok-found.found c.parameters-list.result
    (sym c.begins_specifiers.ensures ∙ c.if-not-begins_specifiers.false)
    (rw c.in-Some.is at (specified c.args.at _ c.ranges.at.fits c.in_ok-of.ensures))
    (rw c.in-Some-2.is at (declared c.in-Some.after_of _ (search rules) c.in_ok-first.ensures))
    (c.in_ok-found.ensures of inner specified declared) c.parameters-list.ensures
