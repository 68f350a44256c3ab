use Rattle.ck_boxes.proofs.DepthLemmas.{hidden, shown}
use Rattle.ck_grammar.specs.Nesting.{dims_nesting}
use Rattle.ck_syntax.specs.ExpressionViews.{dim_trees}
use Rattle.ck_boxes.proofs.questions.abstract_depth.Goals as goal

pub returns-then-not-shows_parts : goal.returns-then-not-shows_parts
returns-then-not-shows_parts g c is =
    let ds = dim_trees c.args.dims.now in
    hidden c.args.stars.now ds (dims_nesting ds) c.shows_parts.result c.shows_parts.ensures c.if-not-shows_parts.true

pub returns : goal.returns
returns g c is =
    let ds = dim_trees c.args.dims.now in
    shown c.args.stars.now ds (dims_nesting ds) c.args.depth c.one_more.result c.shows_parts.result
    c.shows_parts.ensures c.if-not-shows_parts.false is c.one_more.ensures
