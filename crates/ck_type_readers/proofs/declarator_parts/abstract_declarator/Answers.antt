use Rattle.std.proofs.Common.{sym, ◌∙◌}
use Rattle.ck_readers.specs.SourceView.{words}
use Rattle.ck_type_readers.specs.Views.{naming_word}
use Rattle.ck_type_readers.proofs.WholeDeclarators.{abstract_whole}
use Rattle.ck_type_readers.proofs.declarator_parts.abstract_declarator.Goals as goal

pub returns : goal.returns
returns g c size list sizes lists =
    abstract_whole (words c.args.source.now) size list g.T.Building.declarator g.T.Building.dims
    (naming_word c.args.naming) (g.T.Building.tokens c.args.stars) c.args.source.now.tokens c.args.at
    c.in_ok-suffixes.suffixes c.nameless-tree.result
    (sym c.may_be_abstract.ensures ∙ c.if-not-may_be_abstract.false)
    (c.in_ok-suffixes.ensures size list sizes lists) c.nameless-tree.ensures
