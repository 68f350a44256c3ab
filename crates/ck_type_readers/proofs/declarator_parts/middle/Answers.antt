use Rattle.std.proofs.Common.{sym, ◌∙◌}
use Rattle.ck_readers.specs.SourceView.{words}
use Rattle.ck_type_readers.specs.Views.{naming_word}
use Rattle.ck_type_readers.proofs.Middles.{at_end, named_read, abstract_read, abstract_round, nested_round}
use Rattle.ck_type_readers.proofs.declarator_parts.middle.Goals as goal

pub returns-in_default : goal.returns-in_default
returns-in_default g c size list inner sizes lists insides =
    at_end (words c.args.source.now) size list inner (naming_word c.args.naming) (g.T.Building.tokens c.args.stars)
    g.T.Building.declarator c.args.source.now.tokens c.args.at
    c.in_default.ensures c.abstract_declarator.result (c.abstract_declarator.ensures size list sizes lists)

pub returns-then-opens_params : goal.returns-then-opens_params
returns-then-opens_params g c size list inner sizes lists insides =
    abstract_round (words c.args.source.now) size list inner (naming_word c.args.naming)
    (g.T.Building.tokens c.args.stars) g.T.Building.declarator c.args.source.now.tokens c.args.at c.in-Some.found
    c.in-Some.ensures (sym c.is_round.ensures ∙ c.if-is_round.true)
    (sym c.opens_params.ensures ∙ c.if-opens_params.true) c.abstract_declarator-then-opens_params.result
    (c.abstract_declarator-then-opens_params.ensures size list sizes lists)

pub returns-then-is_round : goal.returns-then-is_round
returns-then-is_round g c size list inner sizes lists insides =
    nested_round (words c.args.source.now) size list inner (naming_word c.args.naming)
    (g.T.Building.tokens c.args.stars) g.T.Building.declarator c.args.source.now.tokens c.args.at c.in-Some.found
    c.in-Some.ensures (sym c.is_round.ensures ∙ c.if-is_round.true)
    (sym c.opens_params.ensures ∙ c.if-opens_params.false) c.nested.result
    (c.nested.ensures size list inner sizes lists insides)

pub returns-then-not-takes : goal.returns-then-not-takes
returns-then-not-takes g c size list inner sizes lists insides =
    abstract_read (words c.args.source.now) size list inner (naming_word c.args.naming)
    (g.T.Building.tokens c.args.stars) g.T.Building.declarator c.args.source.now.tokens c.args.at c.in-Some.found
    c.in-Some.ensures (sym c.is_round.ensures ∙ c.if-is_round.false)
    (sym c.takes.ensures ∙ c.if-not-takes.true) c.abstract_declarator-then-not-takes.result
    (c.abstract_declarator-then-not-takes.ensures size list sizes lists)

pub returns : goal.returns
returns g c size list inner sizes lists insides =
    named_read (words c.args.source.now) size list inner (naming_word c.args.naming) (g.T.Building.tokens c.args.stars)
    g.T.Building.declarator c.args.source.now.tokens c.args.at c.in-Some.found c.in-Some.ensures
    g.T.Building.dims c.in_ok-suffixes.suffixes c.named-tree.result (sym c.is_round.ensures ∙ c.if-is_round.false)
    (sym c.takes.ensures ∙ c.if-not-takes.false)
    (c.in_ok-suffixes.ensures size list sizes lists) c.named-tree.ensures
