use Rattle.ck_readers.specs.SourceView.{words}
use Rattle.ck_type_readers.specs.Views.{naming_word}
use Rattle.ck_type_readers.proofs.WholeDeclarators.{declarator_whole}
use Rattle.ck_type_readers.proofs.declarator_parts.declarator.Goals as goal

pub returns : goal.returns
returns g c size list inner sizes lists insides =
    declarator_whole (words c.args.source.now) size list g.T.Building.declarator g.T.Building.tokens inner
    (naming_word c.args.naming) c.args.source.now.tokens c.args.at c.in_ok-front.front c.in_ok-front.ensures
    c.middle.result (c.middle.ensures size list inner sizes lists insides)
