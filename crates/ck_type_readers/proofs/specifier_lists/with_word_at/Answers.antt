use Rattle.std.proofs.Common.{sym}
use Rattle.ck_readers.specs.SourceView.{words}
use Rattle.ck_type_readers.proofs.specifier_lists.with_word_at.Goals as goal

pub returns-in-Some : goal.returns-in-Some
returns-in-Some c t ts first = rw (c.in-Some.ensures t ts first) c.with_word.ensures

pub returns-in-None : goal.returns-in-None
returns-in-None c t ts first =
    sym (c.unknown_adds_nothing.ensures (words c.args.source.now t) c.args.tally
    (λ found e. c.in-None.ensures t ts found first e))
