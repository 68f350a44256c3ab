use Rattle.std.proofs.Common.{refl, sym, ◌∙◌}
use Rattle.ck_readers.specs.SourceView.{words}
use Rattle.ck_type_readers.proofs.SpecifierSteps.{word_pushed, no_word, no_word_at_end}
use Rattle.ck_type_readers.proofs.specifier_lists.word.Goals as goal

pub returns-in_default : goal.returns-in_default
returns-in_default g c = no_word_at_end (words c.args.source.now) c.in_default.ensures (λ rest. refl)

pub returns-then-not-is_word : goal.returns-then-not-is_word
returns-then-not-is_word g c =
    no_word (words c.args.source.now) c.in-Some.ensures (sym c.is_word.ensures ∙ c.if-not-is_word.true) (λ rest. refl)

pub returns : goal.returns
returns g c =
    word_pushed (words c.args.source.now) c.in-Some.ensures (sym c.is_word.ensures ∙ c.if-not-is_word.false)
    c.in_ok-push_word.ensures (c.with_word_at-told.ensures _ _ c.in-Some.ensures.token)
