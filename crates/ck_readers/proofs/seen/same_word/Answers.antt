use Rattle.std.proofs.Common.{rules, sym, ◌∙◌}
use denote.Enum.Bare.{same_true, true_same}
use Rattle.ck_grammar.specs.contracts.words.FixedWord.{the_type}
use Rattle.ck_readers.proofs.SameWords.{same_word, same_flag, equal_texts}
use Rattle.ck_readers.proofs.seen.same_word.Goals as goal

pub returns : goal.returns
returns c =
    same_flag _ _ (λ h. equal_texts c.args.a c.args.b (same_true the_type (search rules) _ _ (sym c.eq.ensures ∙ h)))
    (λ h. c.eq.ensures ∙ true_same the_type _ _ (same_word c.args.a c.args.b h))
