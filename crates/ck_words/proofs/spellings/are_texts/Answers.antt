use Rattle.std.proofs.Common.{rules, tests}
use Rattle.std.specs.Prelude.{string_bytes}
use Rattle.std.proofs.lemmas.Iterator.{YieldsList-from_slice, YieldsList-from_zip, cases_from_all}
use Rattle.ck_words.proofs.SameWords.{AreSame, Differ, same_by_places}
use Rattle.ck_words.proofs.spellings.are_texts.Goals as goal

pub returns-then-words-texts : goal.returns-then-words-texts
returns-then-words-texts c =
    same_by_places string_bytes (λ text. text.now) c.args.words.now c.args.texts.now c.all.result (search rules)
    (cases_from_all c.all.new.self _ c.all.result (AreSame string_bytes (λ text. text.now))
    (Differ string_bytes (λ text. text.now)) c.all.ensures.ran
    (YieldsList-from_zip (YieldsList-from_slice c.args.words.now cc) (YieldsList-from_slice c.args.texts.now cc))
    (λ x q k. search (rules, tests)) (λ x q k. search (rules, tests)))
