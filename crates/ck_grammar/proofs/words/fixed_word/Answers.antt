use Rattle.ck_grammar.proofs.FixedWordsFound.{fixed_word_found}
use Rattle.ck_grammar.proofs.words.fixed_word.Goals as goal

pub returns-in-Key : goal.returns-in-Key
returns-in-Key c = rw c.word_of.ensures (fixed_word_found c.args.kind c.args.text.now c.in-Key.is)
