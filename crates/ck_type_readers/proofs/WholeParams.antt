-- A parameter list by its parts.
use Rattle.std.proofs.Common.{◌≡◌, ℕ, true, List, drop, refl, ap, sym, ◌∙◌}
use Rattle.std.specs.Prelude.{Option, Some}
use Rattle.ck_base.specs.declared.tokens.Token.{Token}
use Rattle.ck_grammar.specs.Readers.{Reader}
use Rattle.ck_grammar.specs.ReadingTypes as reading
use Rattle.ck_grammar.specs.Trees as plain
use Rattle.ck_grammar.specs.Words.{Word, begins_specifiers}
use Rattle.ck_readers.specs.Places.{IsRead, IsRow}
use Rattle.ck_readers.specs.Rows.{ellipsis_end}
use Rattle.ck_type_readers.specs.Steps.{more_from}
use Rattle.ck_type_readers.specs.Views.{ended, more_ended}

pub params_whole : {S D M P : Type 0} (w : Token → Word) (of : Reader plain.Specifiers)
    (inner : Reader plain.Declarator) (specifiers : S → plain.Specifiers → plain.Specifiers)
    (declarator : D → plain.Declarator) (more : M → plain.MoreParams → plain.MoreParams)
    (params : P → plain.Params) (tokens : List Token) (at : ℕ)
    (first : S × ℕ) (declared : D × ℕ) (others : (M × Option (Token × Token)) × ℕ) (all : P)
    → reading.begins_with w begins_specifiers (drop at tokens) ≡ true
    → IsRead (ended specifiers plain.NoSpecifiers) of tokens at first → IsRead declarator inner tokens first.1 declared
    → IsRow (more_ended more) (more_from w of inner) tokens declared.1 others
    → params all ≡ reading.parameters w (specifiers first.0 plain.NoSpecifiers) (declarator declared.0)
    (more others.0.0 (ellipsis_end others.0.1))
    → IsRead params (reading.params w of inner) tokens at (all, others.1)
params_whole w of inner specifiers declarator more params tokens at first declared others all begins s d rest made =
    record {
      read =
          rw (begins, s.read, d.read, rest.read) refl ∙ ap (λ p. Some (p, drop others.1 tokens)) (sym made);
      within = λ h. rest.within (d.within (s.within h));
    }
