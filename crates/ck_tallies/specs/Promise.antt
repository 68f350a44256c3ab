-- What a tally tells.
use Rattle.std.specs.Prelude.{◌≡◌}
use Rattle.ck_base.specs.declared.tokens.Token.{Token}
use Rattle.ck_grammar.specs.FixedWords.{spelling}
use Rattle.ck_grammar.specs.Specified.{go_together}
use Rattle.ck_grammar.specs.Trees.{Specifiers}
use Rattle.ck_grammar.specs.Words.{Word, Fixed}
use Rattle.ck_grammar.specs.declared.words.FixedWord.{FixedWord}
use Rattle.ck_tallies.specs.Places.{place_word}
use Rattle.ck_tallies.specs.Tallies.{nothing, tallied, goes_together, with_word}
use Rattle.ck_tallies.specs.declared.places.Place.{Place}
use Rattle.ck_tallies.specs.declared.tallies.Tally.{Tally}

-- specifiers go together at a place (C99 6.7) where their tally says so
abbrev pub TalliesTell : Type 0
TalliesTell =
    (w : Token → Word) (s : Specifiers) (place : Place)
    → goes_together place (tallied w nothing s) ≡ go_together w (place_word place) s

-- a word that is no keyword of the subset adds nothing
abbrev pub UnknownAddsNothing : Type 0
UnknownAddsNothing =
    (word : Word) (tally : Tally) → ((found : FixedWord) → word ≡ Fixed (spelling found) → ⊥)
    → with_word word tally ≡ tally
