-- What a reader reads, from what its parts read.
use Rattle.std.proofs.Common.{◌≡◌, Bool, true, false, List, refl, ap, sym, ◌∙◌}
use Rattle.std.specs.Prelude.{Some, None, if◌then◌else◌}
use Rattle.ck_base.specs.declared.tokens.Token.{Token}
use Rattle.ck_grammar.specs.Fitting.{has_member}
use Rattle.ck_grammar.specs.Readers.{Read, Reader}
use Rattle.ck_grammar.specs.ReadingTypes as reading
use Rattle.ck_grammar.specs.Specified.{go_together}
use Rattle.ck_grammar.specs.Trees as plain
use Rattle.ck_grammar.specs.Words.{Word}
use Rattle.ck_tallies.specs.Places.{place_word}
use Rattle.ck_tallies.specs.Promise.{TalliesTell}
use Rattle.ck_tallies.specs.Tallies.{nothing, tallied, goes_together}
use Rattle.ck_tallies.specs.declared.places.Place.{Place}
use Rattle.ck_tallies.specs.declared.tallies.Tally.{Tally}
use Rattle.ck_type_readers.specs.Steps.{members_from, specifiers_from}

-- a token and the others after it, where it is one that is wanted
abbrev pub taken_if : Bool → Token → List Token → Read Token
taken_if wanted t ts = if wanted then Some (t, ts) else None

pub members_read : (w : Token → Word) (of : Reader plain.Specifiers) (inner : Reader plain.Declarator)
    (ts rest : List Token) (row : plain.Members) (there : Bool) → members_from w of inner ts ≡ (row, rest)
    → there ≡ has_member row → there ≡ true → reading.members w of inner ts ≡ Some (row, rest)
members_read w of inner ts rest row there read is h = rw (read, ← is, h) refl

-- what `specifiers` reads, where all specifiers are read and their tally is known
module _ (tell : TalliesTell) (w : Token → Word) (members : Reader plain.Members)
    (enumerators : Reader plain.Enumerators) (place : Place) (ts rest : List Token) (s : plain.Specifiers)
    (tally : Tally) (fits : Bool) (read : specifiers_from w members enumerators ts ≡ (s, rest))
    (told : tallied w nothing s ≡ tally) (answer : fits ≡ goes_together place tally) where
  are_together : go_together w (place_word place) s ≡ fits
  are_together = sym (tell w s place) ∙ ap (goes_together place) told ∙ sym answer

  pub specifiers_fit : fits ≡ true
      → reading.specifiers w members enumerators (place_word place) ts ≡ Some (s, rest)
  specifiers_fit h = rw (read, are_together, h) refl

  pub specifiers_fit_not : fits ≡ false → reading.specifiers w members enumerators (place_word place) ts ≡ None
  specifiers_fit_not h = rw (read, are_together, h) refl
