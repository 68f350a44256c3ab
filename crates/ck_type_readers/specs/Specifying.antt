-- One step of the loop over specifiers, with their tally.
use Rattle.std.specs.Prelude.{◌≡◌, ℕ, ◌≤◌, Bool, List, drop, length, Option, Some, None, Result, Ok, Err}
use Rattle.ck_base.specs.declared.refusals.OutOfMemory.{OutOfMemory}
use Rattle.ck_base.specs.declared.tokens.Token.{Token}
use Rattle.ck_grammar.specs.Readers.{Reader, onto}
use Rattle.ck_grammar.specs.Trees.{Specifiers, NoSpecifiers}
use Rattle.ck_grammar.specs.Words.{Word}
use Rattle.ck_readers.specs.Places.{after}
use Rattle.ck_tallies.specs.Tallies.{nothing, tallied, has_type}
use Rattle.ck_tallies.specs.declared.tallies.Tally.{Tally}

-- what was read so far has this tally
abbrev pub HasTally : (Token → Word) → (Specifiers → Specifiers) → Tally → Type 0
HasTally w row tally = (rest : Specifiers) → tallied w nothing (row rest) ≡ tallied w tally rest

module _ (w : Token → Word) (old new : Specifiers → Specifiers)
    (step : (Bool → List Token → Specifiers × List Token) → Bool → Reader Specifiers) (tokens : List Token) where
  -- a specifier was read and pushed
  pub record IsSpecifier (tally : Tally) (at : ℕ) (found : Tally × ℕ) : Type 0 where
    pub read : (go : Bool → List Token → Specifiers × List Token)
        → after old (step go (has_type tally) (drop at tokens))
        ≡ Some (onto new (go (has_type found.0) (drop found.1 tokens)))
    pub told : HasTally w old tally → HasTally w new found.0
    pub within : at ≤ length tokens → found.1 ≤ length tokens

  -- none is there
  pub record NoSpecifier (tally : Tally) (at : ℕ) : Type 0 where
    pub none : (go : Bool → List Token → Specifiers × List Token) → step go (has_type tally) (drop at tokens) ≡ None
    pub stays : (rest : Specifiers) → new rest ≡ old rest

  abbrev pub SpecifiedAt : Tally → ℕ → Option (Tally × ℕ) → Type 0
  SpecifiedAt tally at None = NoSpecifier tally at
  SpecifiedAt tally at (Some found) = IsSpecifier tally at found

  abbrev pub SpecifierAt : Tally → ℕ → Result (Option (Tally × ℕ)) OutOfMemory → Type 0
  SpecifierAt tally at (Ok found) = SpecifiedAt tally at found
  SpecifierAt tally at (Err e) = Unit {0}

-- specifiers with their tally, as many as come
pub record IsSpecified {R : Type 0} (view : R → Specifiers → Specifiers) (w : Token → Word)
    (reader : List Token → Specifiers × List Token) (tokens : List Token) (at : ℕ)
    (found : (R × Tally) × ℕ) : Type 0 where
  pub read : reader (drop at tokens) ≡ (view found.0.0 NoSpecifiers, drop found.1 tokens)
  pub told : tallied w nothing (view found.0.0 NoSpecifiers) ≡ found.0.1
  pub within : at ≤ length tokens → found.1 ≤ length tokens

abbrev pub SpecifiersAt : {R : Type 0} → (R → Specifiers → Specifiers) → (Token → Word)
    → (List Token → Specifiers × List Token) → List Token → ℕ → Result ((R × Tally) × ℕ) OutOfMemory → Type 0
SpecifiersAt view w reader tokens at (Ok found) = IsSpecified view w reader tokens at found
SpecifiersAt view w reader tokens at (Err e) = Unit {0}
