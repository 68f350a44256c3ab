-- An enumerator as code reads it: what is after it is left to read.
use Rattle.std.specs.Prelude.{◌≡◌, ℕ, ◌≤◌, List, drop, length, Option, Some, None, Result, Ok, Err}
use Rattle.ck_base.specs.declared.refusals.OutOfMemory.{OutOfMemory}
use Rattle.ck_base.specs.declared.tokens.Token.{Token}
use Rattle.ck_grammar.specs.Readers.{Reader}
use Rattle.ck_grammar.specs.ReadingTypes.{enumerator_end}
use Rattle.ck_grammar.specs.Trees.{Enumerators}
use Rattle.ck_grammar.specs.Words.{Word}

module _ {X : Type 0} (last : X → Option Token → Enumerators) (before : X → Token → Enumerators → Enumerators)
    (w : Token → Word) (step : Reader Enumerators → Reader Enumerators) (tokens : List Token) (at : ℕ) where
  pub record IsEnumerator (found : X × ℕ) : Type 0 where
    pub read : (go : Reader Enumerators)
        → step go (drop at tokens) ≡ enumerator_end w go (last found.0) (before found.0) (drop found.1 tokens)
    pub within : at ≤ length tokens → found.1 ≤ length tokens

  abbrev pub EnumeratedAt : Option (X × ℕ) → Type 0
  EnumeratedAt None = (go : Reader Enumerators) → step go (drop at tokens) ≡ None
  EnumeratedAt (Some found) = IsEnumerator found

  abbrev pub EnumeratorAt : Result (Option (X × ℕ)) OutOfMemory → Type 0
  EnumeratorAt (Ok found) = EnumeratedAt found
  EnumeratorAt (Err e) = Unit {0}
