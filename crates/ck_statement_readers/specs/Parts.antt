-- What code answers that has read a part of something: the reader goes on after it, whatever comes there. `by` reads
-- the part, and by its argument what comes after it.
use Rattle.std.specs.Prelude.{◌≡◌, ℕ, ◌≤◌, List, drop, length, Option, Some, None, Result, Ok, Err}
use Rattle.ck_base.specs.declared.refusals.OutOfMemory.{OutOfMemory}
use Rattle.ck_base.specs.declared.tokens.Token.{Token}
use Rattle.ck_grammar.specs.Readers.{Reader}

module _ {X P B : Type 0} (view : X → P) (by : (P → Reader B) → Reader B) (tokens : List Token) (at : ℕ) where
  -- a part is read, and what is read after it is all that is left
  pub record IsPart (found : X × ℕ) : Type 0 where
    pub read : (go : P → Reader B) → by go (drop at tokens) ≡ go (view found.0) (drop found.1 tokens)
    pub within : at ≤ length tokens → found.1 ≤ length tokens

  -- none is there
  abbrev pub PartBy : Option (X × ℕ) → Type 0
  PartBy None = (go : P → Reader B) → by go (drop at tokens) ≡ None
  PartBy (Some found) = IsPart found

  abbrev pub PartAt : Result (Option (X × ℕ)) OutOfMemory → Type 0
  PartAt (Ok found) = PartBy found
  PartAt (Err e) = Unit {0}
