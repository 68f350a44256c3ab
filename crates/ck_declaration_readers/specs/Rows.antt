-- What code answers that pushes elements on a row, which has to end somewhere.
use Rattle.std.specs.Prelude.{◌≡◌, ℕ, ◌≤◌, List, drop, length, Option, Some, None, Result, Ok, Err}
use Rattle.ck_base.specs.declared.refusals.OutOfMemory.{OutOfMemory}
use Rattle.ck_base.specs.declared.tokens.Token.{Token}
use Rattle.ck_grammar.specs.Readers.{Reader}
use Rattle.ck_grammar.specs.Statements.{Designators, Init}
use Rattle.ck_readers.specs.Places.{after}

-- One step of a loop over a row that has to end somewhere. `by go` reads one element of the row and then the others by
-- `go`; `old` and `new` are the row, as a function of what follows, before and after the step, which pushes the
-- element.
module _ {B : Type 0} (old new : B → B) (by : Reader B → Reader B) (tokens : List Token) (at : ℕ) where
  pub record IsLink (next : ℕ) : Type 0 where
    pub read : (go : Reader B) → after old (by go (drop at tokens)) ≡ after new (go (drop next tokens))
    pub within : at ≤ length tokens → next ≤ length tokens

  -- no element is there
  abbrev pub LinkBy : Option ℕ → Type 0
  LinkBy None = (go : Reader B) → by go (drop at tokens) ≡ None
  LinkBy (Some next) = IsLink next

  abbrev pub LinkAt : Result (Option ℕ) OutOfMemory → Type 0
  LinkAt (Ok next) = LinkBy next
  LinkAt (Err e) = Unit {0}

-- a designation, maybe none, and an initialiser
abbrev pub entry_view : {X Y : Type 0} → (X → Option Designators) → (Y → Init) → X × Y → Option Designators × Init
entry_view designation init both = (designation both.0, init both.1)
