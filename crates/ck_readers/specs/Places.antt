-- What code answers at a place of the tokens, which is a number from 0, against what a reader of lists answers on the
-- tokens from that place on. `view` is the plain tree of what the code answers. Want of memory is no answer.
use Rattle.std.specs.Prelude.{◌≡◌, ℕ, ◌≤◌, ◌<◌, ◌^◌, suc, List, [], ◌∷◌, drop, length, Option, Some, None, Result, Ok}
use Rattle.std.specs.Prelude.{Err}
use Rattle.ck_base.specs.declared.refusals.OutOfMemory.{OutOfMemory}
use Rattle.ck_base.specs.declared.tokens.Token.{Token}
use Rattle.ck_grammar.specs.Readers.{Read, Reader, onto}
use Rattle.ck_grammar.specs.Levels as level

-- what is answered as it is
abbrev pub itself : {X : Type 0} → X → X
itself x = x

-- the reader gives the tree that is answered and the tokens from the place on that is answered, within the tokens
pub record IsRead {X B : Type 0} (view : X → B) (reader : Reader B) (tokens : List Token) (at : ℕ)
    (found : X × ℕ) : Type 0 where
  pub read : reader (drop at tokens) ≡ Some (view found.0, drop found.1 tokens)
  pub within : at ≤ length tokens → found.1 ≤ length tokens

-- a tree and a place where the reader gives them, nothing where it gives nothing
abbrev pub FoundAt : {X B : Type 0} → (X → B) → Reader B → List Token → ℕ → Option (X × ℕ) → Type 0
FoundAt view reader tokens at None = reader (drop at tokens) ≡ None
FoundAt view reader tokens at (Some found) = IsRead view reader tokens at found

-- the same of code that takes memory
abbrev pub ReadAt : {X B : Type 0} → (X → B) → Reader B → List Token → ℕ → Result (Option (X × ℕ)) OutOfMemory → Type 0
ReadAt view reader tokens at (Ok found) = FoundAt view reader tokens at found
ReadAt view reader tokens at (Err e) = Unit {0}

-- a row and a place, where the reader reads as many as come
pub record IsRow {X B : Type 0} (view : X → B) (reader : List Token → B × List Token) (tokens : List Token) (at : ℕ)
    (found : X × ℕ) : Type 0 where
  pub read : reader (drop at tokens) ≡ (view found.0, drop found.1 tokens)
  pub within : at ≤ length tokens → found.1 ≤ length tokens

abbrev pub RowAt : {X B : Type 0} → (X → B) → (List Token → B × List Token) → List Token → ℕ
    → Result (X × ℕ) OutOfMemory → Type 0
RowAt view reader tokens at (Ok found) = IsRow view reader tokens at found
RowAt view reader tokens at (Err e) = Unit {0}

-- what a reader gives put after what a row has
abbrev pub after : {B : Type 0} → (B → B) → Read B → Read B
after row None = None
after row (Some read) = Some (onto row read)

-- One step of a loop. `by go` reads one element of a row and then the others by `go`; `old` and `new` are the row, as a
-- function of what follows, before and after the step, which pushes the element.
pub record IsStep {B : Type 0} (old new : B → B) (by : (List Token → B × List Token) → Reader B) (tokens : List Token)
    (at : ℕ) (next : ℕ) : Type 0 where
  pub read : (go : List Token → B × List Token)
      → after old (by go (drop at tokens)) ≡ Some (onto new (go (drop next tokens)))
  pub within : at ≤ length tokens → next ≤ length tokens

-- no element is there, and the row stays
pub record NoStep {B : Type 0} (old new : B → B) (by : (List Token → B × List Token) → Reader B) (tokens : List Token)
    (at : ℕ) : Type 0 where
  pub none : (go : List Token → B × List Token) → by go (drop at tokens) ≡ None
  pub stays : (rest : B) → new rest ≡ old rest

abbrev pub SteppedAt : {B : Type 0} → (B → B) → (B → B) → ((List Token → B × List Token) → Reader B) → List Token → ℕ
    → Option ℕ → Type 0
SteppedAt old new by tokens at None = NoStep old new by tokens at
SteppedAt old new by tokens at (Some next) = IsStep old new by tokens at next

-- the place after the element, nothing where none is there
abbrev pub StepAt : {B : Type 0} → (B → B) → (B → B) → ((List Token → B × List Token) → Reader B) → List Token → ℕ
    → Result (Option ℕ) OutOfMemory → Type 0
StepAt old new by tokens at (Ok next) = SteppedAt old new by tokens at next
StepAt old new by tokens at (Err e) = Unit {0}

-- what a closure answers at each place, by its `post`
abbrev pub Reads : {X B : Type 0} → (X → B) → Reader B → List Token
    → (ℕ → Result (Option (X × ℕ)) OutOfMemory → Type 0) → Type 0
Reads view reader tokens post = (at : ℕ) (result : Result (Option (_ × ℕ)) OutOfMemory) → at < 2 ^ 64 → post at result
    → ReadAt view reader tokens at result

-- the same of a closure that takes a level first
abbrev pub ReadsLevels : {X B : Type 0} → (X → B) → (level.Level → Reader B) → List Token
    → (ℕ → ℕ → Result (Option (X × ℕ)) OutOfMemory → Type 0) → Type 0
ReadsLevels view reader tokens post = (k at : ℕ) (result : Result (Option (_ × ℕ)) OutOfMemory) → k < 2 ^ 8
    → at < 2 ^ 64 → post k at result → ReadAt view (reader k) tokens at result

-- the token at a place, what it is to a question, and the place after it
pub record IsTold {C : Type 0} (question : Token → C) (tokens : List Token) (at : ℕ)
    (found : Token × C × ℕ) : Type 0 where
  pub token : drop at tokens ≡ found.0 ∷ drop found.2 tokens
  pub told : found.1 ≡ question found.0
  pub next : found.2 ≡ suc at
  pub within : found.2 ≤ length tokens

-- nothing at the end
abbrev pub ToldAt : {C : Type 0} → (Token → C) → List Token → ℕ → Option (Token × C × ℕ) → Type 0
ToldAt question tokens at None = drop at tokens ≡ []
ToldAt question tokens at (Some found) = IsTold question tokens at found
