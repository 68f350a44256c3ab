-- What code answers that reads at file scope, where a declaration changes which names are typedef names (C99 6.2.1,
-- 6.7.7). What reads inside it takes the source as it is then. `view` is the plain tree of what is answered.
use Rattle.std.specs.Borrow.{Bor}
use Rattle.std.specs.Prelude.{◌≡◌, ℕ, ◌<◌, ◌^◌, List, drop, Option, Some, None, Result, Ok, Err}
use Rattle.ck_base.specs.declared.refusals.OutOfMemory.{OutOfMemory}
use Rattle.ck_base.specs.declared.tokens.Token.{Token}
use Rattle.ck_grammar.specs.Readers.{Reader}
use Rattle.ck_readers.specs.Places.{ReadAt, RowAt, IsRead, IsRow}
use Rattle.ck_readers.specs.SourceView.{SourceView}

-- what a closure answers at each place of each source, by its `post`
abbrev pub ReadsEach : {X B : Type 0} → (X → B) → (SourceView → Reader B)
    → (Bor SourceView → ℕ → Result (Option (X × ℕ)) OutOfMemory → Type 0) → Type 0
ReadsEach view reader post =
    (source : Bor SourceView) (at : ℕ) (result : Result (Option (_ × ℕ)) OutOfMemory) → at < 2 ^ 64
    → post source at result → ReadAt view (reader source.now) source.now.tokens at result

-- what a closure answers there that reads as many as come
abbrev pub RowsEach : {X B : Type 0} → (X → B) → (SourceView → List Token → B × List Token)
    → (Bor SourceView → ℕ → Result (X × ℕ) OutOfMemory → Type 0) → Type 0
RowsEach view reader post =
    (source : Bor SourceView) (at : ℕ) (result : Result (_ × ℕ) OutOfMemory) → at < 2 ^ 64
    → post source at result → RowAt view (reader source.now) source.now.tokens at result

-- the same bytes and tokens, whatever the typedef names
abbrev pub IsSameFile : SourceView → SourceView → Type 0
IsSameFile old new = (new.bytes ≡ old.bytes) × (new.tokens ≡ old.tokens)

-- the reader gives the tree that is answered, and the source has the typedef names after it
module _ {X B : Type 0} (view : X → B) (reader : Reader B) (names : B → List (List ℕ)) (old new : SourceView) (at : ℕ)
  where
    pub record IsNamed (found : X × ℕ) : Type 0 where
      pub tree : IsRead view reader old.tokens at found
      pub typedefs : new.typedefs ≡ names (view found.0)

    -- nothing where it gives nothing
    abbrev pub NamedBy : Option (X × ℕ) → Type 0
    NamedBy None = reader (drop at old.tokens) ≡ None
    NamedBy (Some found) = IsNamed found

    abbrev pub NamedAt : Result (Option (X × ℕ)) OutOfMemory → Type 0
    NamedAt (Ok found) = NamedBy found
    NamedAt (Err e) = Unit {0}

-- a row, where the reader reads as many as come, and the typedef names after it
module _ {X B : Type 0} (view : X → B) (reader : List Token → B × List Token) (names : B → List (List ℕ))
    (old new : SourceView) (at : ℕ) where
  pub record IsNamedRow (found : X × ℕ) : Type 0 where
    pub row : IsRow view reader old.tokens at found
    pub typedefs : new.typedefs ≡ names (view found.0)

  abbrev pub NamedRowAt : Result (X × ℕ) OutOfMemory → Type 0
  NamedRowAt (Ok found) = IsNamedRow found
  NamedRowAt (Err e) = Unit {0}
