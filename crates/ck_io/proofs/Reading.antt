-- A file is read from its start, one piece after another.
use Rattle.std.proofs.Common.{◌≡◌, inl, inr, ℕ, ◌≤◌, ◌<◌, List, ◌++◌, take, drop, subst, length, Option, Some, None}
use Rattle.std.proofs.Common.{IsSome, ◌∙◌, ap, sym, append-nil, arith, length-drop, length-append, IfSome}
use Rattle.std.specs.Prelude.{⊤}
use Rattle.std.proofs.Math.Seq.{take-add}
use Rattle.std.proofs.lemmas.List.{take_at, take_all, length-take-le}
use Rattle.ck_io.specs.Environment.{Files, HasName, ReadsAt, HasBytes, FillsPrefix, bytes_of}
use Rattle.ck_io.proofs.Told.{has_bytes, if_some-both}

-- the bytes read so far are a prefix of those of the file
pub record IsPrefix (bytes read : List ℕ) : Type 0 where
  pub within : length read ≤ length bytes
  pub same : read ≡ take (length read) bytes

-- the bytes read so far are a prefix of those of the file of this name
abbrev pub HasPrefix : Option Files → List ℕ → List ℕ → Type 0
HasPrefix None name read = ⊤
HasPrefix (Some files) name read = IfSome (bytes_of files name) (λ bytes. IsPrefix bytes read)

-- the prefix of the buffer that a read filled
filled_prefix : (left old new : List ℕ) (count : ℕ) → FillsPrefix left old new count → take count new ≡ take count left
filled_prefix left old new count fills =
    let all = length-take-le count left fills.within in
    let prefix = take_at (take count left) (drop count old) count all in
    cc (fills.filled)

-- what was read stays a prefix of the file
prefix_grows : (bytes read old new : List ℕ) (count : ℕ)
    → IsPrefix bytes read
    → FillsPrefix (drop (length read) bytes) old new count
    → IsPrefix bytes (read ++ take count new)
prefix_grows bytes read old new count prefix fills =
    let taken = filled_prefix (drop (length read) bytes) old new count fills in
    let long = length-take-le count (drop (length read) bytes) fills.within in
    let grown = length-append read (take count new) in
    record {
      within = omega (arith, ap length taken, length-drop (length read) bytes, fills.within, prefix.within);
      same = cc (take-add (length read) count bytes, ap length taken);
    }

-- the same, by the place that was read from
prefix_grows_at : (read old new : List ℕ) (at count : ℕ) → at ≡ length read → (bytes : List ℕ)
    → IsPrefix bytes read
    → FillsPrefix (drop at bytes) old new count
    → IsPrefix bytes (read ++ take count new)
prefix_grows_at read old new at count here bytes prefix fills =
    prefix_grows bytes read old new count prefix (rw here at fills)

-- what was read is of the files that were told before
reads_along : (files later : Files) (name old new : List ℕ) (at count : ℕ)
    → Some later ≡ Some files
    → ReadsAt (Some later) name at old new count
    → ReadsAt (Some files) name at old new count
reads_along files later name old new at count kept reads =
    subst (λ (told : Option Files). ReadsAt told name at old new count) kept reads

-- the buffer's prefix is appended to what was read
pub prefix_more : (told later : Option Files) (name read after old new : List ℕ) (at count : ℕ)
    → later ≡ told
    → at ≡ length read
    → after ≡ read ++ take count new
    → HasPrefix told name read
    → ReadsAt later name at old new count
    → HasPrefix told name after
prefix_more None later name read after old new at count kept here appended prefix reads = tt
prefix_more (Some files) None name read after old new at count kept here appended prefix reads = cc
prefix_more (Some files) (Some later) name read after old new at count kept here appended prefix reads =
    rw appended
    (if_some-both (bytes_of files name) _ _ _ (prefix_grows_at read old new at count here) prefix
    (reads_along files later name old new at count kept reads))

-- a prefix as long as the file is the file
all_of : (bytes read : List ℕ) → length bytes ≤ length read → IsPrefix bytes read → bytes ≡ read
all_of bytes read long prefix = sym (prefix.same ∙ take_all (length read) bytes long)

-- where no byte is left, all was read
all_read : (o : Option (List ℕ)) (read old new : List ℕ) (at count : ℕ)
    → IsSome o → at ≡ length read → count ≡ 0 → 0 < length old
    → IfSome o (λ bytes. IsPrefix bytes read)
    → IfSome o (λ bytes. FillsPrefix (drop at bytes) old new count)
    → o ≡ Some read
all_read None read old new at count some here zero room prefix reads = cc
all_read (Some bytes) read old new at count some here zero room prefix reads =
    elim (reads.none.0 zero) [
      | inl full ↦ absurd (omega arith)
      | inr end ↦ ap Some (all_of bytes read (omega (arith, length-drop at bytes)) prefix)
    ]

-- where a buffer with room takes nothing, all was read
pub prefix_is_all : (told later : Option Files) (name read after old new : List ℕ) (at count : ℕ)
    → later ≡ told
    → at ≡ length read
    → after ≡ read ++ take count new
    → HasName told name
    → HasPrefix told name read
    → count ≡ 0
    → 0 < length old
    → ReadsAt later name at old new count
    → HasBytes told name after
prefix_is_all None later name read after old new at count kept here appended has prefix zero room reads = tt
prefix_is_all (Some files) None name read after old new at count kept here appended has prefix zero room reads = cc
prefix_is_all (Some files) (Some later) name read after old new at count kept here appended has prefix zero room reads =
    let same : after ≡ read = appended ∙ ap (λ (n : ℕ). read ++ take n new) zero ∙ append-nil read in
    rw same
    (all_read (bytes_of files name) read old new at count (has_bytes files name has) here zero room prefix
    (reads_along files later name old new at count kept reads))
