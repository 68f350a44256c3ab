-- The loop over the external declarations of a file.
use Rattle.std.proofs.Common.{◌≡◌, ℕ, zero, suc, ◌<◌, ◌≤◌, ◌-◌, true, false, List, [], ◌∷◌, ◌++◌, length, drop}
use Rattle.std.proofs.Common.{refl, ap, sym, ◌∙◌, append_assoc, append-nil, length-drop, arith}
use Rattle.std.specs.Prelude.{Option, Some, None}
use Rattle.ck_base.specs.declared.tokens.Token.{Token}
use Rattle.ck_file_readers.specs.Sources.{IsNamed, IsSameFile}
use Rattle.ck_file_readers.specs.Steps.{typedefs_after}
use Rattle.ck_grammar.specs.Readers.{◌>>=◌}
use Rattle.ck_grammar.specs.ReadingStatements.{external_at, file_loop, is_empty}
use Rattle.ck_grammar.specs.Statements.{External}
use Rattle.ck_readers.specs.SourceView.{SourceView}

-- these and those after them
abbrev pub with_earlier : List External → Option (List External) → Option (List External)
with_earlier xs None = None
with_earlier xs (Some ys) = Some (xs ++ ys)

-- one and those after it
abbrev and_others : External → Option (List External) → Option (List External)
and_others x others = others >>= (λ xs. Some (x ∷ xs))

with_none : (others : Option (List External)) → with_earlier [] others ≡ others
with_none None = refl
with_none (Some xs) = refl

with_one : (xs : List External) (x : External) (others : Option (List External))
    → with_earlier xs (and_others x others) ≡ with_earlier (xs ++ x ∷ []) others
with_one xs x None = refl
with_one xs x (Some ys) = ap Some (sym (append_assoc xs (x ∷ []) ys))

at_end : (ts : List Token) → length ts ≡ 0 → is_empty ts ≡ true
at_end [] h = refl
at_end (t ∷ ts) h = absurd (omega (arith, h))

not_at_end : (ts : List Token) → 0 < length ts → is_empty ts ≡ false
not_at_end [] h = absurd (omega (arith, h))
not_at_end (t ∷ ts) h = refl

module _ (n : ℕ) where
  -- the external declarations from a place of a source on, at most this many
  abbrev pub file_from : SourceView → ℕ → ℕ → Option (List External)
  file_from source fuel at = file_loop source.bytes n fuel source.typedefs (drop at source.tokens)

  -- what the whole spells is what was read, and then what is spelled from here on
  pub record FileSoFar (xs : List External) (one now : SourceView) (next fuel : ℕ) : Type 0 where
    pub read : file_loop one.bytes n (length one.tokens) one.typedefs one.tokens
        ≡ with_earlier xs (file_from now fuel next)

  pub file_start : (xs : List External) (one : SourceView) (fuel : ℕ) → xs ≡ [] → fuel ≡ length one.tokens - 0
      → FileSoFar xs one one 0 fuel
  file_start xs one fuel empty is =
      let all : fuel ≡ length one.tokens = omega (arith, is) in
      record { read = rw (empty, all) (sym (with_none _)) }

  -- no token is left
  past : (now : SourceView) (next : ℕ) → length now.tokens ≤ next → is_empty (drop next now.tokens) ≡ true
  past now next h = at_end (drop next now.tokens) (length-drop next now.tokens ∙ omega (arith, h))

  ended : (now : SourceView) (fuel next : ℕ) → length now.tokens ≤ next → file_from now fuel next ≡ Some []
  ended now zero next h = rw (past now next h) refl
  ended now (suc fuel) next h = rw (past now next h) refl

  module _ (xs : List External) (one now : SourceView) (next fuel : ℕ) (far : FileSoFar xs one now next fuel) where
    pub file_done : length now.tokens ≤ next
        → Some xs ≡ file_loop one.bytes n (length one.tokens) one.typedefs one.tokens
    file_done h =
        ap Some (sym (append-nil xs)) ∙ sym (far.read ∙ ap (with_earlier xs) (ended now fuel next h))

    left : next < length now.tokens → is_empty (drop next now.tokens) ≡ false
    left h = not_at_end (drop next now.tokens) (rw length-drop (omega (arith, h)))

    -- too few steps, which never happens
    pub file_cut : fuel ≡ 0 → next < length now.tokens
        → None ≡ file_loop one.bytes n (length one.tokens) one.typedefs one.tokens
    file_cut is h =
        let e : file_from now 0 next ≡ None = rw (left h) refl in
        sym (far.read ∙ ap (λ f. with_earlier xs (file_from now f next)) is ∙ ap (with_earlier xs) e)

    module _ (rest : ℕ) (is : fuel ≡ suc rest) (more : next < length now.tokens) where
      pub file_none : external_at now.bytes now.typedefs n (drop next now.tokens) ≡ None
          → None ≡ file_loop one.bytes n (length one.tokens) one.typedefs one.tokens
      file_none none =
          let e : file_from now (suc rest) next ≡ None = rw (left more, none) refl in
          sym (far.read ∙ ap (λ f. with_earlier xs (file_from now f next)) is ∙ ap (with_earlier xs) e)

      pub file_step : {X : Type 0} (view : X → External) (found : X × ℕ) (later : SourceView) (ys : List External)
          → IsSameFile now later
          → IsNamed view (external_at now.bytes now.typedefs n) (typedefs_after now) now later next found
          → ys ≡ xs ++ view found.0 ∷ [] → FileSoFar ys one later found.1 rest
      file_step view found later ys same read pushed =
          let e : file_from now (suc rest) next ≡ and_others (view found.0) (file_from later rest found.1) =
          rw (left more, read.tree.read, same.0, same.1, read.typedefs) refl in
          record {
            read =
                far.read ∙ ap (λ f. with_earlier xs (file_from now f next)) is ∙ ap (with_earlier xs) e
                ∙ with_one xs (view found.0) (file_from later rest found.1)
                ∙ ap (λ zs. with_earlier zs (file_from later rest found.1)) (sym pushed);
          }
