-- The middle of a declarator by its first token.
use Rattle.std.proofs.Common.{◌≡◌, ℕ, ◌≤◌, true, false, ◌&&◌, List, [], ◌∷◌, length, drop, refl, ap, sym, ◌∙◌}
use Rattle.std.specs.Prelude.{Option, Some, None, Result, Ok, Err, if◌then◌else◌}
use Rattle.ck_base.specs.declared.refusals.OutOfMemory.{OutOfMemory}
use Rattle.ck_base.specs.declared.tokens.Token.{Token}
use Rattle.ck_grammar.specs.Fitting.{Naming, may_be_abstract, may_name}
use Rattle.ck_grammar.specs.Readers.{Reader}
use Rattle.ck_grammar.specs.ReadingTypes as reading
use Rattle.ck_grammar.specs.Trees as plain
use Rattle.ck_grammar.specs.Words.{Word, sort}
use Rattle.ck_grammar.specs.declared.classes.Sort.{Sort}
use Rattle.ck_grammar.specs.declared.classes.Sort.TheVariants.{RoundMark}
use Rattle.ck_readers.specs.Places.{ReadAt, IsRead, IsRow, IsTold}
use Rattle.ck_type_readers.specs.Steps.{dims_from}
use Rattle.ck_type_readers.specs.Views.{ended, is_round_mark, takes_sort}
use Rattle.ck_type_readers.proofs.Names.{takes_sort-is}

round_is : (s : Sort) → is_round_mark s ≡ true → s ≡ RoundMark
round_is RoundMark h = refl
round_is _ h = absurd (cc)

module _ (w : Token → Word) (size : Reader plain.Expr) (list : Reader plain.Params) (inner : Reader plain.Declarator)
    (naming : Naming) (stars : List Token) where
  by_other : (s : Sort) (t : Token) (ts : List Token) → is_round_mark s ≡ false
      → reading.middle_by w size list inner naming stars s t ts
      ≡ (if may_name naming (w t) then Some (reading.with_dims w size list (plain.Named stars t) ts)
      else reading.abstract w size list naming stars (t ∷ ts))
  by_other RoundMark t ts h = absurd (cc)
  by_other _ t ts h = refl

  -- the same where two readers read the same
  pub read_as : {X : Type 0} (view : X → plain.Declarator) (one other : Reader plain.Declarator) (tokens : List Token)
      (at from : ℕ) → (at ≤ length tokens → from ≤ length tokens)
      → one (drop at tokens) ≡ other (drop from tokens) → (result : Result (Option (X × ℕ)) OutOfMemory)
      → ReadAt view other tokens from result → ReadAt view one tokens at result
  read_as view one other tokens at from within e (Ok None) h = e ∙ h
  read_as view one other tokens at from within e (Ok (Some found)) h =
      record { read = e ∙ h.read; within = λ i. h.within (within i) }
  read_as view one other tokens at from within e (Err error) h = h

  pub at_end : {X : Type 0} (view : X → plain.Declarator) (tokens : List Token) (at : ℕ) → drop at tokens ≡ []
      → (result : Result (Option (X × ℕ)) OutOfMemory)
      → ReadAt view (reading.abstract w size list naming stars) tokens at result
      → ReadAt view (reading.middle w size list inner naming stars) tokens at result
  at_end view tokens at e =
      read_as view (reading.middle w size list inner naming stars) (reading.abstract w size list naming stars) tokens
      at at (λ h. h) (rw e refl)

  module _ {X : Type 0} (view : X → plain.Declarator) (tokens : List Token) (at : ℕ) (found : Token × Sort × ℕ)
      (is : IsTold (λ t. sort (w t)) tokens at found) where
    first : reading.middle w size list inner naming stars (drop at tokens)
        ≡ reading.middle_by w size list inner naming stars found.1 found.0 (drop found.2 tokens)
    first = rw (is.token, sym is.told) refl

    -- a name
    pub named_read : {R : Type 0} (dims : R → plain.Dims → plain.Dims) (row : R × ℕ) (tree : X)
        → is_round_mark found.1 ≡ false → takes_sort naming found.1 ≡ true
        → IsRow (ended dims plain.NoDims) (dims_from w size list) tokens found.2 row
        → view tree ≡ plain.Named stars found.0 (dims row.0 plain.NoDims)
        → IsRead view (reading.middle w size list inner naming stars) tokens at (tree, row.1)
    named_read dims row tree not_round taken suffixes made = record {
      read =
          first ∙ by_other found.1 found.0 (drop found.2 tokens) not_round
          ∙ rw (sym (takes_sort-is naming (w found.0)) ∙ ap (takes_sort naming) (sym is.told) ∙ taken, suffixes.read)
          refl
          ∙ ap (λ d. Some (d, drop row.1 tokens)) (sym made);
      within = λ h. suffixes.within is.within;
    }

    -- no name
    pub abstract_read : is_round_mark found.1 ≡ false → takes_sort naming found.1 ≡ false
        → (result : Result (Option (X × ℕ)) OutOfMemory)
        → ReadAt view (reading.abstract w size list naming stars) tokens at result
        → ReadAt view (reading.middle w size list inner naming stars) tokens at result
    abstract_read not_round other =
        read_as view (reading.middle w size list inner naming stars) (reading.abstract w size list naming stars) tokens
        at at (λ h. h) (first ∙ by_other found.1 found.0 (drop found.2 tokens) not_round
        ∙ rw (sym (takes_sort-is naming (w found.0)) ∙ ap (takes_sort naming) (sym is.told) ∙ other) (rw is.token refl))

    -- `(` before parameters
    pub abstract_round : is_round_mark found.1 ≡ true
        → (may_be_abstract naming && reading.begins_params w (drop found.2 tokens)) ≡ true
        → (result : Result (Option (X × ℕ)) OutOfMemory)
        → ReadAt view (reading.abstract w size list naming stars) tokens at result
        → ReadAt view (reading.middle w size list inner naming stars) tokens at result
    abstract_round round opens =
        read_as view (reading.middle w size list inner naming stars) (reading.abstract w size list naming stars) tokens
        at at (λ h. h) (first ∙ rw (round_is found.1 round, opens) (rw is.token refl))

    -- `(` declarator `)`
    pub nested_round : is_round_mark found.1 ≡ true
        → (may_be_abstract naming && reading.begins_params w (drop found.2 tokens)) ≡ false
        → (result : Result (Option (X × ℕ)) OutOfMemory)
        → ReadAt view (reading.nested w size list inner stars found.0) tokens found.2 result
        → ReadAt view (reading.middle w size list inner naming stars) tokens at result
    nested_round round opens =
        read_as view (reading.middle w size list inner naming stars) (reading.nested w size list inner stars found.0)
        tokens at found.2 (λ h. is.within) (first ∙ rw (round_is found.1 round, opens) refl)
