-- A declarator by its parts.
use Rattle.std.proofs.Common.{◌≡◌, ℕ, true, List, drop, refl, ap, sym, ◌∙◌}
use Rattle.std.specs.Prelude.{Option, Some, Result}
use Rattle.ck_base.specs.declared.refusals.OutOfMemory.{OutOfMemory}
use Rattle.ck_base.specs.declared.tokens.Token.{Token}
use Rattle.ck_grammar.specs.Fitting.{Naming, is_written, may_be_abstract}
use Rattle.ck_grammar.specs.Readers.{Reader, mark}
use Rattle.ck_grammar.specs.ReadingTypes as reading
use Rattle.ck_grammar.specs.Trees as plain
use Rattle.ck_grammar.specs.Words.{Word}
use Rattle.ck_readers.specs.Places.{ReadAt, IsRead, IsRow, itself}
use Rattle.ck_type_readers.specs.Steps.{dims_from}
use Rattle.ck_type_readers.specs.Views.{ended}
use Rattle.ck_type_readers.proofs.Middles.{read_as}

module _ (w : Token → Word) (size : Reader plain.Expr) (list : Reader plain.Params) where
  -- nothing in the middle
  pub abstract_whole : {X R : Type 0} (view : X → plain.Declarator) (dims : R → plain.Dims → plain.Dims)
      (naming : Naming) (stars : List Token) (tokens : List Token) (at : ℕ) (row : R × ℕ) (tree : X)
      → may_be_abstract naming ≡ true → IsRow (ended dims plain.NoDims) (dims_from w size list) tokens at row
      → view tree ≡ plain.Abstract stars (dims row.0 plain.NoDims)
      → IsRead view (reading.abstract w size list naming stars) tokens at (tree, row.1)
  abstract_whole view dims naming stars tokens at row tree may suffixes made = record {
    read = rw (may, suffixes.read) refl ∙ ap (λ d. Some (d, drop row.1 tokens)) (sym made);
    within = suffixes.within;
  }

  -- a declarator in parentheses
  pub nested_whole : {X R : Type 0} (view : X → plain.Declarator) (dims : R → plain.Dims → plain.Dims)
      (inner : Reader plain.Declarator) (stars : List Token) (opening : Token) (tokens : List Token) (at : ℕ)
      (declared : X × ℕ) (closing : Token × ℕ) (row : R × ℕ) (tree : X) → IsRead view inner tokens at declared
      → is_written (view declared.0) ≡ true → IsRead itself (mark w ")") tokens declared.1 closing
      → IsRow (ended dims plain.NoDims) (dims_from w size list) tokens closing.1 row
      → view tree ≡ plain.Nested stars opening (view declared.0) closing.0 (dims row.0 plain.NoDims)
      → IsRead view (reading.nested w size list inner stars opening) tokens at (tree, row.1)
  nested_whole view dims inner stars opening tokens at _ closing row tree first written last suffixes made = record {
    read =
        rw (first.read, written, last.read, suffixes.read) refl ∙ ap (λ d. Some (d, drop row.1 tokens)) (sym made);
    within = λ h. suffixes.within (last.within (first.within h));
  }

  -- the pointer, and then from the middle on
  pub declarator_whole : {X S : Type 0} (view : X → plain.Declarator) (stars : S → List Token)
      (inner : Reader plain.Declarator) (naming : Naming) (tokens : List Token) (at : ℕ) (front : S × ℕ)
      → IsRow stars (reading.pointer w) tokens at front → (result : Result (Option (X × ℕ)) OutOfMemory)
      → ReadAt view (reading.middle w size list inner naming (stars front.0)) tokens front.1 result
      → ReadAt view (reading.declarator w size list inner naming) tokens at result
  declarator_whole view stars inner naming tokens at front is =
      read_as w size list inner naming (stars front.0) view (reading.declarator w size list inner naming)
      (reading.middle w size list inner naming (stars front.0)) tokens at front.1 is.within (rw is.read refl)
