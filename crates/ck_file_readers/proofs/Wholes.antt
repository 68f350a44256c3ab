-- External declarations from what their parts read.
use Rattle.std.proofs.Common.{◌≡◌, ℕ, ◌≤◌, suc, true, false, List, length, drop, refl, ap, sym, ◌∙◌}
use Rattle.std.specs.Prelude.{Option, Some, None, Result, Ok, Err, codes}
use Rattle.ck_base.specs.declared.refusals.OutOfMemory.{OutOfMemory}
use Rattle.ck_file_readers.specs.Sources.{IsNamed, NamedAt}
use Rattle.ck_file_readers.specs.Steps.{declaration_typedefs, declarator_in, named_from, specifiers_in, typedefs_after}
use Rattle.ck_grammar.specs.Readers.{Reader, is_at}
use Rattle.ck_grammar.specs.ReadingStatements.{declares, defines, external_at}
use Rattle.ck_grammar.specs.Statements.{Declaration, External, FileDeclaration}
use Rattle.ck_grammar.specs.Trees.{Specifiers, Declarator}
use Rattle.ck_readers.specs.Places.{IsRead}
use Rattle.ck_readers.specs.SourceView.{SourceView, text_mark, words}
use Rattle.ck_statement_trees.proofs.Marks.{unmarked}

-- a reader that goes on as another from a later place on
pub named_on : {X B : Type 0} (view : X → B) (one other : Reader B) (names : B → List (List ℕ)) (old new : SourceView)
    (at from : ℕ) → (at ≤ length old.tokens → from ≤ length old.tokens)
    → one (drop at old.tokens) ≡ other (drop from old.tokens) → (result : Result (Option (X × ℕ)) OutOfMemory)
    → NamedAt view other names old new from result → NamedAt view one names old new at result
named_on view one other names old new at from within e (Ok None) h = e ∙ h
named_on view one other names old new at from within e (Ok (Some found)) h = record {
  tree = record { read = e ∙ h.tree.read; within = λ i. h.tree.within (within i) };
  typedefs = h.typedefs;
}
named_on view one other names old new at from within e (Err error) h = h

-- after the specifiers
module _ (n : ℕ) (s : Specifiers) (one two : SourceView) (at : ℕ) where
  module _ {Y : Type 0} (name : Y → Declarator) (found : Y × ℕ)
      (is : IsRead name (declarator_in (suc n) one) one.tokens at found) where
    pub with_body : {X : Type 0} (view : X → External) → is_at (words one) "{" (drop found.1 one.tokens) ≡ true
        → (result : Result (Option (X × ℕ)) OutOfMemory)
        → NamedAt view (defines one.bytes one.typedefs n s (name found.0)) (typedefs_after one) one two found.1 result
        → NamedAt view (named_from n one s) (typedefs_after one) one two at result
    with_body view brace =
        named_on view (named_from n one s) (defines one.bytes one.typedefs n s (name found.0)) (typedefs_after one) one
        two at found.1 is.within (rw (is.read, brace) refl)

    module _ (brace : is_at (words one) "{" (drop found.1 one.tokens) ≡ false) where
      pub no_declaration : declares one.bytes one.typedefs (suc n) s (name found.0) (drop found.1 one.tokens) ≡ None
          → named_from n one s (drop at one.tokens) ≡ None
      no_declaration none = rw (is.read, brace, none) refl

      pub with_declaration : {X Z : Type 0} (view : X → External) (declaration : Z → Declaration) (rest : Z × ℕ)
          (tree : X)
          → IsNamed declaration (declares one.bytes one.typedefs (suc n) s (name found.0)) (declaration_typedefs one)
          one two found.1 rest
          → view tree ≡ FileDeclaration (declaration rest.0)
          → IsNamed view (named_from n one s) (typedefs_after one) one two at (tree, rest.1)
      with_declaration view declaration rest tree part made = record {
        tree = record {
          read =
              rw (is.read, brace, part.tree.read) refl ∙ ap (λ t. Some (t, drop rest.1 one.tokens)) (sym made);
          within = λ h. part.tree.within (is.within h);
        };
        typedefs = part.typedefs ∙ sym (ap (typedefs_after one) made);
      }

-- specifiers, and no `;` after them
module _ (n : ℕ) (one two : SourceView) (at : ℕ) {X R : Type 0} (view : X → External) (row : R → Specifiers)
    (found : R × ℕ) (is : IsRead row (specifiers_in (suc n) one) one.tokens at found) where
  pub with_name : text_mark (words one) (codes ";") (drop found.1 one.tokens) ≡ None
      → (result : Result (Option (X × ℕ)) OutOfMemory)
      → NamedAt view (named_from n one (row found.0)) (typedefs_after one) one two found.1 result
      → NamedAt view (external_at one.bytes one.typedefs n) (typedefs_after one) one two at result
  with_name none =
      named_on view (external_at one.bytes one.typedefs n) (named_from n one (row found.0)) (typedefs_after one) one
      two at found.1 is.within
      (rw (is.read, unmarked (words one) (codes ";") (drop found.1 one.tokens) none) refl)
