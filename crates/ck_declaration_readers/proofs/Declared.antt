-- Declarations from what their parts read.
use Rattle.std.proofs.Common.{◌≡◌, ℕ, List, drop, refl, ap, sym, ◌∙◌}
use Rattle.std.specs.Prelude.{Option, Some, None, Result, codes}
use Rattle.ck_base.specs.declared.refusals.OutOfMemory.{OutOfMemory}
use Rattle.ck_base.specs.declared.tokens.Token.{Token}
use Rattle.ck_declaration_readers.specs.Steps.{declaration_from, declared_after, declared_end, declared_from}
use Rattle.ck_declaration_readers.specs.Steps.{declared_step, declares_from, names_from}
use Rattle.ck_grammar.specs.Readers.{Read, Reader, ◌>>=◌, mark}
use Rattle.ck_grammar.specs.Statements.{Init, Declared, MoreDeclared, Declaration, Plainly, Initialised, NoMoreDeclared}
use Rattle.ck_grammar.specs.Statements.{AndPlainly, AndInitialised, Bare, Declares}
use Rattle.ck_grammar.specs.Trees.{Specifiers, Declarator}
use Rattle.ck_grammar.specs.Words.{Word}
use Rattle.ck_readers.specs.Places.{ReadAt, StepAt, IsRead, IsRow, IsStep, itself}
use Rattle.ck_readers.specs.SourceView.{text_mark}
use Rattle.ck_statement_trees.proofs.Marks.{marked, unmarked}
use Rattle.ck_statement_trees.proofs.Wholes.{pushed, read_from, step_from}

module _ (w : Token → Word) (d : Reader Declarator) (i : Reader Init) (tokens : List Token) (at : ℕ) where
  -- no `=` after the first declarator
  pub plainly_read : {X R : Type 0} (view : X → Declared) (rows : R → MoreDeclared → MoreDeclared) (found : R × ℕ)
      (tree : X) → text_mark w (codes "=") (drop at tokens) ≡ None
      → IsRow (λ r. rows r NoMoreDeclared) (declared_from w d i) tokens at found
      → view tree ≡ Plainly (rows found.0 NoMoreDeclared)
      → IsRead view (declared_after w d i) tokens at (tree, found.1)
  plainly_read view rows found tree none row made = record {
    read =
        rw (unmarked w (codes "=") (drop at tokens) none, row.read) refl
        ∙ ap (λ t. Some (t, drop found.1 tokens)) (sym made);
    within = row.within;
  }

  -- `=` and an initialiser after it
  pub initialised_read : {X Y R : Type 0} (view : X → Declared) (init : Y → Init)
      (rows : R → MoreDeclared → MoreDeclared) (equals : Token × ℕ) (first : Y × ℕ) (found : R × ℕ) (tree : X)
      → IsRead itself (text_mark w (codes "=")) tokens at equals → IsRead init i tokens equals.1 first
      → IsRow (λ r. rows r NoMoreDeclared) (declared_from w d i) tokens first.1 found
      → view tree ≡ Initialised equals.0 (init first.0) (rows found.0 NoMoreDeclared)
      → IsRead view (declared_after w d i) tokens at (tree, found.1)
  initialised_read view init rows equals first found tree there value row made =
      let m = marked w (codes "=") (drop at tokens) (equals.0, drop equals.1 tokens) there.read in
      record {
        read =
            rw (m.is, m.told, value.read, row.read) refl ∙ ap (λ t. Some (t, drop found.1 tokens)) (sym made);
        within = λ h. row.within (value.within (there.within h));
      }

  module _ (s : Specifiers) (first : Declarator) where
    abbrev declares_by : Read Declared → Read Declaration
    declares_by read = read >>= (λ x. mark w ";" x.1 >>= (λ y. Some (Declares s first x.0 y.0, y.1)))

    abbrev ended_by : Declared → Read Token → Read Declaration
    ended_by others read = read >>= (λ y. Some (Declares s first others y.0, y.1))

    pub undeclared : declared_after w d i (drop at tokens) ≡ None → declares_from w d i s first (drop at tokens) ≡ None
    undeclared h = ap declares_by h

    pub unended : (x : Declared × List Token) → declared_after w d i (drop at tokens) ≡ Some x
        → text_mark w (codes ";") x.1 ≡ None → declares_from w d i s first (drop at tokens) ≡ None
    unended x h none = ap declares_by h ∙ ap (ended_by x.0) none

    pub declares_read : {X Y : Type 0} (view : X → Declaration) (others : Y → Declared) (found : Y × ℕ)
        (semicolon : Token × ℕ) (tree : X) → IsRead others (declared_after w d i) tokens at found
        → IsRead itself (text_mark w (codes ";")) tokens found.1 semicolon
        → view tree ≡ Declares s first (others found.0) semicolon.0
        → IsRead view (declares_from w d i s first) tokens at (tree, semicolon.1)
    declares_read view others found semicolon tree part there made = record {
      read =
          ap declares_by part.read ∙ ap (ended_by (others found.0)) there.read
          ∙ ap (λ t. Some (t, drop semicolon.1 tokens)) (sym made);
      within = λ h. there.within (part.within h);
    }

  -- the first declarator, and what is after it
  pub names_read : {X Y : Type 0} (view : X → Declaration) (name : Y → Declarator) (s : Specifiers) (first : Y × ℕ)
      → IsRead name d tokens at first → (answer : Result (Option (X × ℕ)) OutOfMemory)
      → ReadAt view (declares_from w d i s (name first.0)) tokens first.1 answer
      → ReadAt view (names_from w d i s) tokens at answer
  names_read view name s first is =
      read_from view (names_from w d i s) (declares_from w d i s (name first.0)) tokens at first.1 is.within
      (rw is.read refl)

  module _ {X R : Type 0} (view : X → Declaration) (row : R → Specifiers) (of : Reader Specifiers) (found : R × ℕ)
      (is : IsRead row of tokens at found) where
    -- specifiers, and no `;` after them
    pub declaration_read : text_mark w (codes ";") (drop found.1 tokens) ≡ None
        → (answer : Result (Option (X × ℕ)) OutOfMemory)
        → ReadAt view (names_from w d i (row found.0)) tokens found.1 answer
        → ReadAt view (declaration_from w d i of) tokens at answer
    declaration_read none =
        read_from view (declaration_from w d i of) (names_from w d i (row found.0)) tokens at found.1 is.within
        (rw (is.read, unmarked w (codes ";") (drop found.1 tokens) none) refl)

    -- specifiers and `;`
    pub bare_read : (semicolon : Token × ℕ) (tree : X)
        → IsRead itself (text_mark w (codes ";")) tokens found.1 semicolon
        → view tree ≡ Bare (row found.0) semicolon.0
        → IsRead view (declaration_from w d i of) tokens at (tree, semicolon.1)
    bare_read semicolon tree there made =
        let m = marked w (codes ";") (drop found.1 tokens) (semicolon.0, drop semicolon.1 tokens) there.read in
        record {
          read = rw (is.read, m.is, m.told) refl ∙ ap (λ t. Some (t, drop semicolon.1 tokens)) (sym made);
          within = λ h. there.within (is.within h);
        }

  -- a comma and a declarator, and what is after them
  pub next_read : {Y : Type 0} (name : Y → Declarator) (old new : MoreDeclared → MoreDeclared) (comma : Token × ℕ)
      (found : Y × ℕ) → IsRead itself (text_mark w (codes ",")) tokens at comma → IsRead name d tokens comma.1 found
      → (answer : Result (Option ℕ) OutOfMemory)
      → StepAt old new (declared_end w i comma.0 (name found.0)) tokens found.1 answer
      → StepAt old new (declared_step w d i) tokens at answer
  next_read name old new comma found there is =
      step_from old new (declared_step w d i) (declared_end w i comma.0 (name found.0)) tokens at found.1
      (λ h. is.within (there.within h)) (λ go. rw (there.read, is.read) refl)

-- after a comma and a declarator
module _ (w : Token → Word) (i : Reader Init) (comma : Token) (name : Declarator) (tokens : List Token) (at : ℕ)
    (old new : MoreDeclared → MoreDeclared) where
  pub pushed_plainly : text_mark w (codes "=") (drop at tokens) ≡ None
      → ((rest : MoreDeclared) → new rest ≡ old (AndPlainly comma name rest))
      → IsStep old new (declared_end w i comma name) tokens at at
  pushed_plainly none push =
      pushed old new (AndPlainly comma name) (declared_end w i comma name) tokens at at
      (λ go. rw (unmarked w (codes "=") (drop at tokens) none) refl) push (λ h. h)

  pub unvalued : (equals : Token × ℕ) → IsRead itself (text_mark w (codes "=")) tokens at equals
      → i (drop equals.1 tokens) ≡ None → (go : List Token → MoreDeclared × List Token)
      → declared_end w i comma name go (drop at tokens) ≡ None
  unvalued equals there none go =
      let m = marked w (codes "=") (drop at tokens) (equals.0, drop equals.1 tokens) there.read in
      rw (m.is, m.told, none) refl

  pub pushed_initialised : {Y : Type 0} (init : Y → Init) (equals : Token × ℕ) (value : Y × ℕ)
      → IsRead itself (text_mark w (codes "=")) tokens at equals → IsRead init i tokens equals.1 value
      → ((rest : MoreDeclared) → new rest ≡ old (AndInitialised comma name equals.0 (init value.0) rest))
      → IsStep old new (declared_end w i comma name) tokens at value.1
  pushed_initialised init equals value there is push =
      let m = marked w (codes "=") (drop at tokens) (equals.0, drop equals.1 tokens) there.read in
      pushed old new (AndInitialised comma name equals.0 (init value.0)) (declared_end w i comma name) tokens at value.1
      (λ go. rw (m.is, m.told, is.read) refl) push (λ h. is.within (there.within h))
