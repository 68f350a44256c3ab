-- Loops and blocks from what their parts read.
use Rattle.std.proofs.Common.{◌≡◌, ℕ, List, drop, refl, ap, sym, ◌∙◌}
use Rattle.std.specs.Prelude.{Some, None, codes}
use Rattle.ck_base.specs.declared.tokens.Token.{Token}
use Rattle.ck_grammar.specs.Levels.{Level, comma}
use Rattle.ck_grammar.specs.Readers.{Read, Reader, ◌>>=◌, mark}
use Rattle.ck_grammar.specs.ReadingStatements.{controlling, statement_by}
use Rattle.ck_grammar.specs.Statements.{Declaration, Statement, BlockItems, NoBlockItems, Block, Do}
use Rattle.ck_grammar.specs.Trees.{Expr}
use Rattle.ck_grammar.specs.Words.{Word}
use Rattle.ck_grammar.specs.declared.classes.Phrase.TheVariants as phrases
use Rattle.ck_readers.specs.Places.{IsRead, IsRow, itself}
use Rattle.ck_readers.specs.SourceView.{text_mark}
use Rattle.ck_statement_readers.specs.Parts.{IsPart}
use Rattle.ck_statement_readers.specs.Steps.{head_of_for, items_from}
use Rattle.ck_statement_trees.specs.Parts.{ForHead, for_statement}

module _ (w : Token → Word) (inner : Level → Reader Expr) (d : Reader Declaration) (s : Reader Statement)
    (keyword : Token) (tokens : List Token) (at : ℕ) where
  -- `{` items `}`
  module _ {R : Type 0} (rows : R → BlockItems → BlockItems) (items : R × ℕ)
      (row : IsRow (λ r. rows r NoBlockItems) (items_from w d s) tokens at items) where
    abbrev block_by : BlockItems × List Token → Read Statement
    block_by x = mark w "}" x.1 >>= (λ y. Some (Block keyword x.0 y.0, y.1))

    pub unclosed : text_mark w (codes "}") (drop items.1 tokens) ≡ None
        → statement_by w inner d s phrases.Block keyword (drop at tokens) ≡ None
    unclosed none =
        ap block_by row.read
        ∙ ap (λ read. read >>= (λ y. Some (Block keyword (rows items.0 NoBlockItems) y.0, y.1))) none

    pub block_read : {X : Type 0} (view : X → Statement) (closing : Token × ℕ) (tree : X)
        → IsRead itself (text_mark w (codes "}")) tokens items.1 closing
        → view tree ≡ Block keyword (rows items.0 NoBlockItems) closing.0
        → IsRead view (statement_by w inner d s phrases.Block keyword) tokens at (tree, closing.1)
    block_read view closing tree there made = record {
      read =
          ap block_by row.read
          ∙ ap (λ read. read >>= (λ y. Some (Block keyword (rows items.0 NoBlockItems) y.0, y.1))) there.read
          ∙ ap (λ t. Some (t, drop closing.1 tokens)) (sym made);
      within = λ h. there.within (row.within h);
    }

  -- `do` statement `while` `(` expression `)` `;`
  module _ {X : Type 0} (view : X → Statement) (body : X × ℕ) (while_ : Token × ℕ)
      (first : IsRead view s tokens at body) (there : IsRead itself (text_mark w (codes "while")) tokens body.1 while_)
    where
      abbrev do_by : Read (Token × Expr × Token) → Read Statement
      do_by read =
          read >>= (λ x. mark w ";" x.1 >>= (λ y. Some (Do keyword (view body.0) while_.0 x.0.0 x.0.1 x.0.2 y.0, y.1)))

      abbrev do_end : Token × Expr × Token → Read Token → Read Statement
      do_end test read = read >>= (λ y. Some (Do keyword (view body.0) while_.0 test.0 test.1 test.2 y.0, y.1))

      do_is : statement_by w inner d s phrases.Do keyword (drop at tokens)
          ≡ do_by (controlling w (inner comma) (drop while_.1 tokens))
      do_is = rw (first.read, there.read) refl

      pub do_untested : controlling w (inner comma) (drop while_.1 tokens) ≡ None
          → statement_by w inner d s phrases.Do keyword (drop at tokens) ≡ None
      do_untested none = do_is ∙ ap do_by none

      pub do_unended : (x : (Token × Expr × Token) × List Token)
          → controlling w (inner comma) (drop while_.1 tokens) ≡ Some x → text_mark w (codes ";") x.1 ≡ None
          → statement_by w inner d s phrases.Do keyword (drop at tokens) ≡ None
      do_unended x read none = do_is ∙ ap do_by read ∙ ap (do_end x.0) none

      pub do_read : {C : Type 0} (test : C → Token × Expr × Token) (found : C × ℕ) (semicolon : Token × ℕ) (tree : X)
          → IsRead test (controlling w (inner comma)) tokens while_.1 found
          → IsRead itself (text_mark w (codes ";")) tokens found.1 semicolon
          → view tree ≡ Do keyword (view body.0) while_.0 (test found.0).0 (test found.0).1 (test found.0).2 semicolon.0
          → IsRead view (statement_by w inner d s phrases.Do keyword) tokens at (tree, semicolon.1)
      do_read test found semicolon tree second third made = record {
        read =
            do_is ∙ ap do_by second.read ∙ ap (do_end (test found.0)) third.read
            ∙ ap (λ t. Some (t, drop semicolon.1 tokens)) (sym made);
        within = λ h. third.within (second.within (there.within (first.within h)));
      }

  -- after the head of `for`: a statement
  abbrev pub for_body : ForHead → Reader Statement
  for_body head ts = s ts >>= (λ x. Some (for_statement keyword head x.0, x.1))

  for_is : (ts : List Token)
      → statement_by w inner d s phrases.For keyword ts ≡ head_of_for w (inner comma) d for_body ts
  for_is ts = refl

  pub headless : ((go : ForHead → Reader Statement) → head_of_for w (inner comma) d go (drop at tokens) ≡ None)
      → statement_by w inner d s phrases.For keyword (drop at tokens) ≡ None
  headless none = for_is (drop at tokens) ∙ none for_body

  module _ {H : Type 0} (head : H → ForHead) (found : H × ℕ)
      (part : IsPart head (head_of_for w (inner comma) d) tokens at found) where
    pub bodiless : s (drop found.1 tokens) ≡ None → statement_by w inner d s phrases.For keyword (drop at tokens) ≡ None
    bodiless none =
        for_is (drop at tokens) ∙ part.read for_body
        ∙ ap (λ read. read >>= (λ x. Some (for_statement keyword (head found.0) x.0, x.1))) none

    pub for_read : {X : Type 0} (view : X → Statement) (body : X × ℕ) (tree : X) → IsRead view s tokens found.1 body
        → view tree ≡ for_statement keyword (head found.0) (view body.0)
        → IsRead view (statement_by w inner d s phrases.For keyword) tokens at (tree, body.1)
    for_read view body tree second made = record {
      read =
          for_is (drop at tokens) ∙ part.read for_body
          ∙ ap (λ read. read >>= (λ x. Some (for_statement keyword (head found.0) x.0, x.1))) second.read
          ∙ ap (λ t. Some (t, drop body.1 tokens)) (sym made);
      within = λ h. second.within (part.within h);
    }
