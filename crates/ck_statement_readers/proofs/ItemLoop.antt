-- The loop over the items of a block, and one item.
use Rattle.std.proofs.Common.{◌≡◌, ℕ, true, false, ◌&&◌, not, List, drop, refl}
use Rattle.std.specs.Prelude.{None}
use Rattle.ck_base.specs.declared.tokens.Token.{Token}
use Rattle.ck_grammar.specs.Readers.{Reader}
use Rattle.ck_grammar.specs.ReadingStatements.{is_label, item, item_loop}
use Rattle.ck_grammar.specs.ReadingTypes.{begins_with}
use Rattle.ck_grammar.specs.Statements.{Declaration, Statement, BlockItems, NoBlockItems, DeclarationItem}
use Rattle.ck_grammar.specs.Statements.{StatementItem}
use Rattle.ck_grammar.specs.Words.{Word, begins_specifiers}
use Rattle.ck_readers.proofs.Loops.{IsLoop}
use Rattle.ck_readers.specs.Places.{IsRead, IsStep}
use Rattle.ck_statement_trees.proofs.Wholes.{pushed}

module _ (w : Token → Word) (d : Reader Declaration) (s : Reader Statement) where
  pub items_go : IsLoop NoBlockItems (item w d s) (item_loop w d s)
  items_go = record { stops = λ ts. refl; goes = λ fuel ts. refl }

  module _ (tokens : List Token) (at : ℕ) where
    pub no_declaration : (begins_with w begins_specifiers (drop at tokens) && not (is_label w (drop at tokens))) ≡ true
        → d (drop at tokens) ≡ None → (go : List Token → BlockItems × List Token)
        → item w d s go (drop at tokens) ≡ None
    no_declaration begins none go = rw (begins, none) refl

    pub no_statement : (begins_with w begins_specifiers (drop at tokens) && not (is_label w (drop at tokens))) ≡ false
        → s (drop at tokens) ≡ None → (go : List Token → BlockItems × List Token)
        → item w d s go (drop at tokens) ≡ None
    no_statement begins none go = rw (begins, none) refl

    pub declaration_pushed : {X : Type 0} (old new : BlockItems → BlockItems) (view : X → Declaration) (found : X × ℕ)
        → (begins_with w begins_specifiers (drop at tokens) && not (is_label w (drop at tokens))) ≡ true
        → IsRead view d tokens at found
        → ((rest : BlockItems) → new rest ≡ old (DeclarationItem (view found.0) rest))
        → IsStep old new (item w d s) tokens at found.1
    declaration_pushed old new view found begins is push =
        pushed old new (DeclarationItem (view found.0)) (item w d s) tokens at found.1
        (λ go. rw (begins, is.read) refl) push is.within

    pub statement_pushed : {X : Type 0} (old new : BlockItems → BlockItems) (view : X → Statement) (found : X × ℕ)
        → (begins_with w begins_specifiers (drop at tokens) && not (is_label w (drop at tokens))) ≡ false
        → IsRead view s tokens at found
        → ((rest : BlockItems) → new rest ≡ old (StatementItem (view found.0) rest))
        → IsStep old new (item w d s) tokens at found.1
    statement_pushed old new view found begins is push =
        pushed old new (StatementItem (view found.0)) (item w d s) tokens at found.1
        (λ go. rw (begins, is.read) refl) push is.within
