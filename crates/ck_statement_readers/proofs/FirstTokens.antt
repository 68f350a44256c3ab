-- A statement by what its first token begins.
use Rattle.std.proofs.Common.{◌≡◌, ℕ, true, false, ◌&&◌, List, ◌∷◌, drop, refl, sym}
use Rattle.ck_base.specs.declared.tokens.Token.{Token}
use Rattle.ck_grammar.specs.Levels.{Level, comma}
use Rattle.ck_grammar.specs.Readers.{Reader, is_at}
use Rattle.ck_grammar.specs.ReadingStatements.{expression_statement, read_statement, statement_by}
use Rattle.ck_grammar.specs.Statements.{Declaration, Statement}
use Rattle.ck_grammar.specs.Trees.{Expr}
use Rattle.ck_grammar.specs.Words.{Word}
use Rattle.ck_grammar.specs.Phrases.{phrase}
use Rattle.ck_grammar.specs.declared.classes.Phrase.{Phrase}
use Rattle.ck_grammar.specs.declared.classes.Phrase.TheVariants.{Name, Other}
use Rattle.ck_readers.specs.Places.{IsTold}
use Rattle.ck_statement_readers.specs.Steps.{label_after}
use Rattle.ck_statement_readers.specs.Views.{begins_expr, is_name_phrase}

module _ (w : Token → Word) (e : Level → Reader Expr) (d : Reader Declaration) (s : Reader Statement) where
  pub first_is : (tokens : List Token) (at : ℕ) (found : Token × Phrase × ℕ)
      → IsTold (λ t. phrase (w t)) tokens at found
      → read_statement w e d s (drop at tokens) ≡ statement_by w e d s found.1 found.0 (drop found.2 tokens)
  first_is tokens at found told = rw (told.token, sym told.told) refl

  pub label_is : (p : Phrase) (t : Token) (ts : List Token) → (is_name_phrase p && is_at w ":" ts) ≡ true
      → statement_by w e d s p t ts ≡ label_after w s t ts
  label_is Name t ts h = rw h refl
  label_is _ t ts h = absurd (cc)

  pub expr_is : (p : Phrase) (t : Token) (ts : List Token) → (is_name_phrase p && is_at w ":" ts) ≡ false
      → begins_expr p ≡ true → statement_by w e d s p t ts ≡ expression_statement w (e comma) (t ∷ ts)
  expr_is Name t ts h b = rw h refl
  expr_is Other t ts h b = refl
  expr_is _ t ts h b = absurd (cc)
