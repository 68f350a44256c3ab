-- The loops of the readers of expressions.
use Rattle.std.proofs.Common.{◌≡◌, ℕ, suc, ◌+◌, ◌<◌, ◌≤◌, List, [], ◌∷◌, ◌++◌, length, drop, refl, ap, sym}
use Rattle.std.proofs.Common.{◌∙◌, add-one}
use Rattle.std.proofs.Common.{append_assoc, append-nil, arith}
use Rattle.std.specs.Prelude.{Some, None}
use Rattle.ck_base.specs.declared.tokens.Token.{Token}
use Rattle.ck_grammar.specs.Levels.{Level}
use Rattle.ck_grammar.specs.Readers.{Reader, onto, or_else}
use Rattle.ck_grammar.specs.ReadingExpressions.{neighbours, operand_loop, suffix_loop}
use Rattle.ck_grammar.specs.Trees.{Expr, NoOperands, NoSuffixes}
use Rattle.ck_grammar.specs.Words.{Word}
use Rattle.ck_readers.proofs.LookLemmas.{past_all, got_none}
use Rattle.ck_readers.proofs.Loops.{IsLoop}
use Rattle.ck_readers.specs.Places.{IsRow}
use Rattle.ck_readers.specs.SourceView.{LiteralAt}
use Rattle.ck_readers.specs.Steps.{operand_step, suffix_step}

module _ (w : Token → Word) where
  pub operand_loop_is : (operand : Reader Expr) (k : Level)
      → IsLoop NoOperands (operand_step w operand k) (operand_loop w operand k)
  operand_loop_is operand k = record { stops = λ ts. refl; goes = λ fuel ts. refl }

  suffix_loop-goes : (expr : Level → Reader Expr) (fuel : ℕ) (ts : List Token)
      → suffix_loop w expr (suc fuel) ts ≡ or_else (NoSuffixes, ts) (suffix_step w expr (suffix_loop w expr fuel) ts)
  suffix_loop-goes expr fuel [] = refl
  suffix_loop-goes expr fuel (t ∷ ts) = refl

  pub suffix_loop_is : (expr : Level → Reader Expr)
      → IsLoop NoSuffixes (suffix_step w expr) (suffix_loop w expr)
  suffix_loop_is expr = record { stops = λ ts. refl; goes = suffix_loop-goes expr }

  -- string literals so far
  pub record Literals (row : List Token) (tokens : List Token) (at next : ℕ) : Type 0 where
    pub read : neighbours w (drop at tokens) ≡ onto (◌++◌ row) (neighbours w (drop next tokens))

  pub literals_start : (row tokens : List Token) (at : ℕ) → row ≡ [] → Literals row tokens at at
  literals_start row tokens at empty = record {
    read = ap (λ r. onto (◌++◌ r) (neighbours w (drop at tokens))) (sym empty);
  }

  pub literals_step : (old new tokens : List Token) (at next : ℕ) (t : Token) → Literals old tokens at next
      → LiteralAt w tokens next (Some t) → new ≡ old ++ (t ∷ []) → Literals new tokens at (next + 1)
  literals_step old new tokens at next t far literal pushed =
      let all = neighbours w (drop (suc next) tokens) in
      record {
        read =
            far.read ∙ ap (onto (◌++◌ old)) literal
            ∙ ap (λ ts. (ts, all.1)) (sym (append_assoc old (t ∷ []) all.0) ∙ ap (λ r. r ++ all.0) (sym pushed))
            ∙ ap (λ n. onto (◌++◌ new) (neighbours w (drop n tokens))) (sym (add-one next));
      }

  pub literals_stop : {X : Type 0} (view : X → List Token) (x : X) (tokens : List Token) (at next : ℕ)
      → Literals (view x) tokens at next → LiteralAt w tokens next None → next < length tokens
      → IsRow view (neighbours w) tokens at (x, next)
  literals_stop view x tokens at next far none below = record {
    read =
        far.read ∙ ap (onto (◌++◌ (view x))) none ∙ ap (λ ts. (ts, drop next tokens)) (append-nil (view x));
    within = λ h. omega arith;
  }

  pub literals_end : {X : Type 0} (view : X → List Token) (x : X) (tokens : List Token) (at next : ℕ)
      → Literals (view x) tokens at next → length tokens ≤ next
      → IsRow view (neighbours w) tokens at (x, length tokens)
  literals_end view x tokens at next far past =
      let none : drop next tokens ≡ [] = past_all tokens next (got_none tokens next past) in
      let all : drop (length tokens) tokens ≡ [] =
      past_all tokens (length tokens) (got_none tokens (length tokens) (omega arith)) in
      record {
        read =
            far.read ∙ ap (λ ts. onto (◌++◌ (view x)) (neighbours w ts)) none
            ∙ ap (λ ts. (ts, [])) (append-nil (view x))
            ∙ ap (λ ts. (view x, ts)) (sym all);
        within = λ h. omega arith;
      }
