-- From what parts read to what the whole reads.
use Rattle.std.proofs.Common.{◌≡◌, ℕ, zero, suc, ◌+◌, ◌≤◌, Bool, true, false, List, ◌∷◌, length, drop, refl, ap, sym}
use Rattle.std.proofs.Common.{subst, ◌∙◌, add-one, arith}
use Rattle.std.specs.Prelude.{Option, Some, None, Result, Ok, Err, if◌then◌else◌}
use Rattle.ck_base.specs.declared.refusals.OutOfMemory.{OutOfMemory}
use Rattle.ck_base.specs.declared.tokens.Token.{Token}
use Rattle.ck_grammar.specs.Levels.{Level}
use Rattle.ck_grammar.specs.Readers.{Reader}
use Rattle.ck_grammar.specs.ReadingExpressions.{begins_operand, opens_type, suffix_by, unary, cast, operand_loop}
use Rattle.ck_grammar.specs.ReadingExpressions.{has_operand, chained, level_reader, more, primary_by, postfix}
use Rattle.ck_grammar.specs.ReadingExpressions.{postfix_after}
use Rattle.ck_grammar.specs.Trees.{Expr, Operands, Suffixes, Chain, Specifiers, Declarator}
use Rattle.ck_grammar.specs.Words.{Word}
use Rattle.ck_grammar.specs.declared.classes.Follow.TheVariants as follows
use Rattle.ck_grammar.specs.declared.classes.Lead.{Lead}
use Rattle.ck_readers.specs.Places.{IsRead, FoundAt, ReadAt, IsRow, IsTold}
use Rattle.ck_readers.specs.Steps.{arguments, no_arguments}

-- what one reader reads, another reads that reads the same there
pub read_same : {X B : Type 0} (view : X → B) (reader other : Reader B) (tokens : List Token) (at : ℕ)
    (result : Result (Option (X × ℕ)) OutOfMemory) → reader (drop at tokens) ≡ other (drop at tokens)
    → ReadAt view reader tokens at result → ReadAt view other tokens at result
read_same view reader other tokens at (Ok None) same h = sym same ∙ h
read_same view reader other tokens at (Ok (Some found)) same h =
    record { read = sym same ∙ h.read; within = h.within }
read_same view reader other tokens at (Err e) same h = tt

-- a reader that goes by what its first token is to a question
pub read_first : {X B C : Type 0} (view : X → B) (question : Token → C) (by : C → Token → Reader B) (reader : Reader B)
    (tokens : List Token) (at : ℕ) (found : Token × C × ℕ) (result : Result (Option (X × ℕ)) OutOfMemory)
    → IsTold question tokens at found
    → ((t : Token) (ts : List Token) → reader (t ∷ ts) ≡ by (question t) t ts)
    → ReadAt view (by found.1 found.0) tokens found.2 result → ReadAt view reader tokens at result
read_first view question by reader tokens at found (Ok None) told same h =
    ap reader told.token ∙ same found.0 (drop found.2 tokens)
    ∙ ap (λ c. by c found.0 (drop found.2 tokens)) (sym told.told) ∙ h
read_first view question by reader tokens at found (Ok (Some x)) told same h = record {
  read =
      ap reader told.token ∙ same found.0 (drop found.2 tokens)
      ∙ ap (λ c. by c found.0 (drop found.2 tokens)) (sym told.told) ∙ h.read;
  within = λ some. h.within told.within;
}
read_first view question by reader tokens at found (Err e) told same h = tt

-- an answer by cases, where the case is known
pub found_none : {X B : Type 0} (view : X → B) (reader : Reader B) (tokens : List Token) (at : ℕ)
    (found : Option (X × ℕ)) → found ≡ None → FoundAt view reader tokens at found → reader (drop at tokens) ≡ None
found_none view reader tokens at found is h = subst (FoundAt view reader tokens at) is h

pub found_some : {X B : Type 0} (view : X → B) (reader : Reader B) (tokens : List Token) (at : ℕ)
    (found : Option (X × ℕ)) (x : X × ℕ) → found ≡ Some x → FoundAt view reader tokens at found
    → IsRead view reader tokens at x
found_some view reader tokens at found x is h = subst (FoundAt view reader tokens at) is h

module _ (w : Token → Word) where
  pub call_is : (inner : Level → Reader Expr) (go : List Token → Suffixes × List Token) (t : Token) (ts : List Token)
      → begins_operand w ts ≡ true
      → arguments w inner go t ts ≡ suffix_by w inner go follows.Parenthesis t ts
  call_is inner go t ts is =
      ap (λ b. if b then arguments w inner go t ts else no_arguments w go t ts) (sym is)

  pub cast_is : (inner : Level → Reader Expr) (ty : Reader (Specifiers × Declarator)) (n : ℕ) (ts : List Token)
      → opens_type w ts ≡ false → unary w inner ty n ts ≡ cast w inner ty n ts
  cast_is inner ty n ts is = rw is refl

  pub postfix_none : (inner : Level → Reader Expr) (n : ℕ) (lead : Lead) (t : Token) (ts : List Token)
      → primary_by w inner lead t ts ≡ None → postfix w inner n lead t ts ≡ None
  postfix_none inner n lead t ts is = rw is refl

  pub postfix_some : {X : Type 0} (view : X → Expr) (inner : Level → Reader Expr) (n : ℕ) (lead : Lead) (t : Token)
      (tokens : List Token) (at : ℕ) (found all : X × ℕ) → IsRead view (primary_by w inner lead t) tokens at found
      → IsRow view (postfix_after w inner n (view found.0)) tokens found.1 all
      → IsRead view (postfix w inner n lead t) tokens at all
  postfix_some view inner n lead t tokens at found all first rest = record {
    read = rw first.read (ap Some rest.read);
    within = λ h. rest.within (first.within h);
  }

  pair_if : (b : Bool) (e f : Expr) (ts : List Token)
      → ◌≡◌ {A = Expr × List Token} (if b then (e, ts) else (f, ts)) (if b then e else f, ts)
  pair_if true e f ts = refl
  pair_if false e f ts = refl

  pub chain_read : {X Y : Type 0} (view : X → Expr) (row : Y → Operands) (operand : Reader Expr) (tighter k : Level)
      (tokens : List Token) (at : ℕ) (first : Expr) (r : Y) (x : X) (next : ℕ) → k ≡ suc tighter
      → IsRow row (λ ts. operand_loop w operand k (length ts) ts) tokens at (r, next)
      → view x ≡ (if has_operand (row r) then Chain first (row r) else first)
      → IsRow view (λ ts. chained first (operand_loop w operand (suc tighter) (length ts) ts)) tokens at (x, next)
  chain_read view row operand tighter k tokens at first r x next is loop made = record {
    read =
        ap (λ n. chained first (operand_loop w operand n (length (drop at tokens)) (drop at tokens))) (sym is)
        ∙ ap (chained first) loop.read
        ∙ pair_if (has_operand (row r)) (Chain first (row r)) first (drop next tokens)
        ∙ ap (λ e. (e, drop next tokens)) (sym made);
    within = loop.within;
  }

  module _ (inner : Level → Reader Expr) (ty : Reader (Specifiers × Declarator)) (n : ℕ) where
    pub level_none : (k : Level) (ts : List Token) → cast w inner ty n ts ≡ None → level_reader w inner ty n k ts ≡ None
    level_none zero ts is = is
    level_none (suc k) ts is = rw (level_none k ts is) refl

    pub level_step : {X : Type 0} (view : X → Expr) (k : Level) (tokens : List Token) (at : ℕ) (found all : X × ℕ)
        → IsRead view (level_reader w inner ty n k) tokens at found
        → IsRow view (more w inner n k (view found.0)) tokens found.1 all
        → IsRead view (level_reader w inner ty n (k + 1)) tokens at all
    level_step view k tokens at found all so_far more_ = record {
      read =
          ap (λ l. level_reader w inner ty n l (drop at tokens)) (add-one k)
          ∙ rw so_far.read (ap Some more_.read);
      within = λ h. more_.within (so_far.within h);
    }

    pub level_end : {X : Type 0} (view : X → Expr) (k of : Level) (tokens : List Token) (at : ℕ) (found : X × ℕ)
        → of ≤ k → k ≤ of → IsRead view (level_reader w inner ty n k) tokens at found
        → IsRead view (level_reader w inner ty n of) tokens at found
    level_end view k of tokens at found least most h =
        let same : k ≡ of = omega arith in
        subst (λ l. IsRead view (level_reader w inner ty n l) tokens at found) same h
