-- The longest expression at the front of tokens is read: by how deep it nests.
use Rattle.std.proofs.Common.{◌≡◌, ℕ, zero, suc, ◌≤◌, true, List, length, Some, None, refl, subst, arith}
use Rattle.ck_base.specs.declared.tokens.Token.{Token}
use Rattle.ck_grammar.proofs.ExpressionsComplete.{all_read, type_name_read, nests_once}
use Rattle.ck_grammar.proofs.ReadersSound.{all_sound, type_name_sound}
use Rattle.ck_grammar.proofs.CastsComplete.{ReadsTypes}
use Rattle.ck_grammar.proofs.ExpressionsSound.{SoundTypes, IsExpr, IsUnary, unary_sound}
use Rattle.ck_grammar.proofs.Levels.{loosest}
use Rattle.ck_grammar.proofs.LongestReached.{Reaches, ReachesExprs, UnaryReads, level_reach}
use Rattle.ck_grammar.proofs.ReaderAnswers.{OnRead}
use Rattle.ck_grammar.proofs.TypeStops.{type_opens}
use Rattle.ck_grammar.specs.Answers.{Begins, AnswersLongest, ReadsExpressions}
use Rattle.ck_grammar.specs.Fitting.{Fits, is_unary, NoName}
use Rattle.ck_grammar.specs.Nesting.{nesting}
use Rattle.ck_grammar.specs.Readers.{Read, Reader}
use Rattle.ck_grammar.specs.Reading.{expr_at, specifiers_at, declarator_at, type_name}
use Rattle.ck_grammar.specs.ReadingExpressions.{unary}
use Rattle.ck_grammar.specs.Specified.{InType}
use Rattle.ck_grammar.specs.Spelling.{most}
use Rattle.ck_grammar.specs.Trees.{Expr, Specifiers, Declarator}
use Rattle.ck_grammar.specs.Words.{Word, word_of}
use Rattle.ck_grammar.specs.Written.{written}

-- the type names inside
abbrev types_at : (Token → Word) → ℕ → Reader (Specifiers × Declarator)
types_at w n = type_name (specifiers_at w n InType) (declarator_at w n NoName)

types_read : (w : Token → Word) (n : ℕ) → ReadsTypes w n (types_at w n)
types_read w n = type_name_read w n (specifiers_at w n InType) (declarator_at w n NoName) ((all_read w n).specs InType)
    ((all_read w n).decls NoName)

types_sound : (w : Token → Word) (n : ℕ) → SoundTypes w n (types_at w n)
types_sound w n = type_name_sound w n (specifiers_at w n InType) (declarator_at w n NoName)
    ((all_sound w n).specs InType) ((all_sound w n).decls NoName)

is_unary_read : (w : Token → Word) (n : ℕ) (ts : List Token) (read : Read Expr) → OnRead (IsUnary w n ts) read
    → OnRead (λ e r. is_unary e ≡ true) read
is_unary_read w n ts None h = tt
is_unary_read w n ts (Some x) h = h.good.2

unary_reads : (w : Token → Word) (n : ℕ) → UnaryReads w (expr_at w n)
unary_reads w zero ts shut = tt
unary_reads w (suc n) ts shut =
    rw shut (is_unary_read w (suc n) ts (unary w (expr_at w n) (types_at w n) n ts)
    (unary_sound w (expr_at w n) (types_at w n) n (all_sound w n).exprs (types_sound w n) ts))

pub all_reach : (w : Token → Word) (n : ℕ) → ReachesExprs w n (expr_at w n)
all_reach w zero = λ j le e more h nests low. absurd (nests_once e nests)
all_reach w (suc n) = level_reach w (expr_at w n) (types_at w n) n (all_read w n).exprs (all_sound w n).exprs
    (types_sound w n) (all_reach w n) (unary_reads w n) (types_read w n) (type_opens w)

-- an answer that leaves no more than so many tokens
pub record Answers (read : Read Expr) (k : ℕ) : Type 0 where
  pub tree : Expr
  pub rest : List Token
  pub is : read ≡ Some (tree, rest)
  pub at_least_as_long : length rest ≤ k

answered : (read : Read Expr) (k : ℕ) → Reaches k read → Answers read k
answered None k h = absurd h
answered (Some x) k h = record { tree = x.0; rest = x.1; is = refl; at_least_as_long = h }

reached : (bytes : List ℕ) (typedefs : List (List ℕ)) (tokens more : List Token) (e : Expr)
    → Fits (word_of bytes typedefs) e → nesting e ≤ most → written e more ≡ tokens
    → Reaches (length more) (expr_at (word_of bytes typedefs) most 13 tokens)
reached bytes typedefs tokens more e h nests same =
    subst (λ ts. Reaches (length more) (expr_at (word_of bytes typedefs) most 13 ts)) same
    (all_reach (word_of bytes typedefs) most 13 (omega arith) e more h nests (loosest (word_of bytes typedefs) e h))

-- where an expression is at the front, one at least as long is read
pub longest_read : (bytes : List ℕ) (typedefs : List (List ℕ)) (tokens more : List Token) (e : Expr)
    → Fits (word_of bytes typedefs) e → nesting e ≤ most → written e more ≡ tokens
    → Answers (expr_at (word_of bytes typedefs) most 13 tokens) (length more)
longest_read bytes typedefs tokens more e h nests same = answered (expr_at (word_of bytes typedefs) most 13 tokens)
    (length more) (reached bytes typedefs tokens more e h nests same)

answers_longest : (bytes : List ℕ) (typedefs : List (List ℕ)) (tokens : List Token) (read : Read Expr)
    → OnRead (IsExpr (word_of bytes typedefs) most 13 tokens) read
    → ((f : Expr) (more : List Token) → Begins f more bytes tokens typedefs → Reaches (length more) read)
    → AnswersLongest bytes tokens typedefs read
answers_longest bytes typedefs tokens None is reach = reach
answers_longest bytes typedefs tokens (Some x) is reach =
    record { begins = record { tokens_are = is.tokens_are; fits = is.good.0; nests = is.good.1 }; longest = reach }

pub reads_expressions : ReadsExpressions
reads_expressions bytes typedefs tokens =
    answers_longest bytes typedefs tokens (expr_at (word_of bytes typedefs) most 13 tokens)
    ((all_sound (word_of bytes typedefs) most).exprs 13 (omega arith) tokens)
    (λ f more b. reached bytes typedefs tokens more f b.fits b.nests b.tokens_are)
