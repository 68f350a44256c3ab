-- What the readers of lists answer: of an expression the longest at the front of the tokens, of a file the one that
-- they spell.
use Rattle.std.specs.Prelude.{◌≡◌, ℕ, ◌≤◌, List, length, Option, Some, None}
use Rattle.ck_base.specs.declared.tokens.Token.{Token}
use Rattle.ck_grammar.specs.Fitting.{Fits}
use Rattle.ck_grammar.specs.Levels as level
use Rattle.ck_grammar.specs.Nesting.{nesting}
use Rattle.ck_grammar.specs.Readers.{Read}
use Rattle.ck_grammar.specs.Reading.{expr_at}
use Rattle.ck_grammar.specs.ReadingStatements.{file_at}
use Rattle.ck_grammar.specs.Spelling.{most, SpellsFile}
use Rattle.ck_grammar.specs.Statements.{External}
use Rattle.ck_grammar.specs.Trees.{Expr}
use Rattle.ck_grammar.specs.Words.{word_of}
use Rattle.ck_grammar.specs.Written.{written}

-- the tree is written at the front of these tokens, and these are after it
pub record Begins (e : Expr) (rest : List Token) (bytes : List ℕ) (tokens : List Token)
    (typedefs : List (List ℕ)) : Type 0 where
  pub tokens_are : written e rest ≡ tokens
  pub fits : Fits (word_of bytes typedefs) e
  pub nests : nesting e ≤ most

-- and no tree at the front is longer: none leaves fewer tokens after it
pub record IsLongest (e : Expr) (rest : List Token) (bytes : List ℕ) (tokens : List Token)
    (typedefs : List (List ℕ)) : Type 0 where
  pub begins : Begins e rest bytes tokens typedefs
  pub longest : (f : Expr) (more : List Token) → Begins f more bytes tokens typedefs → length rest ≤ length more

-- no tokens have two longest expressions at the front
abbrev pub OneLongest : Type 0
OneLongest = (bytes : List ℕ) (typedefs : List (List ℕ)) (tokens : List Token) (e f : Expr) (rest more : List Token)
    → IsLongest e rest bytes tokens typedefs → IsLongest f more bytes tokens typedefs → (e ≡ f) × (rest ≡ more)

-- a reader's answer is the longest expression at the front of the tokens and the tokens after it, or nothing where no
-- expression is at the front
abbrev pub AnswersLongest : List ℕ → List Token → List (List ℕ) → Read Expr → Type 0
AnswersLongest bytes tokens typedefs None = (f : Expr) (more : List Token) → Begins f more bytes tokens typedefs → ⊥
AnswersLongest bytes tokens typedefs (Some x) = IsLongest x.0 x.1 bytes tokens typedefs

-- the reader of expressions answers so, on all tokens
abbrev pub ReadsExpressions : Type 0
ReadsExpressions = (bytes : List ℕ) (typedefs : List (List ℕ)) (tokens : List Token)
    → AnswersLongest bytes tokens typedefs (expr_at (word_of bytes typedefs) most level.comma tokens)

-- a reader's answer is the file that the tokens spell, or nothing where they spell none
abbrev pub AnswersFile : List ℕ → List Token → Option (List External) → Type 0
AnswersFile bytes tokens None = (xs : List External) → SpellsFile xs bytes tokens → ⊥
AnswersFile bytes tokens (Some xs) = SpellsFile xs bytes tokens

-- the reader of files answers so, on all tokens
abbrev pub ReadsFiles : Type 0
ReadsFiles = (bytes : List ℕ) (tokens : List Token) → AnswersFile bytes tokens (file_at bytes tokens)
