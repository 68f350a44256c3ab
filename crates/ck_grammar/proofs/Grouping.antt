-- How worked texts are stated: a text is written with one blank between two tokens, and what the reader reads of it is
-- shown with each expression of operators in braces and each statement between `begin` and `end`. So
-- `a + { b * c }` in a shown expression tells which operands `+` and `*` have.
use Rattle.std.specs.Prelude.{◌≡◌, ℕ, ◌+◌, suc, Bool, true, false, ◌||◌, List, [], ◌∷◌, length, Option, Some, None}
use Rattle.std.specs.Prelude.{codes}
use Rattle.std.specs.Prelude.{if◌then◌else◌, is_some}
use Rattle.ck_base.specs.Characters.{◌∈◌, ◌∈range◌}
use Rattle.ck_base.specs.TokenText.{text_of}
use Rattle.ck_base.specs.declared.tokens.Token.{Token}
use Rattle.ck_base.specs.declared.tokens.TokenKind.{TokenKind}
use Rattle.ck_base.specs.declared.tokens.TokenKind.TheVariants as kinds
use Rattle.ck_grammar.specs.Levels as level
use Rattle.ck_grammar.specs.Readers.{Read, ◌>>=◌}
use Rattle.ck_grammar.specs.Reading.{expr_at}
use Rattle.ck_grammar.specs.ReadingStatements.{statement_at, file_at}
use Rattle.ck_grammar.specs.Spelling.{most}
use Rattle.ck_grammar.specs.Statements.{Statement, BlockItems, ForStart, Declaration, External, StartEmpty, StartExpr}
use Rattle.ck_grammar.specs.Statements.{StartDeclaration, Block, Empty, ExpressionStatement, If, IfElse, Switch, While}
use Rattle.ck_grammar.specs.Statements.{Do}
use Rattle.ck_grammar.specs.Statements.{For, Case, Default, Label, Goto, Jump, Return, ReturnValue, NoBlockItems}
use Rattle.ck_grammar.specs.Statements.{DeclarationItem, StatementItem, FileDeclaration, FunctionDefinition}
use Rattle.ck_grammar.specs.StatementsWritten as written
use Rattle.ck_grammar.specs.Trees.{Expr, Operands, Suffixes, Name, Constant, Strings, Paren, Postfix, Unary, SizeofType}
use Rattle.ck_grammar.specs.Trees.{Cast, Chain, Conditional, Assignment, NoOperands, Operand, NoSuffixes, Index}
use Rattle.ck_grammar.specs.Trees.{CallEmpty, Call, MemberAccess, PostIncrement}
use Rattle.ck_grammar.specs.Words.{words, ◌∈words◌, word_of}
use Rattle.ck_grammar.specs.Written.{specifiers, declarator}
use Prim.Native.String.{String}

-- the kind of the token that a word is, by its first byte
abbrev kind_by : Bool → Bool → Bool → Bool → Bool → TokenKind
kind_by true name digit quote character = kinds.Key
kind_by false true digit quote character = kinds.Word
kind_by false false true quote character = kinds.Number
kind_by false false false true character = kinds.Text
kind_by false false false false true = kinds.Char
kind_by false false false false false = kinds.Mark

abbrev is_keyword : List ℕ → Bool
is_keyword text =
    text ∈words "auto break case char const continue default do else enum extern for goto if inline int long register"
    || text ∈words "restrict return short signed sizeof static struct switch typedef unsigned void volatile while _Bool"

abbrev kind_of : List ℕ → TokenKind
kind_of [] = kinds.Mark
kind_of (b ∷ rest) =
    kind_by (is_keyword (b ∷ rest)) (b ∈range "az" || b ∈range "AZ" || b ∈ "_") (b ∈range "09") (b ∈ "\"") (b ∈ "'")

-- the tokens that these words are, from a byte on
abbrev tokens_from : ℕ → List (List ℕ) → List Token
tokens_from start [] = []
tokens_from start (text ∷ texts) =
    record { kind = kind_of text; span = record { file = 0; start = start; end = start + length text } }
    ∷ tokens_from (suc (start + length text)) texts

abbrev pub tokens_of : String → List Token
tokens_of line = tokens_from 0 (words line)

module _ (text : Token → List ℕ) where
  abbrev texts : List Token → List (List ℕ)
  texts [] = []
  texts (t ∷ ts) = text t ∷ texts ts

  -- tokens before more words
  abbrev before : List Token → List (List ℕ) → List (List ℕ)
  before [] more = more
  before (t ∷ ts) more = text t ∷ before ts more

  -- expressions of operators in braces
  abbrev mutual
    grouped : Expr → List (List ℕ) → List (List ℕ)
    grouped (Name t) more = text t ∷ more
    grouped (Constant t) more = text t ∷ more
    grouped (Strings t ts) more = text t ∷ before ts more
    grouped (Paren opening e closing) more = text opening ∷ grouped e (text closing ∷ more)
    grouped (Postfix e suffixes) more = codes "{" ∷ grouped e (suffixed suffixes (codes "}" ∷ more))
    grouped (Unary op e) more = codes "{" ∷ text op ∷ grouped e (codes "}" ∷ more)
    grouped (SizeofType keyword opening s d closing) more =
        codes "{" ∷ before (keyword ∷ opening ∷ specifiers s (declarator d (closing ∷ []))) (codes "}" ∷ more)
    grouped (Cast opening s d closing e) more =
        codes "{" ∷ before (opening ∷ specifiers s (declarator d (closing ∷ []))) (grouped e (codes "}" ∷ more))
    grouped (Chain e ops) more = codes "{" ∷ grouped e (operated ops (codes "}" ∷ more))
    grouped (Conditional test question second colon third) more =
        codes "{" ∷ grouped test (text question ∷ grouped second (text colon ∷ grouped third (codes "}" ∷ more)))
    grouped (Assignment target op value) more =
        codes "{" ∷ grouped target (text op ∷ grouped value (codes "}" ∷ more))

    operated : Operands → List (List ℕ) → List (List ℕ)
    operated NoOperands more = more
    operated (Operand op e rest) more = text op ∷ grouped e (operated rest more)

    suffixed : Suffixes → List (List ℕ) → List (List ℕ)
    suffixed NoSuffixes more = more
    suffixed (Index opening e closing rest) more = text opening ∷ grouped e (text closing ∷ suffixed rest more)
    suffixed (CallEmpty opening closing rest) more = text opening ∷ text closing ∷ suffixed rest more
    suffixed (Call opening e ops closing rest) more =
        text opening ∷ grouped e (operated ops (text closing ∷ suffixed rest more))
    suffixed (MemberAccess t member rest) more = text t ∷ text member ∷ suffixed rest more
    suffixed (PostIncrement t rest) more = text t ∷ suffixed rest more

  abbrev started : ForStart → List (List ℕ) → List (List ℕ)
  started (StartEmpty semicolon) more = text semicolon ∷ more
  started (StartExpr e semicolon) more = grouped e (text semicolon ∷ more)
  started (StartDeclaration d) more = before (written.declaration d []) more

  abbrev maybe : Option Expr → List (List ℕ) → List (List ℕ)
  maybe None more = more
  maybe (Some e) more = grouped e more

  -- statements between `begin` and `end`, declarations as they are written
  abbrev mutual
    stated : Statement → List (List ℕ) → List (List ℕ)
    stated (Block opening items closing) more = text opening ∷ listed items (text closing ∷ more)
    stated (Empty semicolon) more = text semicolon ∷ more
    stated (ExpressionStatement e semicolon) more = grouped e (text semicolon ∷ more)
    stated (If keyword opening e closing s) more =
        text keyword ∷ text opening ∷ grouped e (text closing ∷ codes "begin" ∷ stated s (codes "end" ∷ more))
    stated (IfElse keyword opening e closing s else_ t) more =
        text keyword ∷ text opening ∷ grouped e
        (text closing ∷ codes "begin" ∷ stated s
        (codes "end" ∷ text else_ ∷ codes "begin" ∷ stated t (codes "end" ∷ more)))
    stated (Switch keyword opening e closing s) more =
        text keyword ∷ text opening ∷ grouped e (text closing ∷ codes "begin" ∷ stated s (codes "end" ∷ more))
    stated (While keyword opening e closing s) more =
        text keyword ∷ text opening ∷ grouped e (text closing ∷ codes "begin" ∷ stated s (codes "end" ∷ more))
    stated (Do keyword s while_ opening e closing semicolon) more =
        text keyword ∷ codes "begin" ∷ stated s
        (codes "end" ∷ text while_ ∷ text opening ∷ grouped e (text closing ∷ text semicolon ∷ more))
    stated (For keyword opening start e semicolon f closing s) more =
        text keyword ∷ text opening
        ∷ started start
        (maybe e (text semicolon ∷ maybe f (text closing ∷ codes "begin" ∷ stated s (codes "end" ∷ more))))
    stated (Case keyword e colon s) more =
        text keyword ∷ grouped e (text colon ∷ codes "begin" ∷ stated s (codes "end" ∷ more))
    stated (Default keyword colon s) more = text keyword ∷ text colon ∷ codes "begin" ∷ stated s (codes "end" ∷ more)
    stated (Label name colon s) more = text name ∷ text colon ∷ codes "begin" ∷ stated s (codes "end" ∷ more)
    stated (Goto keyword label semicolon) more = text keyword ∷ text label ∷ text semicolon ∷ more
    stated (Jump keyword semicolon) more = text keyword ∷ text semicolon ∷ more
    stated (Return keyword semicolon) more = text keyword ∷ text semicolon ∷ more
    stated (ReturnValue keyword e semicolon) more = text keyword ∷ grouped e (text semicolon ∷ more)

    listed : BlockItems → List (List ℕ) → List (List ℕ)
    listed NoBlockItems more = more
    listed (DeclarationItem d rest) more = before (written.declaration d []) (listed rest more)
    listed (StatementItem s rest) more = codes "begin" ∷ stated s (codes "end" ∷ listed rest more)

  -- declarations and function definitions, each between `begin` and `end`
  abbrev filed : List External → List (List ℕ)
  filed [] = []
  filed (FileDeclaration d ∷ xs) = codes "begin" ∷ before (written.declaration d []) (codes "end" ∷ filed xs)
  filed (FunctionDefinition s d opening items closing ∷ xs) =
      codes "begin" ∷ before (specifiers s (declarator d (opening ∷ [])))
      (listed items (text closing ∷ codes "end" ∷ filed xs))

-- what is read of these tokens is shown so, and no token is left
abbrev shown_whole : {A : Type 0} → (A → List (List ℕ)) → Read A → Option (List (List ℕ))
shown_whole show None = None
shown_whole show (Some (x, [])) = Some (show x)
shown_whole show (Some (x, t ∷ ts)) = None

-- the text, where these are the typedef names, is read as an expression that is shown so
abbrev pub Groups : List (List ℕ) → String → String → Type 0
Groups typedefs line shown =
    shown_whole (λ e. grouped (text_of (codes line)) e [])
    (expr_at (word_of (codes line) typedefs) most level.comma (tokens_of line))
    ≡ Some (words shown)

-- the text is read as a statement that is shown so
abbrev pub States : List (List ℕ) → String → String → Type 0
States typedefs line shown =
    shown_whole (λ s. stated (text_of (codes line)) s []) (statement_at (codes line) typedefs most (tokens_of line))
    ≡ Some (words shown)

-- the text is read as a file that is shown so
abbrev pub Files : String → String → Type 0
Files line shown =
    (file_at (codes line) (tokens_of line) >>= λ xs. Some (filed (text_of (codes line)) xs)) ≡ Some (words shown)

-- the text is read as a file, or as none
abbrev pub Accepts : String → Type 0
Accepts line = is_some (file_at (codes line) (tokens_of line)) ≡ true

abbrev pub Refuses : String → Type 0
Refuses line = file_at (codes line) (tokens_of line) ≡ None
