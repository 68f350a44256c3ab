-- How declarations, statements and files are read from a list of tokens (C99 6.7 to 6.9), by how deep they may nest.
use Rattle.std.specs.Prelude.{ℕ, ◌-◌, zero, suc, Bool, true, false, not, ◌&&◌, ◌||◌, List, [], ◌∷◌, length, Option}
use Rattle.std.specs.Prelude.{Some, None, codes, if◌then◌else◌}
use Rattle.ck_base.specs.declared.tokens.Token.{Token}
use Rattle.ck_grammar.specs.Fitting.{NewName}
use Rattle.ck_grammar.specs.Levels as level
use Rattle.ck_grammar.specs.Phrases.{Phrase, NamePhrase, BlockPhrase, EmptyPhrase, IfPhrase, SwitchPhrase, WhilePhrase}
use Rattle.ck_grammar.specs.Phrases.{DoPhrase, ForPhrase, CasePhrase, DefaultPhrase, GotoPhrase, JumpPhrase}
use Rattle.ck_grammar.specs.Phrases.{ReturnPhrase, OtherPhrase, phrase}
use Rattle.ck_grammar.specs.Readers.{Reader, ◌>>=◌, ◌>>◌, or_else, is_at, mark, identifier}
use Rattle.ck_grammar.specs.Reading.{expr_at, specifiers_at, declarator_at}
use Rattle.ck_grammar.specs.ReadingExpressions.{begins_operand}
use Rattle.ck_grammar.specs.ReadingTypes.{begins_with}
use Rattle.ck_grammar.specs.Specified.{Place, InBlock, InFile}
use Rattle.ck_grammar.specs.Spelling.{most}
use Rattle.ck_grammar.specs.Statements.{Designators, Init, Inits, Declared, MoreDeclared, Declaration, ForStart}
use Rattle.ck_grammar.specs.Statements.{Statement, BlockItems, External, Equals, DotName, AtIndex, Value, Braced}
use Rattle.ck_grammar.specs.Statements.{LastInit, NextInit, Plainly, Initialised, NoMoreDeclared, AndPlainly}
use Rattle.ck_grammar.specs.Statements.{AndInitialised, Bare, Declares, StartEmpty, StartExpr, StartDeclaration, Block}
use Rattle.ck_grammar.specs.Statements.{Empty, ExpressionStatement, If, IfElse, Switch, While, Do, For, Case, Default}
use Rattle.ck_grammar.specs.Statements.{Label, Goto, Jump, Return, ReturnValue, NoBlockItems, DeclarationItem}
use Rattle.ck_grammar.specs.Statements.{StatementItem, FileDeclaration, FunctionDefinition}
use Rattle.ck_grammar.specs.StatementsFitting.{names_after, is_typedef, shape, Shape, FunctionShape, external_after}
use Rattle.ck_grammar.specs.Trees.{Expr, Specifiers, Declarator}
use Rattle.ck_grammar.specs.Words.{Word, begins_specifiers, is_identifier, is_text, word_of}

abbrev pub is_function : Shape → Bool
is_function FunctionShape = true
is_function _ = false

abbrev pub is_empty : List Token → Bool
is_empty [] = true
is_empty (t ∷ ts) = false

module _ (w : Token → Word) where
  -- an identifier with a colon after it (6.8.1)
  abbrev pub is_label : List Token → Bool
  is_label [] = false
  is_label (t ∷ ts) = is_identifier (w t) && is_at w ":" ts

  module _ (expr : Reader Expr) where
    -- `.` name, `[` constant expression `]`, and so on, up to `=` (6.7.8)
    abbrev pub designator_loop : ℕ → Reader Designators
    designator_loop zero ts = None
    designator_loop (suc fuel) [] = None
    designator_loop (suc fuel) (t ∷ ts) =
        if is_text (codes "=") (w t) then Some (Equals t, ts)
        else if is_text (codes ".") (w t)
        then (do
          (name, ts) ← identifier w ts
          (rest, ts) ← designator_loop fuel ts
          Some (DotName t name rest, ts))
        else if is_text (codes "[") (w t)
        then (do
          (index, ts) ← expr ts
          (closing, ts) ← mark w "]" ts
          (rest, ts) ← designator_loop fuel ts
          Some (AtIndex t index closing rest, ts))
        else None

    -- designators and `=` before an initialiser, if they come
    abbrev pub designation : Reader (Option Designators)
    designation ts =
        if is_at w "." ts || is_at w "[" ts
        then (do
          (designators, ts) ← designator_loop (length ts) ts
          Some (Some designators, ts))
        else Some (None, ts)

  -- after an initialiser in braces: a comma and the next ones, or the end, maybe after a comma
  abbrev pub init_end : Reader Inits → Option Designators → Init → Reader Inits
  init_end go designators init [] = Some (LastInit designators init None, [])
  init_end go designators init (t ∷ ts) =
      if is_text (codes ",") (w t)
      then (if is_at w "}" ts
      then Some (LastInit designators init (Some t), ts)
      else (do
        (rest, ts) ← go ts
        Some (NextInit designators init t rest, ts)))
      else Some (LastInit designators init None, t ∷ ts)

  -- the initialisers in braces, one or more (6.7.8); `expr` reads an index
  abbrev pub inits : Reader Expr → Reader Init → ℕ → Reader Inits
  inits expr init zero ts = None
  inits expr init (suc fuel) ts = do
    (designators, ts) ← designation expr ts
    (i, ts) ← init ts
    init_end (inits expr init fuel) designators i ts

  -- `{` initialisers `}` or an assignment expression (6.7.8)
  abbrev pub init_by : Reader Expr → Reader Inits → Reader Init
  init_by expr inits_ [] = None
  init_by expr inits_ (t ∷ ts) =
      if is_text (codes "{") (w t)
      then (do
        (all, ts) ← inits_ ts
        (closing, ts) ← mark w "}" ts
        Some (Braced t all closing, ts))
      else (do
        (e, ts) ← expr (t ∷ ts)
        Some (Value e, ts))

  -- the initialiser at the front
  abbrev pub init_at : ℕ → Reader Init
  init_at zero ts = None
  init_at (suc n) ts =
      init_by (expr_at w (suc n) level.assignment)
      (λ r. inits (expr_at w n level.conditional) (init_at n) (length r) r) ts

  -- an expression, where one begins
  abbrev pub maybe_expr : Reader Expr → Reader (Option Expr)
  maybe_expr expr ts =
      if begins_operand w ts
      then (do
        (e, ts) ← expr ts
        Some (Some e, ts))
      else Some (None, ts)

  -- what `for (` begins with: a declaration, or an expression or nothing and `;` (6.8.5.3)
  abbrev pub start : Reader Expr → Reader Declaration → Reader ForStart
  start expr declaration ts =
      if begins_with w begins_specifiers ts
      then (do
        (d, ts) ← declaration ts
        Some (StartDeclaration d, ts))
      else if begins_operand w ts
      then (do
        (e, ts) ← expr ts
        (semicolon, ts) ← mark w ";" ts
        Some (StartExpr e semicolon, ts))
      else (do
        (semicolon, ts) ← mark w ";" ts
        Some (StartEmpty semicolon, ts))

  -- `(` expression `)`
  abbrev pub controlling : Reader Expr → Reader (Token × Expr × Token)
  controlling expr ts = do
    (opening, ts) ← mark w "(" ts
    (e, ts) ← expr ts
    (closing, ts) ← mark w ")" ts
    Some ((opening, e, closing), ts)

  -- expression `;` (6.8.3)
  abbrev pub expression_statement : Reader Expr → Reader Statement
  expression_statement expr ts = do
    (e, ts) ← expr ts
    (semicolon, ts) ← mark w ";" ts
    Some (ExpressionStatement e semicolon, ts)

  module _ (declaration : Reader Declaration) (statement : Reader Statement) where
    -- an item of a block (6.8.2): a declaration where specifiers begin that are no label, else a statement; and the
    -- items after it, which `go` reads
    abbrev pub item : (List Token → BlockItems × List Token) → Reader BlockItems
    item go ts =
        if begins_with w begins_specifiers ts && not (is_label ts)
        then (do
          (d, ts) ← declaration ts
          let (rest, ts) = go ts
          Some (DeclarationItem d rest, ts))
        else (do
          (s, ts) ← statement ts
          let (rest, ts) = go ts
          Some (StatementItem s rest, ts))

    -- items, as many as come
    abbrev pub item_loop : ℕ → List Token → BlockItems × List Token
    item_loop zero ts = (NoBlockItems, ts)
    item_loop (suc fuel) ts = or_else (NoBlockItems, ts) (item (item_loop fuel) ts)

  module _ (expr : level.Level → Reader Expr) (declaration : Reader Declaration) (statement : Reader Statement) where
    -- a statement (6.8) by what its first token begins
    abbrev pub statement_by : Phrase → Token → Reader Statement
    statement_by NamePhrase name ts =
        if is_at w ":" ts
        then (do
          (colon, ts) ← mark w ":" ts
          (s, ts) ← statement ts
          Some (Label name colon s, ts))
        else expression_statement (expr level.comma) (name ∷ ts)
    statement_by OtherPhrase t ts = expression_statement (expr level.comma) (t ∷ ts)
    statement_by BlockPhrase opening ts = do
      let (items, ts) = item_loop declaration statement (length ts) ts
      (closing, ts) ← mark w "}" ts
      Some (Block opening items closing, ts)
    statement_by EmptyPhrase semicolon ts = Some (Empty semicolon, ts)
    statement_by IfPhrase keyword ts = do
      ((opening, test, closing), ts) ← controlling (expr level.comma) ts
      (s, ts) ← statement ts
      if is_at w "else" ts
          then (do
            (else_, ts) ← mark w "else" ts
            (t, ts) ← statement ts
            Some (IfElse keyword opening test closing s else_ t, ts))
          else Some (If keyword opening test closing s, ts)
    statement_by SwitchPhrase keyword ts = do
      ((opening, e, closing), ts) ← controlling (expr level.comma) ts
      (s, ts) ← statement ts
      Some (Switch keyword opening e closing s, ts)
    statement_by WhilePhrase keyword ts = do
      ((opening, test, closing), ts) ← controlling (expr level.comma) ts
      (s, ts) ← statement ts
      Some (While keyword opening test closing s, ts)
    statement_by DoPhrase keyword ts = do
      (s, ts) ← statement ts
      (while_, ts) ← mark w "while" ts
      ((opening, test, closing), ts) ← controlling (expr level.comma) ts
      (semicolon, ts) ← mark w ";" ts
      Some (Do keyword s while_ opening test closing semicolon, ts)
    statement_by ForPhrase keyword ts = do
      (opening, ts) ← mark w "(" ts
      (first, ts) ← start (expr level.comma) declaration ts
      (test, ts) ← maybe_expr (expr level.comma) ts
      (semicolon, ts) ← mark w ";" ts
      (step, ts) ← maybe_expr (expr level.comma) ts
      (closing, ts) ← mark w ")" ts
      (s, ts) ← statement ts
      Some (For keyword opening first test semicolon step closing s, ts)
    statement_by CasePhrase keyword ts = do
      (value, ts) ← expr level.conditional ts
      (colon, ts) ← mark w ":" ts
      (s, ts) ← statement ts
      Some (Case keyword value colon s, ts)
    statement_by DefaultPhrase keyword ts = do
      (colon, ts) ← mark w ":" ts
      (s, ts) ← statement ts
      Some (Default keyword colon s, ts)
    statement_by GotoPhrase keyword ts = do
      (label, ts) ← identifier w ts
      (semicolon, ts) ← mark w ";" ts
      Some (Goto keyword label semicolon, ts)
    statement_by JumpPhrase keyword ts = do
      (semicolon, ts) ← mark w ";" ts
      Some (Jump keyword semicolon, ts)
    statement_by ReturnPhrase keyword ts =
        if begins_operand w ts
        then (do
          (e, ts) ← expr level.comma ts
          (semicolon, ts) ← mark w ";" ts
          Some (ReturnValue keyword e semicolon, ts))
        else (do
          (semicolon, ts) ← mark w ";" ts
          Some (Return keyword semicolon, ts))
    statement_by _ t ts = None

    abbrev pub read_statement : Reader Statement
    read_statement [] = None
    read_statement (t ∷ ts) = statement_by (phrase (w t)) t ts

module _ (bytes : List ℕ) where
  -- further declarators after commas, each maybe with `=` and an initialiser; the flag says that types are declared,
  -- which have no initialisers and whose names are typedef names after their declarators
  abbrev pub more_declared : ℕ → Bool → ℕ → List (List ℕ) → List Token → MoreDeclared × List Token
  more_declared n types zero typedefs ts = (NoMoreDeclared, ts)
  more_declared n types (suc fuel) typedefs ts = or_else (NoMoreDeclared, ts) do
    let w = word_of bytes typedefs
    (comma, ts) ← mark w "," ts
    (d, ts) ← declarator_at w n NewName ts
    if not types && is_at w "=" ts
        then (do
          (equals, ts) ← mark w "=" ts
          (init, ts) ← init_at w n ts
          let (rest, ts) = more_declared n types fuel typedefs ts
          Some (AndInitialised comma d equals init rest, ts))
        else (do
          let (rest, ts) = more_declared n types fuel (names_after types bytes d typedefs) ts
          Some (AndPlainly comma d rest, ts))

  -- after the first declarator: maybe `=` and an initialiser, and further declarators (6.7)
  abbrev pub declared : ℕ → Bool → List (List ℕ) → Reader Declared
  declared n types typedefs ts = do
    let w = word_of bytes typedefs
    if not types && is_at w "=" ts
        then (do
          (equals, ts) ← mark w "=" ts
          (init, ts) ← init_at w n ts
          let (rest, ts) = more_declared n types (length ts) typedefs ts
          Some (Initialised equals init rest, ts))
        else (do
          let (rest, ts) = more_declared n types (length ts) typedefs ts
          Some (Plainly rest, ts))

  module _ (typedefs : List (List ℕ)) where
    -- the word of a token, where these are the typedef names
    abbrev pub word : Token → Word
    word = word_of bytes typedefs

    -- a declaration (6.7) after its specifiers and its first declarator
    abbrev pub declares : ℕ → Specifiers → Declarator → Reader Declaration
    declares n s d ts = do
      let types = is_typedef word s
      (rest, ts) ← declared n types (names_after types bytes d typedefs) ts
      (semicolon, ts) ← mark word ";" ts
      Some (Declares s d rest semicolon, ts)

    -- the declaration at the front
    abbrev pub declaration_at : ℕ → Place → Reader Declaration
    declaration_at n place ts = do
      (s, ts) ← specifiers_at word n place ts
      if is_at word ";" ts
          then (do
            (semicolon, ts) ← mark word ";" ts
            Some (Bare s semicolon, ts))
          else (do
            (d, ts) ← declarator_at word n NewName ts
            declares n s d ts)

    -- the statement at the front
    abbrev pub statement_at : ℕ → Reader Statement
    statement_at zero ts = None
    statement_at (suc n) ts =
        read_statement word (expr_at word n) (declaration_at n InBlock)
        (statement_at n) ts

    -- the items at the front of a function's body
    abbrev pub body_at : ℕ → List Token → BlockItems × List Token
    body_at n ts =
        item_loop word (declaration_at n InBlock) (statement_at n) (length ts) ts

    -- a function definition (6.9.1) after its specifiers and its declarator
    abbrev pub defines : ℕ → Specifiers → Declarator → Reader External
    defines n s d ts = do
      not (is_typedef word s) && is_function (shape d)
      (opening, ts) ← mark word "{" ts
      let (items, ts) = body_at n ts
      (closing, ts) ← mark word "}" ts
      Some (FunctionDefinition s d opening items closing, ts)

    -- the external declaration at the front (6.9); a body counts one, so what is in it nests one less than the rest
    abbrev pub external_at : ℕ → Reader External
    external_at n ts = do
      (s, ts) ← specifiers_at word (suc n) InFile ts
      if is_at word ";" ts
          then (do
            (semicolon, ts) ← mark word ";" ts
            Some (FileDeclaration (Bare s semicolon), ts))
          else (do
            (d, ts) ← declarator_at word (suc n) NewName ts
            if is_at word "{" ts
                then defines n s d ts
                else (do
                  (declaration, ts) ← declares (suc n) s d ts
                  Some (FileDeclaration declaration, ts)))

  -- the external declarations that the tokens spell, where these are the typedef names before them
  abbrev pub file_loop : ℕ → ℕ → List (List ℕ) → List Token → Option (List External)
  file_loop n zero typedefs ts = if is_empty ts then Some [] else None
  file_loop n (suc fuel) typedefs ts =
      if is_empty ts
      then Some []
      else (do
        (x, ts) ← external_at typedefs n ts
        xs ← file_loop n fuel (external_after bytes x typedefs) ts
        Some (x ∷ xs))

  -- the file that the tokens spell, if they spell one (6.9)
  abbrev pub file_at : List Token → Option (List External)
  file_at tokens = file_loop (most - 1) (length tokens) [] tokens
