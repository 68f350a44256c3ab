-- How expressions are read from a list of tokens (C99 6.5): `expr` reads the expressions inside, by their level, and
-- `ty` the type names inside; `n` is how deep these may nest.
use Rattle.std.specs.Prelude.{ℕ, zero, suc, Bool, true, false, ◌&&◌, ◌==◌, List, [], ◌∷◌, length, Some, None, nat_le}
use Rattle.std.specs.Prelude.{if◌then◌else◌}
use Rattle.ck_base.specs.declared.tokens.Token.{Token}
use Rattle.ck_grammar.specs.Fitting.{operator_level, is_unary, takes, is_tight, has_suffix}
use Rattle.ck_grammar.specs.Levels as level
use Rattle.ck_grammar.specs.Nesting.{nesting}
use Rattle.ck_grammar.specs.Readers.{Reader, ◌>>=◌, ◌>>◌, or_else, onto, mark, identifier}
use Rattle.ck_grammar.specs.Trees.{Expr, Operands, Suffixes, Specifiers, Declarator, Name, Constant, Strings, Paren}
use Rattle.ck_grammar.specs.Trees.{Postfix, Unary, SizeofType, Cast, Chain, Conditional, Assignment, NoOperands}
use Rattle.ck_grammar.specs.Trees.{Operand, NoSuffixes, Index, CallEmpty, Call, MemberAccess, PostIncrement}
use Rattle.ck_grammar.specs.Words.{Word, String, sort, begins_type, Lead, NameLead, ConstantLead, StringLead, ParenLead}
use Rattle.ck_grammar.specs.Words.{StepLead, OperatorLead, SizeofLead, NoLead, lead, begins_lead, Follow, Bracket}
use Rattle.ck_grammar.specs.Words.{Parenthesis, Point, Steps, follow}

abbrev pub is_string : Word → Bool
is_string String = true
is_string _ = false

abbrev pub is_paren : Lead → Bool
is_paren ParenLead = true
is_paren _ = false

abbrev pub has_operand : Operands → Bool
has_operand NoOperands = false
has_operand (Operand op e rest) = true

-- an expression and the suffixes after it, if there are any
abbrev pub suffixed : Expr → Suffixes × List Token → Expr × List Token
suffixed e read =
    let (suffixes, ts) = read in if has_suffix suffixes then (Postfix e suffixes, ts) else (e, ts)

-- an expression and the operators after it, if there are any
abbrev pub chained : Expr → Operands × List Token → Expr × List Token
chained e read = let (operands, ts) = read in if has_operand operands then (Chain e operands, ts) else (e, ts)

module _ (w : Token → Word) where
  -- an operand can begin here
  abbrev pub begins_operand : List Token → Bool
  begins_operand [] = false
  begins_operand (t ∷ ts) = begins_lead (lead (w t))

  -- `(` and what a type name can begin with
  abbrev pub opens_type : List Token → Bool
  opens_type (t ∷ u ∷ ts) = is_paren (lead (w t)) && begins_type (sort (w u))
  opens_type _ = false

  -- string literals, as many as come
  abbrev pub neighbours : List Token → List Token × List Token
  neighbours [] = ([], [])
  neighbours (t ∷ ts) = if is_string (w t) then onto (◌∷◌ t) (neighbours ts) else ([], t ∷ ts)

  -- an operator of this level
  abbrev pub operator : level.Level → Reader Token
  operator k [] = None
  operator k (t ∷ ts) = if operator_level (follow (w t)) == k then Some (t, ts) else None

  -- operators of this level with their right operands, as many as come
  abbrev pub operand_loop : Reader Expr → level.Level → ℕ → List Token → Operands × List Token
  operand_loop operand k zero ts = (NoOperands, ts)
  operand_loop operand k (suc fuel) ts = or_else (NoOperands, ts) do
    (op, ts) ← operator k ts
    (e, ts) ← operand ts
    let (rest, ts) = operand_loop operand k fuel ts
    Some (Operand op e rest, ts)

  -- `(` type name `)`
  abbrev pub in_parens : Reader (Specifiers × Declarator) → Reader (Token × Specifiers × Declarator × Token)
  in_parens ty ts = do
    (opening, ts) ← mark w "(" ts
    ((specifiers, declarator), ts) ← ty ts
    (closing, ts) ← mark w ")" ts
    Some ((opening, specifiers, declarator, closing), ts)

  module _ (expr : level.Level → Reader Expr) where
    -- primary expressions (6.5.1)
    abbrev pub primary_by : Lead → Token → Reader Expr
    primary_by NameLead name ts = Some (Name name, ts)
    primary_by ConstantLead constant ts = Some (Constant constant, ts)
    primary_by StringLead first ts = do
      let (others, ts) = neighbours ts
      Some (Strings first others, ts)
    primary_by ParenLead opening ts = do
      (e, ts) ← expr level.comma ts
      (closing, ts) ← mark w ")" ts
      Some (Paren opening e closing, ts)
    primary_by _ t ts = None

    -- the arguments of a call, after its `(` (6.5.2.2); `go` reads the suffixes after it
    abbrev pub call : (List Token → Suffixes × List Token) → Token → Reader Suffixes
    call go opening ts =
        if begins_operand ts
        then (do
          (first, ts) ← expr level.assignment ts
          let (others, ts) = operand_loop (expr level.assignment) level.comma (length ts) ts
          (closing, ts) ← mark w ")" ts
          let (rest, ts) = go ts
          Some (Call opening first others closing rest, ts))
        else (do
          (closing, ts) ← mark w ")" ts
          let (rest, ts) = go ts
          Some (CallEmpty opening closing rest, ts))

    -- a suffix (6.5.2) by its first token, and the suffixes after it, which `go` reads
    abbrev pub suffix_by : (List Token → Suffixes × List Token) → Follow → Token → Reader Suffixes
    suffix_by go Bracket opening ts = do
      (index, ts) ← expr level.comma ts
      (closing, ts) ← mark w "]" ts
      let (rest, ts) = go ts
      Some (Index opening index closing rest, ts)
    suffix_by go Parenthesis opening ts = call go opening ts
    suffix_by go Point point ts = do
      (member, ts) ← identifier w ts
      let (rest, ts) = go ts
      Some (MemberAccess point member rest, ts)
    suffix_by go Steps step ts = do
      let (rest, ts) = go ts
      Some (PostIncrement step rest, ts)
    suffix_by go _ t ts = None

    -- suffixes, as many as come
    abbrev pub suffix_loop : ℕ → List Token → Suffixes × List Token
    suffix_loop zero ts = (NoSuffixes, ts)
    suffix_loop (suc fuel) [] = (NoSuffixes, [])
    suffix_loop (suc fuel) (t ∷ ts) = or_else (NoSuffixes, t ∷ ts) (suffix_by (suffix_loop fuel) (follow (w t)) t ts)

    -- a primary expression that nests no deeper than an operand may, with the suffixes after it
    abbrev pub postfix_after : ℕ → Expr → List Token → Expr × List Token
    postfix_after n e ts = if nat_le (nesting e) n then suffixed e (suffix_loop (length ts) ts) else (e, ts)

    -- postfix expressions (6.5.2)
    abbrev pub postfix : ℕ → Lead → Token → Reader Expr
    postfix n lead_ t ts = do
      (e, ts) ← primary_by lead_ t ts
      Some (postfix_after n e ts)

    -- a unary operator and its operand (6.5.3)
    abbrev pub unary_operator : Lead → Token → Reader Expr
    unary_operator lead_ op ts = do
      (e, ts) ← expr level.cast ts
      takes lead_ e (is_tight w)
      Some (Unary op e, ts)

    -- after an operand, `?` expression `:` conditional expression, if it comes (6.5.15)
    abbrev pub conditional : Expr → List Token → Expr × List Token
    conditional test ts = or_else (test, ts) do
      (question, ts) ← operator level.conditional ts
      (second, ts) ← expr level.comma ts
      (colon, ts) ← mark w ":" ts
      (third, ts) ← expr level.conditional ts
      Some (Conditional test question second colon third, ts)

    -- after a unary expression, an assignment operator and an assignment expression, if they come (6.5.16)
    abbrev pub assignment : Expr → List Token → Expr × List Token
    assignment target ts = or_else (target, ts) do
      (op, ts) ← operator level.assignment ts
      is_unary target
      (value, ts) ← expr level.assignment ts
      Some (Assignment target op value, ts)

    -- what an expression of the level `tighter` is the left end of, at the next level
    abbrev pub more_by : level.Level → Expr → List Token → Expr × List Token
    more_by tighter e ts =
        if tighter == level.logical_or then conditional e ts
        else if tighter == level.conditional then assignment e ts
        else chained e (operand_loop (expr tighter) (suc tighter) (length ts) ts)

    -- what an expression of the level `tighter` is the left end of; it alone, where it nests deeper than an operand may
    abbrev pub more : ℕ → level.Level → Expr → List Token → Expr × List Token
    more n tighter e ts = if nat_le (nesting e) n then more_by tighter e ts else (e, ts)

    module _ (ty : Reader (Specifiers × Declarator)) where
      -- after `sizeof`, a type name in parentheses or a unary expression (6.5.3.4)
      abbrev pub sizeof : Token → Reader Expr
      sizeof keyword ts =
          if opens_type ts
          then (do
            ((opening, specifiers, declarator, closing), ts) ← in_parens ty ts
            Some (SizeofType keyword opening specifiers declarator closing, ts))
          else unary_operator SizeofLead keyword ts

      module _ (n : ℕ) where
        -- unary expressions (6.5.3), by what their first token begins
        abbrev pub unary_by : Lead → Token → Reader Expr
        unary_by NameLead t ts = postfix n NameLead t ts
        unary_by ConstantLead t ts = postfix n ConstantLead t ts
        unary_by StringLead t ts = postfix n StringLead t ts
        unary_by ParenLead t ts = postfix n ParenLead t ts
        unary_by StepLead t ts = unary_operator StepLead t ts
        unary_by OperatorLead t ts = unary_operator OperatorLead t ts
        unary_by SizeofLead t ts = sizeof t ts
        unary_by NoLead t ts = None

        abbrev pub unary : Reader Expr
        unary [] = None
        unary (t ∷ ts) = unary_by (lead (w t)) t ts

        -- `(` type name `)` and a cast expression, or a unary expression (6.5.4)
        abbrev pub cast : Reader Expr
        cast ts =
            if opens_type ts
            then (do
              ((opening, specifiers, declarator, closing), ts) ← in_parens ty ts
              (e, ts) ← expr level.cast ts
              Some (Cast opening specifiers declarator closing e, ts))
            else unary ts

        -- an expression of this level or a tighter one: of the level before it, and what that is the left end of
        abbrev pub level_reader : level.Level → Reader Expr
        level_reader zero ts = cast ts
        level_reader (suc tighter) ts = do
          (e, ts) ← level_reader tighter ts
          Some (more n tighter e ts)
