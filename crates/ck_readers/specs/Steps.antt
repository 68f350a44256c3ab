-- One step of each loop of the readers of expressions, as a reader: an element, and the others by `go`.
use Rattle.std.specs.Prelude.{List, [], ◌∷◌, length, Some, None}
use Rattle.ck_base.specs.declared.tokens.Token.{Token}
use Rattle.ck_grammar.specs.Levels as level
use Rattle.ck_grammar.specs.Readers.{Reader, ◌>>=◌, mark}
use Rattle.ck_grammar.specs.ReadingExpressions.{operator, operand_loop, suffix_by}
use Rattle.ck_grammar.specs.Trees.{Expr, Operands, Operand, Suffixes, Call, CallEmpty}
use Rattle.ck_grammar.specs.Words.{Word, follow}

module _ (w : Token → Word) where
  -- an operator of this level and its right operand
  abbrev pub operand_step : Reader Expr → level.Level → (List Token → Operands × List Token) → Reader Operands
  operand_step operand k go ts = do
    (op, ts) ← operator w k ts
    (e, ts) ← operand ts
    let (rest, ts) = go ts
    Some (Operand op e rest, ts)

  -- a suffix
  abbrev pub suffix_step : (level.Level → Reader Expr) → (List Token → Suffixes × List Token) → Reader Suffixes
  suffix_step expr go [] = None
  suffix_step expr go (t ∷ ts) = suffix_by w expr go (follow (w t)) t ts

  -- the arguments of a call, after its `(`, where an operand begins
  abbrev pub arguments : (level.Level → Reader Expr) → (List Token → Suffixes × List Token) → Token → Reader Suffixes
  arguments expr go opening ts = do
    (first, ts) ← expr level.assignment ts
    let (others, ts) = operand_loop w (expr level.assignment) level.comma (length ts) ts
    (closing, ts) ← mark w ")" ts
    let (rest, ts) = go ts
    Some (Call opening first others closing rest, ts)

  -- the `)` of a call without arguments
  abbrev pub no_arguments : (List Token → Suffixes × List Token) → Token → Reader Suffixes
  no_arguments go opening ts = do
    (closing, ts) ← mark w ")" ts
    let (rest, ts) = go ts
    Some (CallEmpty opening closing rest, ts)
