-- Whether a call is evaluated where an expression is (C99 6.5.2.2). None is inside `sizeof` (6.5.3.4), and none in a
-- type, whose sizes are constant expressions (6.6).
use Rattle.std.specs.Prelude.{Bool, true, false, ◌||◌, if◌then◌else◌}
use Rattle.ck_base.specs.declared.tokens.Token.{Token}
use Rattle.ck_grammar.specs.Trees as trees
use Rattle.ck_grammar.specs.Trees.{Expr, Operands, Suffixes}
use Rattle.ck_grammar.specs.Words.{Word, lead}
use Rattle.ck_grammar.specs.declared.classes.Lead.{Lead}
use Rattle.ck_grammar.specs.declared.classes.Lead.TheVariants.{Sizeof as SizeofLead}

abbrev pub is_sizeof : Lead → Bool
is_sizeof SizeofLead = true
is_sizeof _ = false

-- whether a call is evaluated where an expression is; `w` gives the word of a token
abbrev mutual
  pub holds_call : (Token → Word) → Expr → Bool
  holds_call w (trees.Name t) = false
  holds_call w (trees.Constant t) = false
  holds_call w (trees.Strings t ts) = false
  holds_call w (trees.Paren o e c) = holds_call w e
  holds_call w (trees.Postfix e s) = holds_call w e || suffixes_hold_call w s
  holds_call w (trees.Unary op e) = if is_sizeof (lead (w op)) then false else holds_call w e
  holds_call w (trees.SizeofType k o s d c) = false
  holds_call w (trees.Cast o s d c e) = holds_call w e
  holds_call w (trees.Chain e ops) = holds_call w e || operands_hold_call w ops
  holds_call w (trees.Conditional e q a c b) = holds_call w e || holds_call w a || holds_call w b
  holds_call w (trees.Assignment e op b) = holds_call w e || holds_call w b

  pub operands_hold_call : (Token → Word) → Operands → Bool
  operands_hold_call w trees.NoOperands = false
  operands_hold_call w (trees.Operand op e rest) = holds_call w e || operands_hold_call w rest

  pub suffixes_hold_call : (Token → Word) → Suffixes → Bool
  suffixes_hold_call w trees.NoSuffixes = false
  suffixes_hold_call w (trees.Index o e c rest) = holds_call w e || suffixes_hold_call w rest
  suffixes_hold_call w (trees.CallEmpty o c rest) = true
  suffixes_hold_call w (trees.Call o e ops c rest) = true
  suffixes_hold_call w (trees.MemberAccess t n rest) = suffixes_hold_call w rest
  suffixes_hold_call w (trees.PostIncrement t rest) = suffixes_hold_call w rest
