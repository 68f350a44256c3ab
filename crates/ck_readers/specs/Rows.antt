-- Ends of rows.
use Rattle.std.specs.Prelude.{Option, Some, None}
use Rattle.ck_base.specs.declared.tokens.Token.{Token}
use Rattle.ck_grammar.specs.Trees.{MoreParams, NoMore, Ellipsis}

-- what may end parameters: a comma and `...` (C99 6.7.5.3)
abbrev pub ellipsis_end : Option (Token × Token) → MoreParams
ellipsis_end None = NoMore
ellipsis_end (Some both) = Ellipsis both.0 both.1
