-- What the outermost production of an expression is, as far as a place that wants a unary expression (C99 6.5.3) or one
-- that binds as tightly as a cast (6.5.4) asks for it.
use Rattle.std.specs.Prelude.{Option, Some, None}
use Rattle.ck_base.specs.declared.tokens.Token.{Token}
use Rattle.ck_grammar.specs.Trees as trees
use Rattle.ck_grammar.specs.Trees.{Expr, Operands, Specifiers}
use Rattle.ck_readers.specs.declared.forms.Form.{Form}
use Rattle.ck_readers.specs.declared.forms.Form.TheVariants as forms

-- the first operator of a chain, if it has one
abbrev pub first_operator : Operands → Option Token
first_operator trees.NoOperands = None
first_operator (trees.Operand operator operand others) = Some operator

abbrev pub form : Expr → Form
form (trees.Cast opening s d closing operand) = forms.Cast
form (trees.Chain first operands) = forms.Chain (first_operator operands)
form (trees.Conditional test question second colon third) = forms.Looser
form (trees.Assignment target operator value) = forms.Looser
form _ = forms.Unary

-- the only specifier, where it is a word
abbrev pub only_word_of : Specifiers → Option Token
only_word_of (trees.Word token trees.NoSpecifiers) = Some token
only_word_of _ = None
