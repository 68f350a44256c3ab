-- Worked texts of whether a call is evaluated, computed on the definitions.
use Rattle.std.proofs.Common.{◌≡◌, [], refl}
use Rattle.std.specs.Prelude.{true, false, codes}
use Rattle.ck_base.specs.declared.tokens.TokenKind.TheVariants as kinds
use Rattle.ck_grammar.proofs.Worked.{at}
use Rattle.ck_grammar.specs.Trees.{Expr, Name, Postfix, Unary, NoOperands, NoSuffixes, Index, Call, CallEmpty}
use Rattle.ck_grammar.specs.Words.{word_of}
use Rattle.ck_syntax.specs.Calls.{holds_call}

-- `f(a)[b]`
called_and_indexed : Expr
called_and_indexed = Postfix (Name (at kinds.Word 0 1)) (Call (at kinds.Mark 1 2) (Name (at kinds.Word 2 3)) NoOperands
    (at kinds.Mark 3 4) (Index (at kinds.Mark 4 5) (Name (at kinds.Word 5 6)) (at kinds.Mark 6 7) NoSuffixes))

-- a call is evaluated
called : holds_call (word_of (codes "f(a)[b]") []) called_and_indexed ≡ true
unfolding called_and_indexed
called = refl

-- `sizeof f()`: no call is evaluated (6.5.3.4)
not_called : holds_call (word_of (codes "sizeof f()") []) (Unary (at kinds.Key 0 6)
    (Postfix (Name (at kinds.Word 7 8)) (CallEmpty (at kinds.Mark 8 9) (at kinds.Mark 9 10) NoSuffixes))) ≡ false
not_called = refl
