-- The operators of expressions by their texts (C99 6.5).
use Rattle.std.specs.Prelude.{ℕ, List, [], ◌∷◌, codes, if◌then◌else◌}
use Rattle.std.specs.Str.{bytes_eq}
use Rattle.ck_types.specs.declared.operators.BinaryOperator.TheVariants.{Multiply, Divide, Remainder, Add, Subtract}
use Rattle.ck_types.specs.declared.operators.BinaryOperator.TheVariants.{ShiftLeft, ShiftRight, Less, Greater}
use Rattle.ck_types.specs.declared.operators.BinaryOperator.TheVariants.{LessOrEqual, GreaterOrEqual, Equal, NotEqual}
use Rattle.ck_types.specs.declared.operators.BinaryOperator.TheVariants.{BitwiseAnd, BitwiseXor, BitwiseOr}
use Rattle.ck_types.specs.declared.operators.UnaryOperator.TheVariants.{Plus, Minus, Complement, Not}
use Rattle.ck_prog.specs.declared.operators.Operator.{Operator}
use Rattle.ck_prog.specs.declared.operators.Operator.TheVariants.{Binary, And, Or, Comma}
use Rattle.ck_prog.specs.declared.operators.Prefix.{Prefix}
use Rattle.ck_prog.specs.declared.operators.Prefix.TheVariants.{Unary, Increment, Decrement, Address, Dereference}
use Rattle.ck_prog.specs.declared.operators.Prefix.TheVariants.{SizeOf}
use Rattle.ck_prog.specs.declared.operators.Assigning.{Assigning}
use Rattle.ck_prog.specs.declared.operators.Assigning.TheVariants.{Plain, With}

-- what the first row with this text has
abbrev pub by_text : {X : Type 0} → List (List ℕ × X) → X → List ℕ → X
by_text [] other text = other
by_text (row ∷ rows) other text = if bytes_eq row.0 text then row.1 else by_text rows other text

-- 6.5.5 to 6.5.14, 6.5.17
abbrev pub operator : List ℕ → Operator
operator =
    by_text (
    (codes "*", Binary Multiply)
    ∷ (codes "/", Binary Divide)
    ∷ (codes "%", Binary Remainder)
    ∷ (codes "+", Binary Add)
    ∷ (codes "-", Binary Subtract)
    ∷ (codes "<<", Binary ShiftLeft)
    ∷ (codes ">>", Binary ShiftRight)
    ∷ (codes "<", Binary Less)
    ∷ (codes ">", Binary Greater)
    ∷ (codes "<=", Binary LessOrEqual)
    ∷ (codes ">=", Binary GreaterOrEqual)
    ∷ (codes "==", Binary Equal)
    ∷ (codes "!=", Binary NotEqual)
    ∷ (codes "&", Binary BitwiseAnd)
    ∷ (codes "^", Binary BitwiseXor)
    ∷ (codes "|", Binary BitwiseOr)
    ∷ (codes "&&", And)
    ∷ (codes "||", Or)
    ∷ []) Comma

-- 6.5.3
abbrev pub prefix : List ℕ → Prefix
prefix =
    by_text (
    (codes "++", Increment)
    ∷ (codes "--", Decrement)
    ∷ (codes "&", Address)
    ∷ (codes "*", Dereference)
    ∷ (codes "+", Unary Plus)
    ∷ (codes "-", Unary Minus)
    ∷ (codes "~", Unary Complement)
    ∷ (codes "!", Unary Not)
    ∷ []) SizeOf

-- 6.5.16
abbrev pub assigning : List ℕ → Assigning
assigning =
    by_text (
    (codes "*=", With Multiply)
    ∷ (codes "/=", With Divide)
    ∷ (codes "%=", With Remainder)
    ∷ (codes "+=", With Add)
    ∷ (codes "-=", With Subtract)
    ∷ (codes "<<=", With ShiftLeft)
    ∷ (codes ">>=", With ShiftRight)
    ∷ (codes "&=", With BitwiseAnd)
    ∷ (codes "^=", With BitwiseXor)
    ∷ (codes "|=", With BitwiseOr)
    ∷ []) Plain
