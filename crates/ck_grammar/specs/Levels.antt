-- The levels of precedence of C99 6.5, from the tightest to the loosest, as the standard calls an expression of the
-- level.
use Rattle.std.specs.Prelude.{ℕ}

abbrev pub Level : Type 0
Level = ℕ

-- cast expressions, and what binds tighter: primary, postfix and unary expressions (6.5.1 to 6.5.4)
abbrev pub cast : Level
cast = 0

-- `*` `/` `%` (6.5.5)
abbrev pub multiplicative : Level
multiplicative = 1

-- `+` `-` (6.5.6)
abbrev pub additive : Level
additive = 2

-- `<<` `>>` (6.5.7)
abbrev pub shift : Level
shift = 3

-- `<` `>` `<=` `>=` (6.5.8)
abbrev pub relational : Level
relational = 4

-- `==` `!=` (6.5.9)
abbrev pub equality : Level
equality = 5

-- `&` (6.5.10)
abbrev pub bitwise_and : Level
bitwise_and = 6

-- `^` (6.5.11)
abbrev pub exclusive_or : Level
exclusive_or = 7

-- `|` (6.5.12)
abbrev pub inclusive_or : Level
inclusive_or = 8

-- `&&` (6.5.13)
abbrev pub logical_and : Level
logical_and = 9

-- `||` (6.5.14)
abbrev pub logical_or : Level
logical_or = 10

-- `? :` (6.5.15); a constant expression is one of these (6.6)
abbrev pub conditional : Level
conditional = 11

-- `=` `*=` and so on (6.5.16)
abbrev pub assignment : Level
assignment = 12

-- `,` (6.5.17); the standard calls this level just an expression
abbrev pub comma : Level
comma = 13
