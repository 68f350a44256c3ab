-- Worked texts of expressions, computed on the reader: each operator beside one of the next level (C99 6.5).
use Rattle.std.proofs.Common.{[], ◌∷◌, refl}
use Rattle.std.specs.Prelude.{codes}
use Rattle.ck_grammar.proofs.Grouping.{Groups}

-- 6.5.17, 6.5.16
commas : Groups [] "a , b = c , d" "{ a , { b = c } , d }"
commas = refl

-- 6.5.16: an assignment takes what is right of it, and each of the eleven operators is one
assignments : Groups [] "a = b *= c /= d %= e += f -= g" "{ a = { b *= { c /= { d %= { e += { f -= g } } } } } }"
assignments = refl

assignments_of_bits : Groups [] "a <<= b >>= c &= d ^= e |= f" "{ a <<= { b >>= { c &= { d ^= { e |= f } } } } }"
assignments_of_bits = refl

-- 6.5.15: a conditional takes a whole expression in the middle and a conditional on the right
conditionals : Groups [] "a = b ? c : d ? e : f" "{ a = { b ? c : { d ? e : f } } }"
conditionals = refl

conditional_with_comma : Groups [] "a ? b = c , d : e ? f : g" "{ a ? { { b = c } , d } : { e ? f : g } }"
conditional_with_comma = refl

-- 6.5.14 to 6.5.5
logical_ors : Groups [] "a ? b || c || d : e" "{ a ? { b || c || d } : e }"
logical_ors = refl

logical_ands : Groups [] "a || b && c && d" "{ a || { b && c && d } }"
logical_ands = refl

inclusive_ors : Groups [] "a && b | c | d" "{ a && { b | c | d } }"
inclusive_ors = refl

exclusive_ors : Groups [] "a | b ^ c ^ d" "{ a | { b ^ c ^ d } }"
exclusive_ors = refl

bitwise_ands : Groups [] "a ^ b & c & d" "{ a ^ { b & c & d } }"
bitwise_ands = refl

equalities : Groups [] "a & b == c != d" "{ a & { b == c != d } }"
equalities = refl

relations : Groups [] "a == b < c > d <= e >= f" "{ a == { b < c > d <= e >= f } }"
relations = refl

shifts : Groups [] "a < b << c >> d" "{ a < { b << c >> d } }"
shifts = refl

sums : Groups [] "a << b + c - d" "{ a << { b + c - d } }"
sums = refl

products : Groups [] "a + b * c / d % e - f" "{ a + { b * c / d % e } - f }"
products = refl

-- 6.5.4: a typedef name in parentheses begins a cast, another name is an operand
casts : Groups (codes "t" ∷ []) "( t ) * p" "{ ( t ) { * p } }"
casts = refl

no_cast : Groups [] "( t ) * p" "{ ( t ) * p }"
no_cast = refl

casts_and_products : Groups [] "( int ) a * b" "{ { ( int ) a } * b }"
casts_and_products = refl

-- 6.5.3
unary_operators : Groups [] "& * + - ~ ! a" "{ & { * { + { - { ~ { ! a } } } } } }"
unary_operators = refl

steps : Groups [] "++ -- sizeof a ++" "{ ++ { -- { sizeof { a ++ } } } }"
steps = refl

size_of_type : Groups (codes "t" ∷ []) "sizeof ( t ) * p" "{ { sizeof ( t ) } * p }"
size_of_type = refl

size_of_operand : Groups [] "sizeof ( t ) [ 0 ]" "{ sizeof { ( t ) [ 0 ] } }"
size_of_operand = refl

-- 6.5.2
suffixes : Groups [] "f ( x , y = z ) [ 1 ] . m -> n ++ -- ( )" "{ f ( x , { y = z } ) [ 1 ] . m -> n ++ -- ( ) }"
suffixes = refl

-- 6.5.1
primaries : Groups [] "( a ) + 1 + 'c' + \"x\" \"y\"" "{ ( a ) + 1 + 'c' + \"x\" \"y\" }"
primaries = refl
