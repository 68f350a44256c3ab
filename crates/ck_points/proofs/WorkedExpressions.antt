-- Worked graphs of expressions and initialisers (C99 6.5, 6.7.8), drawn by hand and computed on the definitions.
use Rattle.std.proofs.Common.{refl}
use Rattle.std.specs.Prelude.{[], ◌∷◌}
use Rattle.ck_points.proofs.GraphTexts.{IsDrawn}
use Prim.Native.String.{String}

-- three functions of other files, and a variable
abbrev abc : String
abc = "int a ( void ) ; int b ( void ) ; int c ( void ) ; int n ;"

-- nothing under `sizeof` is evaluated (6.5.3.4), and what holds no call is evaluated whole
no_calls : IsDrawn
    (abc
    ∷ "void f ( void ) { n = sizeof ( a ( ) ) + n ; }" ∷ [])
    ("b -> 0b ; a ; 0b -> E0.0 0a ; 0a -> a ;" ∷ [])
no_calls = refl

-- 6.5.2.2
call_in_a_call : IsDrawn
    ("int a ( void ) ; int h ( int k ) ; void f ( void ) { h ( a ( ) ) ; }" ∷ [])
    ("b -> 0b ; a ; 0b -> 0.0.1.0.1b ; 0a -> a ; 0.0.1b -> 0.0.1a ; 0.0.1a -> 0a ; 0.0.1.0.1b -> 0.0.1.0.1a ;"
    ∷ "0.0.1.0.1a -> 0.0.1b ;" ∷ [])
call_in_a_call = refl

-- 6.5.13: the second operand where the first isn't 0
logical_and : IsDrawn
    (abc
    ∷ "void f ( void ) { n = a ( ) && b ( ) ; }" ∷ [])
    ("b -> 0b ; a ; 0b -> E0.0.0 0.0.1.0.1b ; 0a -> a ; 0.0.1.0t true 0.0.1.2.1b ; 0.0.1.0t false 0.0.1.1a ;"
    ∷ "0.0.1.0.1b -> 0.0.1.0.1a ; 0.0.1.0.1a -> 0.0.1.0t ; 0.0.1.1a -> A0.0.1.1 A0.0 0a ;"
    ∷ "0.0.1.2.1b -> 0.0.1.2.1a ; 0.0.1.2.1a -> 0.0.1.1a ;" ∷ [])
logical_and = refl

-- 6.5.14, 6.5.13: operands without calls are evaluated between points
logical_or : IsDrawn
    (abc
    ∷ "void f ( void ) { if ( n || a ( ) && n ) b ( ) ; }" ∷ [])
    ("b -> 0b ; a ; 0b -> E0.0.0 0.0.0t ; 0a -> a ; 0.0t true 0.1b ; 0.0t false 0a ; 0.0.0t true 0.0.1a ;"
    ∷ "0.0.0t false 0.0.2.0.1b ; 0.0.1a -> A0.0.1 0.0t ; 0.0.2.0t true E0.0.2.2 0.0.2.1a ;"
    ∷ "0.0.2.0t false 0.0.2.1a ; 0.0.2.0.1b -> 0.0.2.0.1a ; 0.0.2.0.1a -> 0.0.2.0t ;"
    ∷ "0.0.2.1a -> A0.0.2.1 0.0.1a ; 0.1b -> 0.1.0.1b ; 0.1a -> 0a ; 0.1.0.1b -> 0.1.0.1a ; 0.1.0.1a -> 0.1a ;" ∷ [])
logical_or = refl

-- a chain: what is before the second operator is its first operand
three_ands : IsDrawn
    (abc
    ∷ "void f ( void ) { n = a ( ) && b ( ) && c ( ) ; }" ∷ [])
    ("b -> 0b ; a ; 0b -> E0.0.0 0.0.1.0.1b ; 0a -> a ; 0.0.1.0t true 0.0.1.2.1b ; 0.0.1.0t false 0.0.1.1a ;"
    ∷ "0.0.1.0.1b -> 0.0.1.0.1a ; 0.0.1.0.1a -> 0.0.1.0t ; 0.0.1.1t true 0.0.1.4.1b ; 0.0.1.1t false 0.0.1.3a ;"
    ∷ "0.0.1.1a -> A0.0.1.1 0.0.1.1t ; 0.0.1.2.1b -> 0.0.1.2.1a ; 0.0.1.2.1a -> 0.0.1.1a ;"
    ∷ "0.0.1.3a -> A0.0.1.3 A0.0 0a ; 0.0.1.4.1b -> 0.0.1.4.1a ; 0.0.1.4.1a -> 0.0.1.3a ;" ∷ [])
three_ands = refl

-- a constant first operand leads one way; a constant whole has no points of its own
constant_operand : IsDrawn
    (abc
    ∷ "void f ( void ) { if ( 1 && a ( ) ) b ( ) ; if ( 0 || 0 ) ; }" ∷ [])
    ("b -> 0b ; a ; 0b -> E0.0.0 0.0.0t ; 0a -> 1b ; 0.0t true 0.1b ; 0.0t false 0a ; 0.0.0t -> 0.0.2.1b ;"
    ∷ "0.0.1a -> A0.0.1 0.0t ; 0.0.2.1b -> 0.0.2.1a ; 0.0.2.1a -> 0.0.1a ; 0.1b -> 0.1.0.1b ; 0.1a -> 0a ;"
    ∷ "0.1.0.1b -> 0.1.0.1a ; 0.1.0.1a -> 0.1a ; 1b -> E1.0.1 1.0t ; 1a -> a ; 1.0t -> 1a ; 1.1b -> 1.1a ;"
    ∷ "1.1a -> 1a ;" ∷ [])
constant_operand = refl

-- 6.5.15
conditional : IsDrawn
    (abc
    ∷ "int f ( void ) { return n ? a ( ) : n ; }" ∷ [])
    ("b -> 0b ; a ; 0b -> E0.0.0 0.0.0t ; 0a -> a ; 0.0a -> A0.0 G0 a ; 0.0.0t true 0.0.1.1b ;"
    ∷ "0.0.0t false E0.0.2 0.0a ; 0.0.1.1b -> 0.0.1.1a ; 0.0.1.1a -> 0.0a ;" ∷ [])
conditional = refl

-- 6.5.17, 6.5.3, 6.5.1
comma_and_unary : IsDrawn
    (abc
    ∷ "void f ( void ) { n = ( a ( ) , - b ( ) ) ; }" ∷ [])
    ("b -> 0b ; a ; 0b -> E0.0.0 0.0.1.0.0.1b ; 0a -> a ; 0.0.1.0.0.1b -> 0.0.1.0.0.1a ;"
    ∷ "0.0.1.0.0.1a -> 0.0.1.0.2.0.1b ; 0.0.1.0.2.0.1b -> 0.0.1.0.2.0.1a ;"
    ∷ "0.0.1.0.2.0.1a -> A0.0.1.0.2 A0.0.1.0.1 A0.0.1 A0.0 0a ;" ∷ [])
comma_and_unary = refl

-- 6.5.4, 6.5.2.3
cast_and_member : IsDrawn
    ("struct s { int m ; } ; struct s g ( void ) ; int n ; void f ( void ) { n = ( int ) g ( ) . m + n ; }" ∷ [])
    ("b -> 0b ; a ; 0b -> E0.0.0 0.0.1.0.0.1b ; 0a -> a ; 0.0.1.0.0.1b -> 0.0.1.0.0.1a ;"
    ∷ "0.0.1.0.0.1a -> A0.0.1.0.0.2 A0.0.1.0 E0.0.1.2 A0.0.1.1 A0.0 0a ;" ∷ [])
cast_and_member = refl

-- 6.7.8: from left to right, after all of the array is zero; `z` has no value (6.2.4)
initialisers : IsDrawn
    (abc
    ∷ "void f ( void ) { int y [ 2 ] = { a ( ) , b ( ) } , z , w = c ( ) ; }" ∷ [])
    ("b -> 0b ; a ; 0b -> C0.0 0.0.0.1b ; 0a -> a ; 0.0.0.1b -> 0.0.0.1a ; 0.0.0.1a -> I0.0.0 0.0.1.1b ;"
    ∷ "0.0.1.1b -> 0.0.1.1a ; 0.0.1.1a -> I0.0.1 F0.1 0.2.1b ; 0.2.1b -> 0.2.1a ; 0.2.1a -> I0.2 0a ;" ∷ [])
initialisers = refl

-- braces in braces, and values without calls
braces_in_braces : IsDrawn
    ("void f ( void ) { int y [ 2 ] [ 2 ] = { { 1 } , 2 } ; }" ∷ [])
    ("b -> 0b ; a ; 0b -> C0.0 C0.0.0 E0.0.0.0 I0.0.0.0 E0.0.1 I0.0.1 0a ; 0a -> a ;" ∷ [])
braces_in_braces = refl

-- what is static is initialised before the program starts (5.1.2), and what is extern elsewhere
other_storage : IsDrawn
    ("int n ; void f ( void ) { static int s = 3 ; extern int n ; int z ; }" ∷ [])
    ("b -> 0b ; a ; 0b -> 0a ; 0a -> F2.0 a ;" ∷ [])
other_storage = refl
