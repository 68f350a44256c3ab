-- Worked graphs of statements (C99 6.8), drawn by hand and computed on the definitions.
use Rattle.std.proofs.Common.{refl}
use Rattle.std.specs.Prelude.{[], ◌∷◌}
use Rattle.ck_points.proofs.GraphTexts.{IsDrawn}
use Prim.Native.String.{String}

-- three functions of other files, and a variable
abbrev abc : String
abc = "int a ( void ) ; int b ( void ) ; int c ( void ) ; int n ;"

no_statement : IsDrawn
    ("void f ( void ) { }" ∷ [])
    ("b -> a ; a ;" ∷ [])
no_statement = refl

-- 6.8.5.1: the test is made before each execution
while_loop : IsDrawn
    (abc
    ∷ "void f ( void ) { while ( n ) a ( ) ; }" ∷ [])
    ("b -> 0b ; a ; 0b -> E0.0 0.0t ; 0a -> a ; 0.0t true 0.1b ; 0.0t false 0a ; 0.1b -> 0.1.0.1b ;"
    ∷ "0.1a -> E0.0 0.0t ; 0.1.0.1b -> 0.1.0.1a ; 0.1.0.1a -> 0.1a ;" ∷ [])
while_loop = refl

-- a constant test leads one way
endless_while : IsDrawn
    ("void f ( void ) { while ( 1 ) { } }" ∷ [])
    ("b -> 0b ; a ; 0b -> E0.0 0.0t ; 0a -> a ; 0.0t -> 0.1b ; 0.1b -> 0.1a ; 0.1a -> E0.0 0.0t ;" ∷ [])
endless_while = refl

-- 6.6: a constant expression without a value is no known test
no_value : IsDrawn
    ("void f ( void ) { while ( 1 / 0 ) ; }" ∷ [])
    ("b -> 0b ; a ; 0b -> E0.0.1 0.0t ; 0a -> a ; 0.0t true 0.1b ; 0.0t false 0a ; 0.1b -> 0.1a ;"
    ∷ "0.1a -> E0.0.1 0.0t ;" ∷ [])
no_value = refl

-- 6.8.6: `continue` goes to the test with its call, `break` past the loop
break_and_continue : IsDrawn
    (abc
    ∷ "void f ( void ) { while ( a ( ) ) { if ( n ) break ; continue ; } }" ∷ [])
    ("b -> 0b ; a ; 0b -> 0.0.1b ; 0a -> a ; 0.0t true 0.1b ; 0.0t false 0a ; 0.0.1b -> 0.0.1a ;"
    ∷ "0.0.1a -> 0.0t ; 0.1b -> 0.1.0b ; 0.1a -> 0.0.1b ; 0.1.0b -> E0.1.0.0 0.1.0.0t ; 0.1.0a -> 0.1.1b ;"
    ∷ "0.1.0.0t true 0.1.0.1b ; 0.1.0.0t false 0.1.0a ; 0.1.0.1b -> 0a ; 0.1.0.1a -> 0.1.0a ;"
    ∷ "0.1.1b -> 0.0.1b ; 0.1.1a -> 0.1a ;" ∷ [])
break_and_continue = refl

-- 6.8.5.2: the test is made after each execution
do_loop : IsDrawn
    (abc
    ∷ "void f ( void ) { do { if ( n ) continue ; a ( ) ; } while ( b ( ) ) ; }" ∷ [])
    ("b -> 0b ; a ; 0b -> 0.0b ; 0a -> a ; 0.0b -> 0.0.0b ; 0.0a -> 0.1.1b ; 0.0.0b -> E0.0.0.0 0.0.0.0t ;"
    ∷ "0.0.0a -> 0.0.1b ; 0.0.0.0t true 0.0.0.1b ; 0.0.0.0t false 0.0.0a ; 0.0.0.1b -> 0.1.1b ;"
    ∷ "0.0.0.1a -> 0.0.0a ; 0.0.1b -> 0.0.1.0.1b ; 0.0.1a -> 0.0a ; 0.0.1.0.1b -> 0.0.1.0.1a ;"
    ∷ "0.0.1.0.1a -> 0.0.1a ; 0.1t true 0.0b ; 0.1t false 0a ; 0.1.1b -> 0.1.1a ; 0.1.1a -> 0.1t ;" ∷ [])
do_loop = refl

-- 6.8.5.3: `continue` goes to the step; a variable without an initialiser has no points, and has no value
for_loop : IsDrawn
    (abc
    ∷ "void f ( void ) { int i ; for ( i = 0 ; i < n ; i ++ ) { if ( a ( ) ) continue ; b ( ) ; } }" ∷ [])
    ("b -> F0.0 1b ; a ; 1b -> E1.0 E1.1.1 1.1t ; 1a -> a ; 1.1t true 1.3b ; 1.1t false 1a ; 1.3b -> 1.3.0b ;"
    ∷ "1.3a -> E1.2.1 E1.1.1 1.1t ; 1.3.0b -> 1.3.0.0.1b ; 1.3.0a -> 1.3.1b ; 1.3.0.0t true 1.3.0.1b ;"
    ∷ "1.3.0.0t false 1.3.0a ; 1.3.0.0.1b -> 1.3.0.0.1a ; 1.3.0.0.1a -> 1.3.0.0t ;"
    ∷ "1.3.0.1b -> E1.2.1 E1.1.1 1.1t ; 1.3.0.1a -> 1.3.0a ; 1.3.1b -> 1.3.1.0.1b ; 1.3.1a -> 1.3a ;"
    ∷ "1.3.1.0.1b -> 1.3.1.0.1a ; 1.3.1.0.1a -> 1.3.1a ;" ∷ [])
for_loop = refl

-- an absent test holds, and has no point
endless_for : IsDrawn
    (abc
    ∷ "void f ( void ) { for ( ; ; ) a ( ) ; }" ∷ [])
    ("b -> 0b ; a ; 0b -> 0.3b ; 0a -> a ; 0.3b -> 0.3.0.1b ; 0.3a -> 0.3b ; 0.3.0.1b -> 0.3.0.1a ;"
    ∷ "0.3.0.1a -> 0.3a ;" ∷ [])
endless_for = refl

-- a declaration, a test and a step with calls; `break` makes no step
calls_in_for : IsDrawn
    (abc
    ∷ "void f ( void ) { for ( int i = a ( ) ; b ( ) ; c ( ) ) break ; }" ∷ [])
    ("b -> 0b ; a ; 0b -> 0.0b ; 0a -> a ; 0.0b -> 0.0.0.1b ; 0.0a -> 0.1.1b ; 0.0.0.1b -> 0.0.0.1a ;"
    ∷ "0.0.0.1a -> I0.0.0 0.0a ; 0.1t true 0.3b ; 0.1t false 0a ; 0.1.1b -> 0.1.1a ; 0.1.1a -> 0.1t ;"
    ∷ "0.2.1b -> 0.2.1a ; 0.2.1a -> 0.1.1b ; 0.3b -> 0a ; 0.3a -> 0.2.1b ;" ∷ [])
calls_in_for = refl

-- what a constant test leaves out has its points all the same
constant_if : IsDrawn
    (abc
    ∷ "void f ( void ) { if ( 0 ) a ( ) ; else b ( ) ; }" ∷ [])
    ("b -> 0b ; a ; 0b -> E0.0 0.0t ; 0a -> a ; 0.0t -> 0.2b ; 0.1b -> 0.1.0.1b ; 0.1a -> 0a ;"
    ∷ "0.1.0.1b -> 0.1.0.1a ; 0.1.0.1a -> 0.1a ; 0.2b -> 0.2.0.1b ; 0.2a -> 0a ; 0.2.0.1b -> 0.2.0.1a ;"
    ∷ "0.2.0.1a -> 0.2a ;" ∷ [])
constant_if = refl

-- 6.8.4.1
if_else : IsDrawn
    (abc
    ∷ "void f ( void ) { if ( n ) a ( ) ; else return ; }" ∷ [])
    ("b -> 0b ; a ; 0b -> E0.0 0.0t ; 0a -> a ; 0.0t true 0.1b ; 0.0t false 0.2b ; 0.1b -> 0.1.0.1b ;"
    ∷ "0.1a -> 0a ; 0.1.0.1b -> 0.1.0.1a ; 0.1.0.1a -> 0.1a ; 0.2b -> a ; 0.2a -> 0a ;" ∷ [])
if_else = refl

-- a loop into which a `switch` jumps, and whose statements fall from one case into the next
loop_in_a_switch : IsDrawn
    (abc
    ∷ "void f ( void ) { switch ( n ) { case 0 : do { a ( ) ; case 1 : b ( ) ; } while ( c ( ) ) ; } }" ∷ [])
    ("b -> 0b ; a ; 0b -> E0.0 0.0t ; 0a -> a ; 0.0t case0 0.1.0b ; 0.0t case1 0.1.0.1.0.1b ;"
    ∷ "0.0t default 0a ; 0.1b -> 0.1.0b ; 0.1a -> 0a ; 0.1.0b -> 0.1.0.1b ; 0.1.0a -> 0.1a ;"
    ∷ "0.1.0.1b -> 0.1.0.1.0b ; 0.1.0.1a -> 0.1.0a ; 0.1.0.1.0b -> 0.1.0.1.0.0b ; 0.1.0.1.0a -> 0.1.0.1.1.1b ;"
    ∷ "0.1.0.1.0.0b -> 0.1.0.1.0.0.0.1b ; 0.1.0.1.0.0a -> 0.1.0.1.0.1b ; 0.1.0.1.0.0.0.1b -> 0.1.0.1.0.0.0.1a ;"
    ∷ "0.1.0.1.0.0.0.1a -> 0.1.0.1.0.0a ; 0.1.0.1.0.1b -> 0.1.0.1.0.1.1b ; 0.1.0.1.0.1a -> 0.1.0.1.0a ;"
    ∷ "0.1.0.1.0.1.1b -> 0.1.0.1.0.1.1.0.1b ; 0.1.0.1.0.1.1a -> 0.1.0.1.0.1a ;"
    ∷ "0.1.0.1.0.1.1.0.1b -> 0.1.0.1.0.1.1.0.1a ; 0.1.0.1.0.1.1.0.1a -> 0.1.0.1.0.1.1a ;"
    ∷ "0.1.0.1.1t true 0.1.0.1.0b ; 0.1.0.1.1t false 0.1.0.1a ; 0.1.0.1.1.1b -> 0.1.0.1.1.1a ;"
    ∷ "0.1.0.1.1.1a -> 0.1.0.1.1t ;" ∷ [])
loop_in_a_switch = refl

-- a `switch` in a `switch`: each has its own cases, default and `break`
nested_switches : IsDrawn
    (abc
    ∷ "void f ( void ) { switch ( n ) { case 1 : switch ( n ) { default : break ; case 2 : ; } break ;"
    ∷ "default : a ( ) ; } b ( ) ; }" ∷ [])
    ("b -> 0b ; a ; 0b -> E0.0 0.0t ; 0a -> 1b ; 0.0t case0 0.1.0b ; 0.0t default 0.1.2b ; 0.1b -> 0.1.0b ;"
    ∷ "0.1a -> 0a ; 0.1.0b -> 0.1.0.1b ; 0.1.0a -> 0.1.1b ; 0.1.0.1b -> E0.1.0.1.0 0.1.0.1.0t ;"
    ∷ "0.1.0.1a -> 0.1.0a ; 0.1.0.1.0t case0 0.1.0.1.1.1b ; 0.1.0.1.0t default 0.1.0.1.1.0b ;"
    ∷ "0.1.0.1.1b -> 0.1.0.1.1.0b ; 0.1.0.1.1a -> 0.1.0.1a ; 0.1.0.1.1.0b -> 0.1.0.1.1.0.0b ;"
    ∷ "0.1.0.1.1.0a -> 0.1.0.1.1.1b ; 0.1.0.1.1.0.0b -> 0.1.0.1a ; 0.1.0.1.1.0.0a -> 0.1.0.1.1.0a ;"
    ∷ "0.1.0.1.1.1b -> 0.1.0.1.1.1.1b ; 0.1.0.1.1.1a -> 0.1.0.1.1a ; 0.1.0.1.1.1.1b -> 0.1.0.1.1.1.1a ;"
    ∷ "0.1.0.1.1.1.1a -> 0.1.0.1.1.1a ; 0.1.1b -> 0a ; 0.1.1a -> 0.1.2b ; 0.1.2b -> 0.1.2.0b ; 0.1.2a -> 0.1a ;"
    ∷ "0.1.2.0b -> 0.1.2.0.0.1b ; 0.1.2.0a -> 0.1.2a ; 0.1.2.0.0.1b -> 0.1.2.0.0.1a ;"
    ∷ "0.1.2.0.0.1a -> 0.1.2.0a ; 1b -> 1.0.1b ; 1a -> a ; 1.0.1b -> 1.0.1a ; 1.0.1a -> 1a ;" ∷ [])
nested_switches = refl

-- 6.8.4.2: of a constant one way, to its case
constant_switch : IsDrawn
    (abc
    ∷ "void f ( void ) { switch ( 2 ) { case 1 : a ( ) ; case 2 : b ( ) ; } }" ∷ [])
    ("b -> 0b ; a ; 0b -> E0.0 0.0t ; 0a -> a ; 0.0t -> 0.1.1b ; 0.1b -> 0.1.0b ; 0.1a -> 0a ;"
    ∷ "0.1.0b -> 0.1.0.1b ; 0.1.0a -> 0.1.1b ; 0.1.0.1b -> 0.1.0.1.0.1b ; 0.1.0.1a -> 0.1.0a ;"
    ∷ "0.1.0.1.0.1b -> 0.1.0.1.0.1a ; 0.1.0.1.0.1a -> 0.1.0.1a ; 0.1.1b -> 0.1.1.1b ; 0.1.1a -> 0.1a ;"
    ∷ "0.1.1.1b -> 0.1.1.1.0.1b ; 0.1.1.1a -> 0.1.1a ; 0.1.1.1.0.1b -> 0.1.1.1.0.1a ;"
    ∷ "0.1.1.1.0.1a -> 0.1.1.1a ;" ∷ [])
constant_switch = refl

-- or past the `switch`
constant_past_the_switch : IsDrawn
    ("void f ( void ) { switch ( 3 ) { case 1 : ; } }" ∷ [])
    ("b -> 0b ; a ; 0b -> E0.0 0.0t ; 0a -> a ; 0.0t -> 0a ; 0.1b -> 0.1.0b ; 0.1a -> 0a ;"
    ∷ "0.1.0b -> 0.1.0.1b ; 0.1.0a -> 0.1a ; 0.1.0.1b -> 0.1.0.1a ; 0.1.0.1a -> 0.1.0a ;" ∷ [])
constant_past_the_switch = refl

-- or to its default
constant_to_the_default : IsDrawn
    ("void f ( void ) { switch ( 3 ) { default : ; case 1 : ; } }" ∷ [])
    ("b -> 0b ; a ; 0b -> E0.0 0.0t ; 0a -> a ; 0.0t -> 0.1.0b ; 0.1b -> 0.1.0b ; 0.1a -> 0a ;"
    ∷ "0.1.0b -> 0.1.0.0b ; 0.1.0a -> 0.1.1b ; 0.1.0.0b -> 0.1.0.0a ; 0.1.0.0a -> 0.1.0a ; 0.1.1b -> 0.1.1.1b ;"
    ∷ "0.1.1a -> 0.1a ; 0.1.1.1b -> 0.1.1.1a ; 0.1.1.1a -> 0.1.1a ;" ∷ [])
constant_to_the_default = refl

-- a label has the type of the controlling expression
converted_case : IsDrawn
    ("void f ( void ) { switch ( 4294967295U ) { case - 1 : ; } }" ∷ [])
    ("b -> 0b ; a ; 0b -> E0.0 0.0t ; 0a -> a ; 0.0t -> 0.1.0b ; 0.1b -> 0.1.0b ; 0.1a -> 0a ;"
    ∷ "0.1.0b -> 0.1.0.1b ; 0.1.0a -> 0.1a ; 0.1.0.1b -> 0.1.0.1a ; 0.1.0.1a -> 0.1.0a ;" ∷ [])
converted_case = refl

-- 6.8.6.1
goto_into_a_block : IsDrawn
    (abc
    ∷ "void f ( void ) { goto in ; { a ( ) ; in : b ( ) ; } }" ∷ [])
    ("b -> 0b ; a ; 0b -> 1.1b ; 0a -> 1b ; 1b -> 1.0b ; 1a -> a ; 1.0b -> 1.0.0.1b ; 1.0a -> 1.1b ;"
    ∷ "1.0.0.1b -> 1.0.0.1a ; 1.0.0.1a -> 1.0a ; 1.1b -> 1.1.0b ; 1.1a -> 1a ; 1.1.0b -> 1.1.0.0.1b ;"
    ∷ "1.1.0a -> 1.1a ; 1.1.0.0.1b -> 1.1.0.0.1a ; 1.1.0.0.1a -> 1.1.0a ;" ∷ [])
goto_into_a_block = refl

-- out of a loop in a `switch` to a label before it
goto_back : IsDrawn
    ("int n ; void f ( void ) { again : switch ( n ) { case 1 : while ( n ) goto again ; } }" ∷ [])
    ("b -> 0b ; a ; 0b -> 0.0b ; 0a -> a ; 0.0b -> E0.0.0 0.0.0t ; 0.0a -> 0a ; 0.0.0t case0 0.0.1.0b ;"
    ∷ "0.0.0t default 0.0a ; 0.0.1b -> 0.0.1.0b ; 0.0.1a -> 0.0a ; 0.0.1.0b -> 0.0.1.0.1b ;"
    ∷ "0.0.1.0a -> 0.0.1a ; 0.0.1.0.1b -> E0.0.1.0.1.0 0.0.1.0.1.0t ; 0.0.1.0.1a -> 0.0.1.0a ;"
    ∷ "0.0.1.0.1.0t true 0.0.1.0.1.1b ; 0.0.1.0.1.0t false 0.0.1.0.1a ; 0.0.1.0.1.1b -> 0b ;"
    ∷ "0.0.1.0.1.1a -> E0.0.1.0.1.0 0.0.1.0.1.0t ;" ∷ [])
goto_back = refl
