-- Worked projects on names without a declaration (U8) and names that are defined twice (U9),
-- computed on the definitions.
use Rattle.std.proofs.Common.{refl}
use Rattle.std.specs.Prelude.{[], ◌∷◌}
use Rattle.ck_base.specs.declared.refusals.Unsupported.TheVariants.{U8, U9}
use Rattle.ck_kernel.specs.KernelTable.{kernel_table}
use Rattle.ck_prog.proofs.ProjectTexts.{Accepted, Refused}

-- b is declared nowhere
name_not_declared : Refused U8
    (("int main ( void ) { int a = 1 ; return a + @ b ; }" ∷ []) ∷ [])
name_not_declared = refl

-- an enumerator of an if's test ends with the if
enum_left_with_if : Refused U8
    (("int main ( void ) { if ( sizeof ( enum { ONE = 1 } ) > 1 ) ; return @ ONE ; }" ∷ []) ∷ [])
enum_left_with_if = refl

-- enumerators in sizeof, each in its statement's scope
enum_seen_inside_if : Accepted
    (("int x [ sizeof ( enum { K = 3 } ) * 0 + K ] ; extern int x [ 3 ] ; int main ( void ) {"
    ∷ "if ( sizeof ( enum { ONE = 1 } ) > 1 ) return ONE - 1 ; if ( sizeof ( enum { ONE = 2 } ) > 1 )"
    ∷ "return ONE ; while ( sizeof ( enum { ONE = 4 } ) < 1 ) return ONE ; return 0 ; }" ∷ []) ∷ [])
enum_seen_inside_if = refl

-- a for's variable ends with the for
for_variable_left : Refused U8
    (("int main ( void ) { int n = 0 ; for ( int i = 0 ; i < 3 ; i ++ ) { n += i ; } return n + @ i ; }" ∷ []) ∷ [])
for_variable_left = refl

-- a for's body hides its variable; the outer one returns
for_variable_hidden : Accepted
    (("int i ; int main ( void ) { for ( int i = 0 ; i < 3 ; i ++ ) { char i = 1 ; i = i + 1 ; }"
    ∷ "for ( int i = sizeof i ; i < 3 ; i ++ ) ; return i ; }" ∷ []) ∷ [])
for_variable_hidden = refl

-- a kernel name of the table without a prototype
table_name_not_declared : Refused U8
    (("void chSysLock ( void ) ; int main ( void ) { @ chSysInit ( ) ; return 0 ; }" ∷ []) ∷ [])
unfolding kernel_table
table_name_not_declared = refl

-- an enumerator isn't in scope in its own value
enumerator_in_own_value : Refused U8
    (("enum { A = @ A + 1 , B } ; int main ( void ) { return B ; }" ∷ []) ∷ [])
enumerator_in_own_value = refl

-- scope begins after the declarator, or after the enumerator
own_initialiser : Accepted
    (("enum { A = 1 , B = A + 1 } ; int t [ B ] ; extern int t [ 2 ] ; int main ( void ) {"
    ∷ "int n = sizeof n ; enum { A = A + 4 } ; extern int w [ A ] ; return n - 4 + w [ 0 ] ; }"
    ∷ "int w [ 5 ] ;" ∷ []) ∷ [])
own_initialiser = refl

-- an undeclared size: U8 before U11 at one place
size_not_declared : Refused U8
    (("int a [ @ n ] ; int main ( void ) { return a [ 0 ] ; }" ∷ []) ∷ [])
size_not_declared = refl

-- a function with two bodies
two_bodies : Refused U9
    (("int f ( void ) { return 0 ; } int @ f ( void ) { return 1 ; }"
    ∷ "int main ( void ) { return f ( ) ; }" ∷ []) ∷ [])
two_bodies = refl

-- a body's outermost block is the parameters' scope
parameter_and_local : Refused U9
    (("int f ( int a ) { int @ a = 2 ; return a ; } int main ( void ) { return f ( 1 ) ; }" ∷ []) ∷ [])
parameter_and_local = refl

-- inner blocks declare a parameter's name again
block_hides_parameter : Accepted
    (("int f ( int a ) { { int a = 2 ; a ++ ; } for ( int a = 0 ; a < 2 ; a ++ ) { int a = 3 ; a ++ ; }"
    ∷ "return a ; } int main ( void ) { return f ( 0 ) ; }" ∷ []) ∷ [])
block_hides_parameter = refl

-- one name for two parameters of a prototype
prototype_parameters_twice : Refused U9
    (("int f ( int a , char * @ a ) ; int main ( void ) { return 0 ; }" ∷ []) ∷ [])
prototype_parameters_twice = refl

-- case values are one after conversion to unsigned int
case_after_conversion : Refused U9
    (("int f ( unsigned u ) { switch ( u ) { case 0xFFFFFFFF : return 1 ; @ case - 1 : return 2 ; }"
    ∷ "return 0 ; } int main ( void ) { return f ( 0 ) ; }" ∷ []) ∷ [])
case_after_conversion = refl

-- case values are converted to int, not to char
case_beside_char : Accepted
    (("int f ( unsigned char c ) { switch ( c ) { case 0 : return 1 ; case 256 : return 2 ;"
    ∷ "case - 1 : return 3 ; } return 0 ; } int main ( void ) { return f ( 0 ) ; }" ∷ []) ∷ [])
case_beside_char = refl

-- a second default; that of an inner switch is none
default_twice : Refused U9
    (("int f ( int n ) { switch ( n ) { default : return 1 ; case 1 :"
    ∷ "switch ( n ) { default : return 2 ; } @ default : return 3 ; } }"
    ∷ "int main ( void ) { return f ( 0 ) ; }" ∷ []) ∷ [])
default_twice = refl

-- labels have function scope
label_twice : Refused U9
    (("int main ( void ) { int n = 0 ; again : n ++ ; { @ again : n ++ ; } if ( n < 5 ) goto again ;"
    ∷ "return 0 ; }" ∷ []) ∷ [])
label_twice = refl

-- defined in two files: the later real definition
real_definition_in_second_file : Refused U9
    (("int x ;" ∷ [])
    ∷ ("int x ; extern int x ; int @ x = 2 ; int main ( void ) { return x ; }" ∷ [])
    ∷ [])
real_definition_in_second_file = refl

-- tentative ones join; statics of two files differ
tentative_definitions : Accepted
    (("int x ; int x ; extern int x ; int x = 1 ; int x ; static int y ; static int y = 2 ;"
    ∷ "int geta ( void ) { return x + y ; }" ∷ [])
    ∷ ("extern int x ; static int y = 3 ; int geta ( void ) ;"
    ∷ "int main ( void ) { return x + y + geta ( ) ; }" ∷ [])
    ∷ [])
tentative_definitions = refl

-- an enumerator and a variable share a name space
enumerator_and_variable : Refused U9
    (("enum colour { RED , BLUE } ; int @ RED ; int main ( void ) { return BLUE ; }" ∷ []) ∷ [])
enumerator_and_variable = refl

-- one name as tag, member, label and variable
name_spaces : Accepted
    (("struct s { int s ; int t ; } ; enum t { u } ; int s ; int main ( void ) { struct s t ;"
    ∷ "enum t v = u ; t . s = 0 ; t . t = v ; s : if ( t . s ++ < 2 ) goto s ; return s + t . t ; }" ∷ []) ∷ [])
name_spaces = refl

-- a second body for one tag in one scope
tag_body_twice : Refused U9
    (("struct s { int a ; } ; struct @ s { int a ; } ; int main ( void ) { return 0 ; }" ∷ []) ∷ [])
tag_body_twice = refl

-- an inner struct of the same tag is another type
tag_body_in_inner_scope : Accepted
    (("struct s { int a [ 3 ] ; } ; int x [ sizeof ( struct s ) / 4 ] ; extern int x [ 3 ] ;"
    ∷ "int main ( void ) { struct s { int b [ 5 ] ; } v ; extern int y [ sizeof ( struct s ) / 4 ] ;"
    ∷ "v . b [ 0 ] = 0 ; return v . b [ 0 ] + y [ 1 ] ; } int y [ 5 ] ;"
    ∷ "int z [ sizeof ( struct s ) / 4 ] ; extern int z [ 3 ] ;" ∷ []) ∷ [])
tag_body_in_inner_scope = refl

-- one member name twice in one struct
member_twice : Refused U9
    (("struct s { int a ; struct { int a ; } in ; char * @ a ; } ; int main ( void ) { return 0 ; }" ∷ []) ∷ [])
member_twice = refl
