-- Worked texts of statements, declarations and files, computed on the reader: each statement of C99 6.8 once.
use Rattle.std.proofs.Common.{[], ◌∷◌, refl}
use Rattle.std.specs.Prelude.{codes}
use Rattle.ck_grammar.proofs.Grouping.{States, Files}

-- 6.8.1
labels : States [] "a : b : ;" "a : begin b : begin ; end end"
labels = refl

cases : States [] "switch ( a ) { case 1 : default : b ; c ; }"
    "switch ( a ) begin { begin case 1 : begin default : begin b ; end end end begin c ; end } end"
cases = refl

-- 6.8.2: a block of declarations and statements, where a typedef name begins a declaration and a label a statement
blocks : States (codes "t" ∷ []) "{ int i = 1 ; t j ; t : ; i ; { } }"
    "{ int i = 1 ; t j ; begin t : begin ; end end begin i ; end begin { } end }"
blocks = refl

-- 6.8.3
expressions : States [] "a = b , c ;" "{ { a = b } , c } ;"
expressions = refl

-- 6.8.4.1: an `else` belongs to the nearest `if`
ifs : States [] "if ( a ) if ( b ) x ; else y ;" "if ( a ) begin if ( b ) begin x ; end else begin y ; end end"
ifs = refl

-- 6.8.5
whiles : States [] "while ( a ) if ( b ) break ; else continue ;"
    "while ( a ) begin if ( b ) begin break ; end else begin continue ; end end"
whiles = refl

dos : States [] "do x ; while ( a , b ) ;" "do begin x ; end while ( { a , b } ) ;"
dos = refl

fors : States [] "for ( i = 0 ; i < n ; i ++ ) x ;" "for ( { i = 0 } ; { i < n } ; { i ++ } ) begin x ; end"
fors = refl

fors_that_declare : States [] "for ( int i = 0 ; ; ) for ( ; ; ) x ;"
    "for ( int i = 0 ; ; ) begin for ( ; ; ) begin x ; end end"
fors_that_declare = refl

-- 6.8.6
jumps : States [] "{ goto a ; continue ; break ; return ; return a + b ; }"
    "{ begin goto a ; end begin continue ; end begin break ; end begin return ; end begin return { a + b } ; end }"
jumps = refl

-- 6.7: declarators, initialisers and what begins a type
declarations : Files "int ( * f ( void ) ) ( int ) ; void ( * signal ( int s , void ( * h ) ( int ) ) ) ( int ) ;"
    "begin int ( * f ( void ) ) ( int ) ; end begin void ( * signal ( int s , void ( * h ) ( int ) ) ) ( int ) ; end"
declarations = refl

initialisers : Files "const struct { int a , b ; } x [ 2 ] = { [ 1 ] = { . b = 3 } , } ;"
    "begin const struct { int a , b ; } x [ 2 ] = { [ 1 ] = { . b = 3 } , } ; end"
initialisers = refl

-- 6.2.3, 6.7.7: a name that a declaration makes a typedef name is a type after it, and a member may be called so too
typedefs : Files "typedef int t ; struct s { t t ; } ; t f ( t ) { ( t ) - 1 ; }"
    "begin typedef int t ; end begin struct s { t t ; } ; end begin t f ( t ) { begin { ( t ) { - 1 } } ; end } end"
typedefs = refl

-- 6.9.1
definitions : Files "static inline unsigned long long int f ( int a , ... ) ; enum e { A , B = 2 , } g ( void ) { }"
    "begin static inline unsigned long long int f ( int a , ... ) ; end begin enum e { A , B = 2 , } g ( void ) { } end"
definitions = refl
