-- Worked projects on function values, pointers to them and calls (U15 to U18),
-- computed on the definitions.
use Rattle.std.proofs.Common.{refl}
use Rattle.std.specs.Prelude.{[], ◌∷◌, codes}
use Rattle.ck_base.specs.declared.refusals.Unsupported.TheVariants.{U15, U16, U17, U18}
use Rattle.ck_kernel.specs.KernelTable.{kernel_table}
use Rattle.ck_prog.proofs.ProjectTexts.{Accepted, AcceptedWith, Refused, RefusedWith}

-- a function cast to int
function_pointer_as_number : Refused U15
    (("int f ( void ) { return 0 ; } int main ( void ) { return f ( ) + @ ( int ) f ; }" ∷ []) ∷ [])
unfolding kernel_table
function_pointer_as_number = refl

-- a cast between two function pointer types
function_pointer_to_another : Refused U15
    (("int f ( int a ) { return a ; } int ( * p ) ( int ) = ( int ( * ) ( int ) ) f ;"
    ∷ "int ( * q ) ( void ) = @ ( int ( * ) ( void ) ) f ; int main ( void ) { return p ( 0 ) ; }" ∷ []) ∷ [])
unfolding kernel_table
function_pointer_to_another = refl

-- (void)f of a function f
function_pointer_to_void : Refused U15
    (("int f ( void ) { return 0 ; } int main ( void ) { ( void ) f ( ) ; @ ( void ) f ; return 0 ; }" ∷ []) ∷ [])
unfolding kernel_table
function_pointer_to_void = refl

-- an address cast to a function pointer
number_as_function_pointer : Refused U15
    (("typedef void ( * entry_t ) ( void ) ; int main ( void ) {"
    ∷ "entry_t e = ( entry_t ) ( 1 - 1 ) , b = ( entry_t ) ( void * ) 0 ; if ( e || b ) return 1 ;"
    ∷ "e = @ ( entry_t ) 0x08000000 ; e ( ) ; }" ∷ []) ∷ [])
unfolding kernel_table
number_as_function_pointer = refl

-- a function without a body in an initialiser
outside_function_as_value : Refused U15
    (("int f ( void ) { return 0 ; } int away ( void ) ;"
    ∷ "struct s { int ( * one ) ( void ) , ( * two ) ( void ) ; } v = { f , @ away } ;"
    ∷ "int main ( void ) { return v . one ( ) ; }" ∷ []) ∷ [])
unfolding kernel_table
outside_function_as_value = refl

-- sizeof &f of a function without a body
outside_function_in_sizeof : Refused U15
    (("int away ( void ) ; int n = sizeof & @ away ; int main ( void ) { return n == 0 ; }" ∷ []) ∷ [])
unfolding kernel_table
outside_function_in_sizeof = refl

-- a kernel function as a value
kernel_function_as_value : Refused U15
    (("void chSysInit ( void ) ; void chSysLock ( void ) ; int main ( void ) { void ( * p ) ( void ) ;"
    ∷ "chSysInit ( ) ; p = @ chSysLock ; p ( ) ; }" ∷ []) ∷ [])
unfolding kernel_table
kernel_function_as_value = refl

-- functions with a body as values, same-type casts
function_values : Accepted
    (("int there ( int a ) { return a ; }" ∷ [])
    ∷ ("typedef int ( * fn ) ( int ) ; int there ( int a ) ; static int here ( int a ) ; fn p = there ;"
    ∷ "fn q = & here ; int ( * pick ( int n ) ) ( int ) { return n ? here : * there ; }"
    ∷ "static int here ( int a ) { return a + 1 ; }"
    ∷ "int use ( int f ( int ) , fn g ) { return ( * f ) ( 1 ) + g ( 2 ) + ( * * * f ) ( 3 ) ; }"
    ∷ "int main ( void ) { fn r = ( fn ) there ; r = ( int ( * ) ( int ) ) 0 ; r = ( fn ) p ;"
    ∷ "if ( r != there || ! q || p == ( void * ) 0 ) return 1 ;"
    ∷ "return use ( there , here ) + pick ( 0 ) ( 4 ) + ( r ? r : here ) ( 5 ) + ( 0 , there ) ( 6 ) ;"
    ∷ "}" ∷ [])
    ∷ [])
function_values = refl

-- & of a function pointer variable
address_of_function_pointer : Refused U16
    (("int f ( void ) { return 0 ; } int ( * p ) ( void ) = f ; int main ( void ) {"
    ∷ "int ( * q ) ( void ) = & * p ; q = & f ; return q ( ) + ( @ & p != 0 ) ; }" ∷ []) ∷ [])
address_of_function_pointer = refl

-- a parameter fn all[] is a fn *
parameter_array_of_function_pointers : Refused U16
    (("typedef int ( * fn ) ( void ) ; int f ( fn one , fn @ all [ ] ) { return one ( ) ; }"
    ∷ "int main ( void ) { return 0 ; }" ∷ []) ∷ [])
parameter_array_of_function_pointers = refl

-- a variable of type fn *
declarator_of_pointer_to_function_pointer : Refused U16
    (("typedef int ( * fn ) ( void ) ; fn one , @ * two ; int main ( void ) { return 0 ; }" ∷ []) ∷ [])
declarator_of_pointer_to_function_pointer = refl

-- an array of function pointers under *
table_of_functions_as_value : Refused U16
    (("int f ( void ) { return 0 ; } int ( * const t [ 2 ] ) ( void ) = { f , f } ; int main ( void ) {"
    ∷ "return t [ 1 ] ( ) + ( * @ t ) ( ) ; }" ∷ []) ∷ [])
table_of_functions_as_value = refl

-- an outer expression of that type comes first
comma_before_address_of_function_pointer : Refused U16
    (("int f ( void ) { return 0 ; } int ( * p ) ( void ) = f ; int main ( void ) { int x = 0 ;"
    ∷ "if ( @ x = 1 , & p ) return x - 1 ; return 2 ; }" ∷ []) ∷ [])
comma_before_address_of_function_pointer = refl

-- arrays of function pointers under an index
tables_of_functions : Accepted
    (("typedef int ( * fn ) ( void ) ; int f ( void ) { return 1 ; } int g ( void ) { return 2 ; }"
    ∷ "fn t [ ] = { f , [ 2 ] = g } ; extern fn t [ 3 ] ;"
    ∷ "struct s { fn in [ 2 ] ; fn one ; } v = { { g } , f } ;"
    ∷ "int n [ sizeof t / sizeof t [ 0 ] + sizeof v . in / sizeof ( fn ) ] ; extern int n [ 5 ] ;"
    ∷ "int main ( void ) { struct s * p = & v ; int i = 0 ; fn local [ 2 ] = { 0 , f } ;"
    ∷ "p -> in [ 1 ] = t [ 0 ] ; t [ 1 ] = local [ 1 ] ; while ( i < 3 ) t [ i ++ ] ( ) ;"
    ∷ "if ( t [ 2 ] == g && ! local [ 0 ] ) v . one = * t [ 2 ] ;"
    ∷ "return ( * p -> in [ 0 ] ) ( ) + p -> one ( ) + n [ 0 ] ; }" ∷ []) ∷ [])
tables_of_functions = refl

-- four arguments with calls
four_arguments_with_calls : Refused U17
    (("int a ( void ) { return 1 ; } int h ( int p , int q , int r , int s ) { return p + q + r + s ; }"
    ∷ "int main ( void ) { return 1 + @ h ( a ( ) , - a ( ) , 2 * a ( ) , ( a ( ) , 3 ) ) ; }" ∷ []) ∷ [])
four_arguments_with_calls = refl

-- the called expression is the fourth
called_expression_counts : Refused U17
    (("struct s { struct s * next ; int ( * h ) ( int , int , int ) ; } ; int a ( void ) { return 0 ; }"
    ∷ "int h ( int p , int q , int r ) { return p + q + r ; } struct s v = { & v , h } ;"
    ∷ "struct s * get ( void ) { return & v ; } int main ( void ) {"
    ∷ "return @ get ( ) -> next -> h ( a ( ) , a ( ) , a ( ) ) ; }" ∷ []) ∷ [])
called_expression_counts = refl

-- three operands with calls, chains, lists
three_operands_with_calls : Accepted
    (("struct s { struct s * next ; int ( * h ) ( int , int , int ) ; } ; int a ( void ) { return 0 ; }"
    ∷ "int h ( int p , int q , int r ) { return p + q + r ; }"
    ∷ "int k ( int p , int q , int r , int s , int t ) { return p + q + r + s + t ; }"
    ∷ "struct s v = { & v , h } ; struct s * get ( void ) { return & v ; } int main ( void ) {"
    ∷ "int t [ 5 ] = { a ( ) , a ( ) , a ( ) , a ( ) , a ( ) } ;"
    ∷ "int n = a ( ) + a ( ) - a ( ) + a ( ) * a ( ) - a ( ) ;"
    ∷ "t [ a ( ) ] = h ( a ( ) , a ( ) , a ( ) ) ;"
    ∷ "n += k ( a ( ) , 0 , a ( ) + a ( ) , ( a ( ) , a ( ) , a ( ) ) , n ? 1 : 2 ) ;"
    ∷ "n += get ( ) -> h ( a ( ) , sizeof ( int ) , a ( ) ) ;"
    ∷ "return n + ( a ( ) || a ( ) || a ( ) || a ( ) ) ; }" ∷ []) ∷ [])
three_operands_with_calls = refl

-- a call of an outside function
outside_function : Refused U18
    (("int away ( int n ) ; int f ( void ) { return @ away ( 1 ) ; } int main ( void ) { return 0 ; }" ∷ []) ∷ [])
unfolding kernel_table
outside_function = refl

-- a called name in parentheses
outside_function_in_parentheses : Refused U18
    (("int away ( int n ) ; int main ( void ) { return 1 + ( ( @ away ) ) ( 1 ) ; }" ∷ []) ∷ [])
unfolding kernel_table
outside_function_in_parentheses = refl

-- the body is static in another file
static_of_another_file : Refused U18
    (("static int get ( void ) { return 1 ; } int use ( void ) { return get ( ) ; }" ∷ [])
    ∷ ("int get ( void ) ; int use ( void ) ; int main ( void ) { return use ( ) + @ get ( ) ; }" ∷ [])
    ∷ [])
unfolding kernel_table
static_of_another_file = refl

-- a named function takes a function
named_with_function_pointer : RefusedWith (record {
  vectors = [];
  callbacks = [];
  functions = codes "note" ∷ codes "hook" ∷ [];
}) U18
    (("void note ( int n ) ; void hook ( int n , void cb ( int ) ) ; int main ( void ) { note ( 1 ) ;"
    ∷ "@ hook ( 2 , 0 ) ; return 0 ; }" ∷ []) ∷ [])
unfolding kernel_table
named_with_function_pointer = refl

-- outside functions with their class
named_outside_functions : AcceptedWith (record {
  vectors = [];
  callbacks = (codes "cfg", codes "cb") ∷ [];
  functions = codes "start" ∷ codes "poll" ∷ codes "body" ∷ codes "absent" ∷ [];
})
    (("int body ( int n ) { return n ; }" ∷ [])
    ∷ ("struct cfg { int n ; void ( * cb ) ( void * ) ; } ; void chSysInit ( void ) ;"
    ∷ "void start ( const struct cfg * c ) ; int poll ( void ) , body ( int n ) ;"
    ∷ "static void done ( void * p ) { } const struct cfg c = { 1 , done } ; int main ( void ) {"
    ∷ "chSysInit ( ) ; start ( & c ) ; return ( poll ) ( ) + body ( 2 ) ; }" ∷ [])
    ∷ [])
unfolding kernel_table
named_outside_functions = refl
