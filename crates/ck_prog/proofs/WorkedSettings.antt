-- Worked projects on the names of the settings, and on several rules at once,
-- computed on the definitions.
use Rattle.std.proofs.Common.{refl}
use Rattle.std.specs.Prelude.{[], ◌∷◌, codes}
use Rattle.ck_base.specs.declared.refusals.Unsupported.TheVariants.{U9, U10, U11, U14, U26}
use Rattle.ck_kernel.specs.KernelTable.{kernel_table}
use Rattle.ck_prog.specs.SettingsNames.{CallbackMember, VectorFunction}
use Rattle.ck_prog.proofs.ProjectTexts.{Accepted, AcceptedWith, Missing, Refused, RefusedWith}

-- callbacks of a tag and of a typedef name
callback_by_typedef_and_tag : AcceptedWith (record {
  vectors = [];
  callbacks = (codes "uart", codes "rx") ∷ (codes "timer_cfg", codes "done") ∷ [];
  functions = codes "reg" ∷ [];
})
    (("void chSysInit ( void ) ; void reg ( const void * c ) ;"
    ∷ "struct uart { int speed ; void ( * rx ) ( int ) , ( * tx ) ( void ) ; } ;"
    ∷ "typedef struct { int rx ; } UART ;"
    ∷ "typedef struct { void ( * done ) ( void * p , int n ) ; } timer_cfg ;"
    ∷ "static void rx ( int n ) { } static void done ( void * p , int n ) { }"
    ∷ "const struct uart u = { 9600 , rx } ; static timer_cfg t = { done } ; int main ( void ) {"
    ∷ "struct uart { int other ; } v = { 0 } ; chSysInit ( ) ; reg ( & u ) ; reg ( & t ) ;"
    ∷ "return v . other ; }" ∷ []) ∷ [])
unfolding kernel_table
callback_by_typedef_and_tag = refl

-- a callback's member is an array
callback_array_member : Missing (record {
  vectors = [];
  callbacks = (codes "uart", codes "rx") ∷ (codes "uart", codes "all") ∷ [];
  functions = [];
}) (CallbackMember 1)
    (("struct uart { void ( * rx ) ( void ) ; void ( * all [ 2 ] ) ( void ) ; } ; struct uart u ;"
    ∷ "int main ( void ) { int * p = 1 ; return 0 ; }" ∷ []) ∷ [])
callback_array_member = refl

-- a vector's function is static
vector_that_is_static : Missing (record {
  vectors = codes "Vector40" ∷ [];
  callbacks = [];
  functions = [];
}) (VectorFunction 0)
    (("static void Vector40 ( void ) { } int main ( void ) { Vector40 ( ) ; return 0 ; }" ∷ []) ∷ [])
vector_that_is_static = refl

-- extern in blocks, with and without a declaration in sight
linkage_in_blocks : Accepted
    (("int shared = 1 ; static int hidden = 2 ; int geta ( void ) { int n = 0 ; {"
    ∷ "extern int hidden , shared ; n = hidden + shared ; } return n ; }" ∷ [])
    ∷ ("int main ( void ) { int hidden = 0 ; extern int shared ; int geta ( void ) ; {"
    ∷ "extern int shared ; shared = hidden ; } return geta ( ) - 2 ; } static char hidden ;" ∷ [])
    ∷ [])
linkage_in_blocks = refl

-- a block's extern against another file
extern_in_block_of_another_type : Refused U10
    (("unsigned shared ;" ∷ [])
    ∷ ("int main ( void ) { unsigned n = 1 ; { extern int @ shared ; n = shared ; } return n ; }" ∷ [])
    ∷ [])
extern_in_block_of_another_type = refl

-- U9 in the second file before U14 in the first
linking_before_typing : Refused U9
    (("int * p = 1 ; int f ( char * c ) { return c * 2 ; }" ∷ [])
    ∷ ("int main ( void ) { int * q = 2 ; int n = 0 ; char @ n = 1 ; return n ; }" ∷ [])
    ∷ [])
linking_before_typing = refl

-- U14 in the first file before U19 in the second
first_file_first : Refused U14
    (("struct s { int a ; } v ; int f ( void ) { return @ v + 1 ; }" ∷ [])
    ∷ ("int main ( void ) { break ; return 0 ; }" ∷ [])
    ∷ [])
first_file_first = refl

-- arguments, results, compound assignments
arguments_and_results : Accepted
    (("struct s { int a ; } ; struct s make ( int a ) { struct s v = { 0 } ; v . a = a ; return v ; }"
    ∷ "int count ( const char * s ) { int n = 0 ; while ( * s ++ ) n ++ ; return n ; }"
    ∷ "long long wide ( char c , short h , unsigned u ) { return c + h - ( u ? u : 1 ) ; }"
    ∷ "_Bool odd ( int n ) { return n & 1 ; } int main ( void ) { char text [ ] = \"abc\" ;"
    ∷ "const char * const list [ 2 ] = { text , \"de\" } ; unsigned n = 0 ;"
    ∷ "for ( unsigned i = 0 , k = 2 ; i < k ; ++ i ) n += count ( list [ i ] ) ; n <<= make ( 1 ) . a ;"
    ∷ "n ^= odd ( n ) ? sizeof text : text [ 1 ] - 'b' ;"
    ∷ "return n > 3 && wide ( 1 , 2 , 3 ) == 0 ? 0 : - 1 ; }" ∷ []) ∷ [])
arguments_and_results = refl

-- a status variable initialised with 0
status_with_another_initialiser : Refused U26
    (("typedef unsigned int syssts_t ; void chSysInit ( void ) ;"
    ∷ "syssts_t chSysGetStatusAndLockX ( void ) ; void chSysRestoreStatusX ( syssts_t sts ) ;"
    ∷ "int main ( void ) { syssts_t @ s = 0 ; chSysInit ( ) ; s = chSysGetStatusAndLockX ( ) ;"
    ∷ "chSysRestoreStatusX ( s ) ; }" ∷ []) ∷ [])
unfolding kernel_table
status_with_another_initialiser = refl

-- first typedef name is the identity, and members differ
typedef_struct_of_two_files : Refused U10
    (("typedef struct { int a ; } box_t , crate_t ; box_t x ; crate_t * p = & x ;" ∷ [])
    ∷ ("typedef struct { int a ; } crate_t ; typedef struct { int b ; } @ box_t ;"
    ∷ "int main ( void ) { return 0 ; }" ∷ [])
    ∷ [])
typedef_struct_of_two_files = refl

-- two untagged structs are two types
two_untagged_structs : Refused U14
    (("struct { int a ; } x , z ; struct { int a ; } y ; typedef struct { int a ; } A , B ;"
    ∷ "int main ( void ) { A v = { 1 } ; B * p = & v ; x = z ; @ x = y ; return p -> a ; }" ∷ []) ∷ [])
two_untagged_structs = refl

-- declarators of one untagged struct share its type
one_untagged_struct : Accepted
    (("struct { int a ; } x , z , * q = & z ; typedef struct { int a ; } A , B ;"
    ∷ "static struct { A in ; int b ; } y [ 2 ] ; int main ( void ) { A v = { 1 } ; B * p = & v ;"
    ∷ "x = z ; * q = x ; y [ 1 ] = y [ 0 ] ; y -> in = * p ; return x . a + y [ 1 ] . b ; }" ∷ []) ∷ [])
one_untagged_struct = refl

-- a flexible array member
flexible_array_member : Refused U14
    (("struct s { int n ; int @ t [ ] ; } ; int main ( void ) { return 0 ; }" ∷ []) ∷ [])
flexible_array_member = refl

-- sizeof of a function
size_of_a_function : Refused U14
    (("int f ( void ) { return 0 ; } int n = sizeof ( int ) + sizeof & f ; int main ( void ) {"
    ∷ "int m = sizeof f ( ) + @ sizeof f ; return n + m ; }" ∷ []) ∷ [])
size_of_a_function = refl

-- restrict is read and ignored
restrict_has_no_effect : Accepted
    (("extern int * restrict p ; int * p ; int f ( int * restrict a , const char * b ) ;"
    ∷ "int f ( int * a , const char * restrict b ) { return * a + * b ; }"
    ∷ "int main ( void ) { int * restrict * q = & p ; return q == 0 ; }" ∷ []) ∷ [])
restrict_has_no_effect = refl

-- volatile is part of the type
volatile_counts : Refused U10
    (("extern volatile int v , * const p ; volatile int * const p ; int @ v ;"
    ∷ "int main ( void ) { return 0 ; }" ∷ []) ∷ [])
volatile_counts = refl

-- 20 MiB by a designator: at the name
sized_above_the_bound : Refused U11
    (("int @ x [ ] [ 5 ] = { [ 1048575 ] = { 0 } } ; int main ( void ) { return x [ 1 ] [ 1 ] ; }" ∷ []) ∷ [])
sized_above_the_bound = refl

-- a named function with ...
variadic_call : AcceptedWith (record {
  vectors = [];
  callbacks = [];
  functions = codes "trace" ∷ [];
})
    (("int trace ( const char * text , ... ) ; int main ( void ) { struct { int a ; } v = { 1 } ;"
    ∷ "return trace ( \"a\" ) + trace ( \"b\" , 'c' , 1LL , & v , v , \"d\" ) ; }" ∷ []) ∷ [])
unfolding kernel_table
variadic_call = refl

-- too few arguments before the dots
variadic_call_too_short : RefusedWith (record {
  vectors = [];
  callbacks = [];
  functions = codes "trace" ∷ [];
}) U14
    (("int trace ( const char * text , ... ) ; int main ( void ) {"
    ∷ "return trace ( \"a\" , 1 ) + @ trace ( ) ; }" ∷ []) ∷ [])
unfolding kernel_table
variadic_call_too_short = refl

-- calls of the kernel table need no settings
kernel_calls : Accepted
    (("typedef struct ch_semaphore { unsigned int o [ 8 ] ; } semaphore_t ; typedef int msg_t ;"
    ∷ "void chSysInit ( void ) ; void chSysLock ( void ) ; void chSysUnlock ( void ) ;"
    ∷ "void chSemObjectInit ( semaphore_t * s , int n ) ; msg_t chSemWait ( semaphore_t * s ) ;"
    ∷ "void chSemSignalI ( semaphore_t * s ) ; void chSchRescheduleS ( void ) ;"
    ∷ "void * chThdCreateStatic ( void * wsp , unsigned int size , unsigned int prio , void ( * pf ) ("
    ∷ "void * ) , void * arg ) ; static semaphore_t s ; static unsigned int wa [ 64 ] ;"
    ∷ "static void worker ( void * arg ) { semaphore_t * p = arg ; while ( chSemWait ( p ) == 0 ) ; }"
    ∷ "int main ( void ) { chSysInit ( ) ; chSemObjectInit ( & s , 0 ) ;"
    ∷ "if ( chThdCreateStatic ( wa , sizeof wa , 64 , worker , & s ) == 0 ) return 1 ; while ( 1 ) {"
    ∷ "chSysLock ( ) ; chSemSignalI ( & s ) ; chSchRescheduleS ( ) ; chSysUnlock ( ) ; } }" ∷ []) ∷ [])
unfolding kernel_table
kernel_calls = refl

-- a string where the kernel's prototype has a number
kernel_call_with_wrong_argument : Refused U14
    (("void chSysInit ( void ) ; void chThdSleep ( unsigned int time ) ; int main ( void ) {"
    ∷ "chSysInit ( ) ; chThdSleep ( 'a' ) ; @ chThdSleep ( \"a\" ) ; }" ∷ []) ∷ [])
unfolding kernel_table
kernel_call_with_wrong_argument = refl

-- an address that is cast to a number is no constant
address_in_a_static_number : Refused U11
    (("int x ; int * p = & x ; int n = @ ( int ) & x ; int main ( void ) { return * p + n ; }" ∷ []) ∷ [])
address_in_a_static_number = refl

-- a table name with ...
table_name_variadic : Refused U10
    (("void chSysInit ( void ) ; void @ chThdSleep ( unsigned int time , ... ) ;"
    ∷ "int main ( void ) { return 0 ; }" ∷ []) ∷ [])
unfolding kernel_table
table_name_variadic = refl

-- a table name defined as a variable
table_name_as_variable : Refused U10
    (("int @ chSysLock ; int main ( void ) { return 0 ; }" ∷ []) ∷ [])
unfolding kernel_table
table_name_as_variable = refl

-- tags of blocks have their place as identity
block_tags_of_two_files : Accepted
    (("struct tmp { int a ; } ; int ga ( void ) { struct tmp t = { 1 } ; return t . a ; }" ∷ [])
    ∷ ("int ga ( void ) ;"
    ∷ "static int f ( void ) { struct tmp { char c [ 2 ] ; } t = { { 1 } } ; return t . c [ 1 ] ; }"
    ∷ "int main ( void ) { struct tmp { short h ; } t = { 0 } ;"
    ∷ "{ struct tmp { int * p ; } ; struct tmp u = { 0 } ; if ( u . p ) return 1 ; }"
    ∷ "return t . h + f ( ) + ga ( ) - 1 ; }" ∷ [])
    ∷ [])
block_tags_of_two_files = refl

-- one enum tag with other enumerators in two files
enum_tag_of_two_files : Accepted
    (("enum mode { A , B = 5 } ; enum mode m = B ;" ∷ [])
    ∷ ("enum mode { B , C } ; extern enum mode m ; int main ( void ) { return m == B ? C : 0 ; }" ∷ [])
    ∷ [])
enum_tag_of_two_files = refl

-- the composite parameter keeps its size
composite_parameter : Refused U14
    (("int f ( int ( * a ) [ 3 ] ) { return ( * a ) [ 0 ] ; } int f ( int ( * a ) [ ] ) ;"
    ∷ "int main ( void ) { int s [ 3 ] = { 0 } , t [ 4 ] = { 0 } ; return f ( & s ) + @ f ( & t ) ; }" ∷ []) ∷ [])
composite_parameter = refl

-- an assignment to const in sizeof
types_in_sizeof : Refused U14
    (("int main ( void ) { const int c = 1 ; int n = sizeof ( c + 1 ) ; return n + sizeof ( @ c = 2 ) ;"
    ∷ "}" ∷ []) ∷ [])
types_in_sizeof = refl

-- const of an array reaches its elements
const_array_by_typedef : Refused U14
    (("typedef int row_t [ 3 ] ; const row_t r = { 1 , 2 , 3 } ;"
    ∷ "const row_t m [ 2 ] = { { 1 } , { 2 } } ; int f ( void ) {"
    ∷ "const int * p = r , ( * q ) [ 3 ] = m ; return p [ 0 ] + q [ 1 ] [ 0 ] ; } int main ( void ) {"
    ∷ "int * p = @ m [ 1 ] ; return * p ; }" ∷ []) ∷ [])
const_array_by_typedef = refl

-- a pointer > 0
pointer_below_zero : Refused U14
    (("int f ( int * p , int * q ) { if ( p < q || p >= & q [ 1 ] ) return 1 ; return @ p > 0 ; }"
    ∷ "int main ( void ) { return 0 ; }" ∷ []) ∷ [])
pointer_below_zero = refl

-- a void * in a sum
sum_with_void_pointer : Refused U14
    (("int f ( void * v , char * c ) { c = ( char * ) v + 1 ; return @ v + 1 == c ; }"
    ∷ "int main ( void ) { return 0 ; }" ∷ []) ∷ [])
sum_with_void_pointer = refl

-- a void * == a function
void_pointer_against_function : Refused U14
    (("int f ( void ) { return 0 ; } int main ( void ) { void * v = 0 ;"
    ∷ "if ( f == ( void * ) 0 || v == 0 ) return 1 ; return @ v == f ; }" ∷ []) ∷ [])
void_pointer_against_function = refl

-- . on a pointer to a struct
dot_on_a_pointer : Refused U14
    (("struct s { int a ; } v , * p = & v ; int main ( void ) {"
    ∷ "return p -> a + ( * p ) . a + ( & v ) -> a + @ p . a ; }" ∷ []) ∷ [])
dot_on_a_pointer = refl

-- an assignment to a member of a call's result
member_of_a_result : Refused U14
    (("struct s { int a ; } ; struct s make ( int a ) { struct s v = { a } ; return v ; }"
    ∷ "int main ( void ) { struct s v ; ( v = make ( 1 ) ) . a ; v . a = make ( 2 ) . a ;"
    ∷ "@ make ( 3 ) . a = 4 ; return v . a ; }" ∷ []) ∷ [])
member_of_a_result = refl
