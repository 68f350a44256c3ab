-- Worked projects on declarations of one name that differ (U10), computed on the definitions.
use Rattle.std.proofs.Common.{refl}
use Rattle.std.specs.Prelude.{[], ◌∷◌}
use Rattle.ck_base.specs.declared.refusals.Unsupported.TheVariants.{U9, U10, U14}
use Rattle.ck_kernel.specs.KernelTable.{kernel_table}
use Rattle.ck_prog.proofs.ProjectTexts.{Accepted, Refused}

-- two prototypes with other parameters
prototypes_differ : Refused U10
    (("int f ( int ) ; int @ f ( char * ) ; int main ( void ) { return 0 ; }" ∷ []) ∷ [])
prototypes_differ = refl

-- () means (void)
empty_parameter_list : Refused U10
    (("int f ( ) ; int @ f ( int a ) { return a ; } int main ( void ) { return f ( 0 ) ; }" ∷ []) ∷ [])
empty_parameter_list = refl

-- parameters are adjusted before types are compared
parameter_adjustment : Accepted
    (("int f ( const int a , int b [ 3 ] , int g ( void ) ) ;"
    ∷ "int f ( int , int * , int ( * ) ( void ) ) ;"
    ∷ "int f ( int a , int b [ ] , int g ( void ) ) { return a + b [ 0 ] + g ( ) ; }"
    ∷ "int one ( void ) { return 1 ; } int h ( char * const p ) ; int h ( char * p ) { return * p ; }"
    ∷ "int main ( void ) { int b [ 2 ] = { 1 } ; char c = 0 ; return f ( - 2 , b , one ) + h ( & c ) ;"
    ∷ "}" ∷ []) ∷ [])
parameter_adjustment = refl

-- const behind a pointer counts
parameter_qualifier_below : Refused U10
    (("int f ( const int * p ) ; int @ f ( int * p ) { return * p ; }"
    ∷ "int main ( void ) { int a = 0 ; return f ( & a ) ; }" ∷ []) ∷ [])
parameter_qualifier_below = refl

-- joined over files x has three elements
arrays_of_three_files : Refused U10
    (("int x [ 3 ] ;" ∷ [])
    ∷ ("extern int x [ ] ; int get ( void ) { return x [ 0 ] ; }" ∷ [])
    ∷ ("extern int @ x [ 4 ] ; int get ( void ) ; int main ( void ) { return get ( ) ; }" ∷ [])
    ∷ [])
arrays_of_three_files = refl

-- composite types in a file and over two
joined_arrays : Accepted
    (("extern int x [ ] ; int x [ 3 ] ; extern int x [ ] ; int y [ sizeof x / sizeof x [ 0 ] ] ;"
    ∷ "extern int y [ 3 ] ; extern int ( * m [ ] ) [ ] ; int ( * m [ 2 ] ) [ 4 ] ;"
    ∷ "extern int ( * m [ ] ) [ ] ; int n [ sizeof * m [ 0 ] / sizeof ( int ) ] ; extern int n [ 4 ] ;" ∷ [])
    ∷ ("extern int x [ 3 ] , y [ ] ; extern int n [ ] ; int main ( void ) { extern int x [ ] ;"
    ∷ "return x [ 2 ] + y [ 1 ] + n [ 0 ] ; }" ∷ [])
    ∷ [])
joined_arrays = refl

-- static after external linkage
static_after_external : Refused U10
    (("int f ( void ) ; static int @ f ( void ) { return 0 ; } int main ( void ) { return f ( ) ; }" ∷ []) ∷ [])
static_after_external = refl

-- extern keeps the internal linkage that is in sight
external_after_static : Accepted
    (("static int f ( void ) ; extern int f ( void ) ; int f ( void ) { return 0 ; } static int x = 4 ;"
    ∷ "extern int x ; int main ( void ) { extern int x ; int f ( void ) ; return f ( ) + x ; }" ∷ []) ∷ [])
external_after_static = refl

-- a tag first seen in a prototype is its own type
prototype_scope_tag : Refused U10
    (("void f ( struct t * p ) ; struct t { int a ; } ; void @ f ( struct t * p ) { p -> a = 1 ; }"
    ∷ "int main ( void ) { return 0 ; }" ∷ []) ∷ [])
prototype_scope_tag = refl

-- struct in front of an enum's tag
tag_of_another_kind : Refused U10
    (("enum mode { ON , OFF } ; struct @ mode * p ; int main ( void ) { return ON ; }" ∷ []) ∷ [])
tag_of_another_kind = refl

-- one tag, other members in two files
struct_of_two_files : Refused U10
    (("struct dev { int a ; char b ; } ; int ga ( struct dev * d ) { return d -> a ; }" ∷ [])
    ∷ ("struct @ dev { int a ; short b ; } ; int main ( void ) { return 0 ; }" ∷ [])
    ∷ [])
struct_of_two_files = refl

-- tag and typedef name are identities over files
struct_identity : Accepted
    (("struct dev { int a ; struct dev * next ; } ; typedef struct { int n ; char c [ 3 ] ; } box_t ;"
    ∷ "struct dev d ; box_t b ;" ∷ [])
    ∷ ("typedef struct { int n ; char c [ 3 ] ; } box_t ; extern box_t b ; struct dev ;"
    ∷ "extern struct dev * first ( void ) ; struct dev { int a ; struct dev * next ; } ;"
    ∷ "extern struct dev d ; struct dev * first ( void ) { return & d ; }"
    ∷ "int main ( void ) { return first ( ) -> a + b . n + b . c [ 2 ] ; }" ∷ [])
    ∷ [])
struct_identity = refl

-- untagged without a typedef name: its place counts
untagged_struct_of_two_files : Refused U10
    (("struct { int a ; } x ;" ∷ [])
    ∷ ("extern struct { int a ; } @ x ; int main ( void ) { return x . a ; }" ∷ [])
    ∷ [])
untagged_struct_of_two_files = refl

-- entry parameter isn't a thread function
entry_parameter : Refused U10
    (("typedef struct ch_thread { unsigned o [ 16 ] ; } thread_t ;"
    ∷ "thread_t * @ chThdCreateStatic ( void * wsp , unsigned size , unsigned prio , void * pf , void *"
    ∷ "arg ) ; int main ( void ) { return 0 ; }" ∷ []) ∷ [])
unfolding kernel_table
entry_parameter = refl

-- a table name as an extern variable
table_name_no_function : Refused U10
    (("extern int @ chSysLock ; int main ( void ) { return 0 ; }" ∷ []) ∷ [])
unfolding kernel_table
table_name_no_function = refl

-- results and other parameters of table names are free
table_name_free_types : Accepted
    (("typedef void ( * entry_t ) ( void * ) ; void chSysInit ( void ) ;"
    ∷ "long chThdSleep ( long long time ) ;"
    ∷ "int * chThdCreateStatic ( char * wsp , long size , signed char prio , void f ( void * ) , const"
    ∷ "int * arg ) ; int chVTSet ( int * vt , int delay , entry_t f , int * arg ) ; int main ( void ) {"
    ∷ "chSysInit ( ) ; return ( int ) chThdSleep ( 5 ) ; }" ∷ []) ∷ [])
unfolding kernel_table
table_name_free_types = refl

-- () for a table name with a parameter
table_name_without_parameters : Refused U10
    (("void chSysInit ( ) ; void @ chThdSleep ( ) ; int main ( void ) { return 0 ; }" ∷ []) ∷ [])
unfolding kernel_table
table_name_without_parameters = refl

-- an enum is int, char is unsigned char
enum_is_int : Accepted
    (("enum mode { OFF , ON } ; extern enum mode m ; int m ; int f ( enum mode ) ;"
    ∷ "int f ( int a ) { return a ; } extern char c ; unsigned char c ;"
    ∷ "int main ( void ) { return f ( ON ) + m + c - 1 ; }" ∷ []) ∷ [])
enum_is_int = refl

-- long and int differ though both have 32 bits
long_and_int : Refused U10
    (("extern long n ; int @ n ; int main ( void ) { return n ; }" ∷ []) ∷ [])
long_and_int = refl

-- a block's function against the file's variable
variable_and_function : Refused U10
    (("int tick ; int main ( void ) { int @ tick ( void ) ; return 0 ; }" ∷ []) ∷ [])
variable_and_function = refl

-- an object and a function, where both are defined
object_then_function : Refused U10 (("int f = 1 ; int @ f ( void ) { return 0 ; }" ∷ []) ∷ [])
object_then_function = refl

function_then_object : Refused U10 (("int f ( void ) { return 0 ; } int @ f = 1 ;" ∷ []) ∷ [])
function_then_object = refl

function_then_tentative : Refused U10 (("int f ( void ) { return 0 ; } int @ f ;" ∷ []) ∷ [])
function_then_tentative = refl

object_and_function_of_two_files : Refused U10
    (("int f = 1 ;" ∷ []) ∷ ("int @ f ( void ) { return 0 ; }" ∷ []) ∷ [])
object_and_function_of_two_files = refl

function_and_tentative_of_two_files : Refused U10
    (("int f ( void ) { return 0 ; }" ∷ []) ∷ ("int @ f ;" ∷ []) ∷ [])
function_and_tentative_of_two_files = refl

-- two objects
object_twice : Refused U9 (("int f = 1 ; int @ f = 2 ;" ∷ []) ∷ [])
object_twice = refl

-- what is declared without a type may be a function
without_type : Refused U14 (("typedef void @ t [ 2 ] ; extern t f ; int f ( void ) ;" ∷ []) ∷ [])
without_type = refl

without_type_later : Refused U14 (("int f ( void ) ; typedef void @ t [ 2 ] ; extern t f ;" ∷ []) ∷ [])
without_type_later = refl

with_type : Refused U10 (("extern int f ; int @ f ( void ) ;" ∷ []) ∷ [])
with_type = refl
