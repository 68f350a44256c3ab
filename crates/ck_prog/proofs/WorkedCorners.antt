-- Worked projects on corner cases of initialisers, types, scopes, functions and the kernel's calls, computed on the
-- definitions.
use Rattle.std.proofs.Common.{refl}
use Rattle.std.specs.Prelude.{[], ◌∷◌, codes}
use Rattle.ck_base.specs.declared.refusals.Unsupported.TheVariants.{U8, U9, U10, U11, U12, U14, U16, U18, U19, U26}
use Rattle.ck_kernel.specs.KernelTable.{kernel_table}
use Rattle.ck_prog.proofs.ProjectTexts.{Accepted, AcceptedWith, Refused}

-- 6.7.8: rows without their braces
rows_of_array : Accepted
    (("int a [ 2 ] [ 2 ] = { 1 , 2 , 3 , 4 } ; struct { int a [ 3 ] ; int b ; } x = { 1 , 2 , 3 , 4 } ;" ∷ []) ∷ [])
rows_of_array = refl

-- 6.7.8: no place for a fifth value
too_many_for_struct : Refused U14
    (("struct { int a [ 3 ] ; int b ; } x = { 1 , 2 , 3 , 4 , @ 5 } ;" ∷ []) ∷ [])
too_many_for_struct = refl

-- 6.7.8: no third row
too_many_rows : Refused U14
    (("int a [ 2 ] [ 2 ] = { { 1 , 2 } , { 3 , 4 } , @ { 5 } } ;" ∷ []) ∷ [])
too_many_rows = refl

-- 6.7.8: five values begin a third struct
sized_by_structs : Accepted
    (("struct s { int a ; int b ; } y [ ] = { 1 , 2 , 3 , 4 , 5 } ; int c [ sizeof y / sizeof y [ 0 ] ]"
    ∷ "; extern int c [ 3 ] ;" ∷ []) ∷ [])
sized_by_structs = refl

-- 6.7.8: nothing is after the last member
after_designated : Refused U14
    (("struct s { int a ; int b ; } z = { . b = 1 , @ 2 } ;" ∷ []) ∷ [])
after_designated = refl

-- 6.7.8: the largest index counts
sized_by_index : Accepted
    (("int a [ ] = { [ 3 ] = 1 , 2 , [ 0 ] = 5 } ; extern int a [ 5 ] ;" ∷ []) ∷ [])
sized_by_index = refl

-- 6.7.8: after a designated part comes the next one, of the array and then of the struct around it
deep_designator : Accepted
    (("struct s { int a ; int b ; } ; struct t { struct s p [ 2 ] ; int q ; } w = { . p [ 1 ] . b = 3 ,"
    ∷ "4 } ;" ∷ []) ∷ [])
deep_designator = refl

-- 6.7.8: two values after the last element are one too many
past_deep_designator : Refused U14
    (("struct s { int a ; int b ; } ; struct t { struct s p [ 2 ] ; int q ; } w = { . p [ 1 ] . b = 3 ,"
    ∷ "4 , @ 5 } ;" ∷ []) ∷ [])
past_deep_designator = refl

-- 6.7.8: a string for a row, without room for its last character, and braces
strings_in_rows : Accepted
    (("char s [ 2 ] [ 3 ] = { \"abc\" , { 'a' } } ; char t [ 2 ] [ 3 ] = { { \"ab\" } , \"cd\" } ; char u [ ]"
    ∷ "= { \"abc\" } ; extern char u [ 4 ] ;" ∷ []) ∷ [])
strings_in_rows = refl

-- 6.7.8: four characters in a row of three
string_too_long : Refused U14
    (("char s [ 2 ] [ 3 ] = { @ \"abcd\" } ;" ∷ []) ∷ [])
string_too_long = refl

-- 6.7.8: a string is a pointer where a pointer is initialised
strings_for_pointers : Accepted
    (("const char * n [ ] = { \"a\" , \"b\" } ; int c [ sizeof n ] ; extern int c [ 8 ] ;" ∷ []) ∷ [])
strings_for_pointers = refl

-- 6.7.8: a value of the struct type is for a whole element
struct_among_values : Accepted
    (("struct s { int a ; int b ; } ; int f ( struct s u ) { struct s v = u , w [ 2 ] = { u , 1 , 2 } ;"
    ∷ "return v . a + w [ 1 ] . b ; }" ∷ []) ∷ [])
struct_among_values = refl

-- 6.7.8: one initialiser of a scalar may have braces
braces_round_scalar : Accepted
    (("int x = { 1 } ; int y = { 2 , } ; int z [ 2 ] = { { 1 } , { 2 } } ; struct { int m ; } e = { . m"
    ∷ "= { 1 } } ;" ∷ []) ∷ [])
braces_round_scalar = refl

-- 6.7.8: a scalar has one initialiser
two_for_scalar : Refused U14
    (("int x = { 1 , @ 2 } ;" ∷ []) ∷ [])
two_for_scalar = refl

-- 6.7.8: an array needs braces
value_for_array : Refused U14
    (("int a [ 3 ] = @ 5 ;" ∷ []) ∷ [])
value_for_array = refl

-- 6.7.8: a scalar has no elements
designator_in_scalar : Refused U14
    (("int x = { @ [ 0 ] = 1 } ;" ∷ []) ∷ [])
designator_in_scalar = refl

-- 6.7.8: a function has no initialiser
function_initialised : Refused U14
    (("int f ( void ) = @ 1 ;" ∷ []) ∷ [])
function_initialised = refl

-- functions in an array of function pointers
function_table : Accepted
    (("void f ( void ) { } void g ( void ) { } void ( * h [ ] ) ( void ) = { f , g } ; int c [ sizeof h"
    ∷ "] ; extern int c [ 8 ] ;" ∷ []) ∷ [])
function_table = refl

-- 6.7.8: a part may be initialised again
later_part_again : Accepted
    (("int a [ 3 ] = { [ 2 ] = 1 , [ 0 ] = 2 , 3 , [ 1 ] = 4 } ;" ∷ []) ∷ [])
later_part_again = refl

-- 6.4.5: a string in parentheses is no string literal
string_in_parentheses : Refused U14
    (("char s [ ] = @ ( \"abc\" ) ;" ∷ []) ∷ [])
string_in_parentheses = refl

-- 6.7.8: no initialiser of a name of block scope with linkage
block_extern_initialised : Refused U14
    (("int f ( void ) { extern int @ x = 1 ; return x ; }" ∷ []) ∷ [])
block_extern_initialised = refl

-- 6.6: addresses of elements and members, sums with them
address_of_element : Accepted
    (("int arr [ 4 ] ; struct s { int m ; } u ; int * p = & arr [ 2 ] , * q = arr + 1 , * r = & u . m ;"
    ∷ "int g ( void ) { return 0 ; } int ( * fp ) ( void ) = & g ;" ∷ []) ∷ [])
address_of_element = refl

-- 6.6: no address constant
address_through_pointer : Refused U11
    (("int * q ; int * p = @ & * q ;" ∷ []) ∷ [])
address_through_pointer = refl

-- 6.6: the address of an element whose index varies
index_varies : Refused U11
    (("int arr [ 4 ] ; int i ; int * p = @ & arr [ i ] ;" ∷ []) ∷ [])
index_varies = refl

-- 6.6: the address of a local variable is no constant
local_address_in_static : Refused U11
    (("int f ( void ) { int x = 0 ; static int * p = @ & x ; return * p + x ; }" ∷ []) ∷ [])
local_address_in_static = refl

-- 6.2.1: a struct in the parameters of a definition, in sight in its body
struct_in_parameters : Accepted
    (("int f ( struct s { int a ; int b ; } * x ) { int c [ sizeof ( struct s ) == 8 ? 1 : - 1 ] ; c ["
    ∷ "0 ] = x -> b ; return c [ 0 ] ; }" ∷ []) ∷ [])
struct_in_parameters = refl

-- 6.9.2: complete at the end of the file
tentative_completed : Accepted
    (("struct s x ; struct s y ; struct s { int a ; } ;" ∷ []) ∷ [])
tentative_completed = refl

-- 6.9.2: complete nowhere in the file
tentative_incomplete : Refused U14
    (("struct s @ x ;" ∷ []) ∷ [])
tentative_incomplete = refl

-- 6.2.5: void is never complete
void_object : Refused U14
    (("void @ x ;" ∷ []) ∷ [])
void_object = refl

-- 6.7: a declaration that defines nothing
extern_incomplete : Accepted
    (("extern struct s x ; extern struct s a ; struct s * p = & x ; extern int t [ ] ;" ∷ []) ∷ [])
extern_incomplete = refl

-- 6.5.16: a value of an incomplete type
extern_incomplete_used : Refused U14
    (("extern struct s x ; int f ( void ) { @ x = x ; return 0 ; }" ∷ []) ∷ [])
extern_incomplete_used = refl

-- 6.7.5.3: a parameter of type void
void_parameter : Refused U14
    (("void f ( int a , void @ v ) ;" ∷ []) ∷ [])
void_parameter = refl

-- 6.7.5.3: an incomplete parameter of a prototype
prototype_incomplete : Accepted
    (("void f ( struct s a ) ; struct s g ( void ) ;" ∷ []) ∷ [])
prototype_incomplete = refl

-- 6.7.5.3: an incomplete parameter of a definition
definition_incomplete : Refused U14
    (("struct s ; int f ( struct s @ a ) { return 0 ; }" ∷ []) ∷ [])
definition_incomplete = refl

-- 6.9.1: a definition with an incomplete result
result_incomplete : Refused U14
    (("struct s ; struct s @ f ( void ) { while ( 1 ) { } }" ∷ []) ∷ [])
result_incomplete = refl

-- 6.5.2.2: a call with an incomplete result
call_incomplete : Refused U14
    (("struct s f ( void ) ; int g ( void ) { @ f ( ) ; return 0 ; }" ∷ []) ∷ [])
unfolding kernel_table
call_incomplete = refl

-- 6.7.5.2: elements of an incomplete type
array_of_incomplete : Refused U14
    (("extern struct s @ a [ 2 ] ;" ∷ []) ∷ [])
array_of_incomplete = refl

-- 6.7.5.3: a function that returns an array
function_of_array : Refused U14
    (("typedef int t [ 2 ] ; t @ f ( void ) ;" ∷ []) ∷ [])
function_of_array = refl

-- 6.7.5.2: an array of functions
array_of_functions : Refused U14
    (("typedef int t ( void ) ; extern t @ a [ 2 ] ;" ∷ []) ∷ [])
array_of_functions = refl

-- 6.9.2: a tentative array of unknown size has one element
tentative_array : Accepted
    (("int a [ ] ; int f ( void ) { return a [ 0 ] ; }" ∷ []) ∷ [])
tentative_array = refl

-- 6.2.3: a label beside a variable of its name; each function has its own
labels_and_names : Accepted
    (("int f ( int a ) { a : if ( a ) goto a ; return 0 ; } int g ( int a ) { if ( a ) goto b ; b :"
    ∷ "return a ; }" ∷ []) ∷ [])
labels_and_names = refl

-- 6.8.1: a label is in sight in its whole function
label_in_inner_scope : Accepted
    (("int f ( int n ) { if ( n ) goto in ; { in : return 1 ; } }" ∷ []) ∷ [])
label_in_inner_scope = refl

-- 6.8.4.2: labels of a switch in blocks and loops
case_in_loop : Accepted
    (("enum { A , B } ; int f ( int n ) { switch ( n ) { case A : do { case B : n -- ; } while ( n > 0"
    ∷ ") ; default : ; } switch ( n ) { case A : return 2 ; } return n ; }" ∷ []) ∷ [])
case_in_loop = refl

-- 6.8.1: a loop is no switch
case_of_no_switch : Refused U19
    (("int f ( int n ) { while ( n ) { @ case 1 : n -- ; } return n ; }" ∷ []) ∷ [])
case_of_no_switch = refl

-- 6.8.4.2: one value in a block
case_twice_deep : Refused U9
    (("int f ( int n ) { switch ( n ) { case 1 : { @ case 3 - 2 : return 1 ; } } return 0 ; }" ∷ []) ∷ [])
case_twice_deep = refl

-- 6.6: a case without a value
case_of_overflow : Refused U11
    (("int f ( int n ) { switch ( n ) { case @ 2147483647 + 1 : return 1 ; } return 0 ; }" ∷ []) ∷ [])
case_of_overflow = refl

-- 6.8.5: the variable of a for is in sight in its parts
variable_of_for : Accepted
    (("int f ( void ) { int n = 0 ; for ( int i = 0 , j = 3 ; i < j ; i ++ ) { int i = j ; n += i ; }"
    ∷ "return n ; }" ∷ []) ∷ [])
variable_of_for = refl

-- 6.8.5: the body of a do is a scope
do_body_closed : Refused U8
    (("int f ( void ) { do { int n = 0 ; n ++ ; } while ( @ n ) ; return 0 ; }" ∷ []) ∷ [])
do_body_closed = refl

-- 6.2.2: internal and then external linkage
static_then_plain : Refused U10
    (("static int x ; int @ x ; int f ( void ) { return x ; }" ∷ []) ∷ [])
static_then_plain = refl

-- 6.2.2: a function keeps its linkage
static_function_then_plain : Accepted
    (("static int f ( void ) ; int f ( void ) { return 0 ; } int g ( void ) { return f ( ) ; }" ∷ []) ∷ [])
static_function_then_plain = refl

-- 6.2.2: extern where a local variable hides the static one
hidden_static : Refused U10
    (("static int x ; int f ( void ) { int x = 0 ; { extern int @ x ; return x ; } }" ∷ []) ∷ [])
hidden_static = refl

-- 6.7.5.3: names of parameters are free
parameter_names_differ : Accepted
    (("int f ( int a , int b ) ; int f ( int x , int y ) { return x - y ; }" ∷ []) ∷ [])
parameter_names_differ = refl

-- the kernel reads these members of a descriptor
descriptor : Accepted
    (("typedef unsigned uint32_t ; typedef void ( * tfunc_t ) ( void * ) ; struct ch_thread ; typedef"
    ∷ "struct ch_thread_descriptor { const char * name ; uint32_t * wbase ; uint32_t * wend ; uint32_t"
    ∷ "prio ; tfunc_t funcp ; void * arg ; } thread_descriptor_t ; struct ch_thread * chThdCreate ("
    ∷ "const thread_descriptor_t * d ) ; void w ( void * p ) { } uint32_t wa [ 64 ] ; const"
    ∷ "thread_descriptor_t d = { \"w\" , wa , wa + 64 , 128 , w , 0 } ; int main ( void ) { chThdCreate ("
    ∷ "& d ) ; while ( 1 ) { } }" ∷ []) ∷ [])
unfolding kernel_table
descriptor = refl

-- a descriptor without the member that becomes the thread
descriptor_without_function : Refused U10
    (("struct @ ch_thread_descriptor { const char * name ; unsigned prio ; void * arg ; } ;" ∷ []) ∷ [])
descriptor_without_function = refl

-- the parameter of a create call is a descriptor
descriptor_of_another_type : Refused U10
    (("struct d ; struct ch_thread * @ chThdCreate ( const struct d * p ) ;" ∷ []) ∷ [])
unfolding kernel_table
descriptor_of_another_type = refl

-- a local variable, which is no declaration of the kernel call
local_kernel_name : Refused U12
    (("int main ( void ) { int @ chSysLock = 0 ; return chSysLock ; }" ∷ []) ∷ [])
unfolding kernel_table
local_kernel_name = refl

-- a function handed to an outside function behind dots
outside_in_dots : Refused U18
    (("int trace ( const char * s , ... ) ; void cb ( void ) { } int main ( void ) { @ trace ( \"x\" , cb"
    ∷ ") ; return 0 ; }" ∷ []) ∷ [])
unfolding kernel_table
outside_in_dots = refl

-- numbers behind dots
numbers_in_dots : AcceptedWith (record { vectors = []; callbacks = []; functions = codes "trace" ∷ [] })
    (("int trace ( const char * s , ... ) ; int main ( void ) { trace ( \"x\" , 1 , \"y\" ) ; return 0 ; }" ∷ []) ∷ [])
unfolding kernel_table
numbers_in_dots = refl

-- names are checked in sizeof as elsewhere
outside_in_sizeof : Refused U18
    (("int foo ( void ) ; int main ( void ) { return sizeof ( @ foo ( ) ) ; }" ∷ []) ∷ [])
unfolding kernel_table
outside_in_sizeof = refl

-- an array of arrays of function pointers under two indices
array_of_tables : Accepted
    (("void f ( void ) { } void ( * m [ 2 ] [ 2 ] ) ( void ) = { { f , f } , { f , f } } ; int main ("
    ∷ "void ) { m [ 1 ] [ 0 ] ( ) ; return 0 ; }" ∷ []) ∷ [])
array_of_tables = refl

-- the address of an array of function pointers
address_of_table : Refused U16
    (("void f ( void ) { } void ( * m [ 2 ] ) ( void ) = { f , f } ; int main ( void ) { return @ & m"
    ∷ "== 0 ; }" ∷ []) ∷ [])
address_of_table = refl

-- a row of function pointers as a value
row_of_table : Refused U16
    (("void f ( void ) { } void ( * m [ 2 ] [ 2 ] ) ( void ) ; int main ( void ) { return @ m [ 1 ] =="
    ∷ "0 ; }" ∷ []) ∷ [])
row_of_table = refl

-- functions compared with null pointer constants and each other
comparison_of_functions : Accepted
    (("void f ( void ) { } void ( * p ) ( void ) ; int main ( void ) { return p == f || p == 0 || ! p"
    ∷ "|| f != 0 ; }" ∷ []) ∷ [])
comparison_of_functions = refl

-- 6.5.3.2: a function through any number of stars
called_through_star : Accepted
    (("void f ( void ) { } void ( * p ) ( void ) = & f ; int main ( void ) { ( * p ) ( ) ; ( * * p ) ("
    ∷ ") ; ( & f ) ( ) ; ( * * * * f ) ( ) ; return 0 ; }" ∷ []) ∷ [])
called_through_star = refl

-- a name in parentheses is not the name alone
status_in_parentheses : Refused U26
    (("typedef unsigned syssts_t ; syssts_t chSysGetStatusAndLockX ( void ) ; void chSysRestoreStatusX"
    ∷ "( syssts_t s ) ; void f ( void ) { syssts_t s = chSysGetStatusAndLockX ( ) ; @"
    ∷ "chSysRestoreStatusX ( ( s ) ) ; }" ∷ []) ∷ [])
unfolding kernel_table
status_in_parentheses = refl

-- the assignment is a part of a statement alone
status_in_chain : Refused U26
    (("typedef unsigned syssts_t ; syssts_t chSysGetStatusAndLockX ( void ) ; void f ( int n ) {"
    ∷ "syssts_t s ; n = 0 , @ s = chSysGetStatusAndLockX ( ) ; }" ∷ []) ∷ [])
unfolding kernel_table
status_in_chain = refl

-- a status variable of a for
status_of_for : Accepted
    (("typedef unsigned syssts_t ; syssts_t chSysGetStatusAndLockX ( void ) ; void chSysRestoreStatusX"
    ∷ "( syssts_t s ) ; void f ( void ) { for ( const volatile syssts_t s = chSysGetStatusAndLockX ( )"
    ∷ "; 1 ; ) { chSysRestoreStatusX ( s ) ; return ; } }" ∷ []) ∷ [])
unfolding kernel_table
status_of_for = refl

-- the address of a status variable
status_addressed : Refused U26
    (("typedef unsigned syssts_t ; syssts_t chSysGetStatusAndLockX ( void ) ; void f ( void ) {"
    ∷ "syssts_t s = chSysGetStatusAndLockX ( ) ; syssts_t * p = & @ s ; * p = 0 ; }" ∷ []) ∷ [])
unfolding kernel_table
status_addressed = refl

-- 6.7.2.3: an enum that is not in sight
unknown_enum : Refused U8
    (("enum @ e v ;" ∷ []) ∷ [])
unknown_enum = refl

-- 6.7.2.3: an inner tag hides one of the other kind
enum_then_struct_inner : Accepted
    (("enum e { A } ; int f ( void ) { struct e { int a ; } x = { A } ; return x . a ; }" ∷ []) ∷ [])
enum_then_struct_inner = refl

-- 6.8.6.4: a struct as a result
result_of_struct : Accepted
    (("struct s { int a ; } ; struct s f ( struct s x ) { return x ; } int g ( struct s x ) { return f"
    ∷ "( x ) . a ; }" ∷ []) ∷ [])
result_of_struct = refl

-- 6.8.6.4: another struct
return_wrong_struct : Refused U14
    (("struct s { int a ; } ; struct t { int a ; } ; struct s f ( struct t x ) { return @ x ; }" ∷ []) ∷ [])
return_wrong_struct = refl

-- commas in a for
comma_in_for : Accepted
    (("int f ( int n ) { int i , j ; for ( i = 0 , j = n ; i < j ; i ++ , j -- ) ; return i ; }" ∷ []) ∷ [])
comma_in_for = refl

-- 6.8.4.2: a struct in a switch
switch_on_struct : Refused U14
    (("struct s { int a ; } ; int f ( struct s x ) { switch ( @ x ) { default : return 0 ; } }" ∷ []) ∷ [])
switch_on_struct = refl

-- 6.7.4: an inline function with external linkage is defined like any other, in one file; a static one in each
inline_in_two_files : Refused U9
    (("inline int f ( void ) { return 0 ; }" ∷ []) ∷ ("inline int @ f ( void ) { return 0 ; }" ∷ []) ∷ [])
inline_in_two_files = refl

static_inline_in_two_files : Accepted
    (("static inline int f ( void ) { return 0 ; }" ∷ []) ∷ ("static inline int f ( void ) { return 0 ; }" ∷ []) ∷ [])
static_inline_in_two_files = refl

-- 6.7.8: an array without a size in a block, and one whose initialiser is none
never_sized : Refused U11 (("int f ( void ) { int @ a [ ] ; return 0 ; }" ∷ []) ∷ [])
never_sized = refl

never_sized_by : Refused U11 (("int @ a [ ] = 5 ;" ∷ []) ∷ [])
never_sized_by = refl
