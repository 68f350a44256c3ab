-- Worked projects on constants (U11), and on kernel names (U12, U13),
-- computed on the definitions.
use Rattle.std.proofs.Common.{refl}
use Rattle.std.specs.Prelude.{[], ◌∷◌}
use Rattle.ck_base.specs.declared.refusals.Unsupported.TheVariants.{U11, U12, U13}
use Rattle.ck_kernel.specs.KernelTable.{kernel_table}
use Rattle.ck_prog.proofs.ProjectTexts.{Accepted, Refused}

-- an array of no element
array_of_no_element : Refused U11
    (("int a [ @ 3 - 3 ] ; int main ( void ) { return 0 ; }" ∷ []) ∷ [])
array_of_no_element = refl

-- a const object is no constant
const_object_as_size : Refused U11
    (("int main ( void ) { const int n = 4 ; int a [ @ n ] ; a [ 0 ] = 0 ; return a [ 0 ] ; }" ∷ []) ∷ [])
const_object_as_size = refl

-- greatest sizes, and a division that isn't evaluated
sizes_at_the_bounds : Accepted
    (("char a [ 1048576 ] ; int b [ 1048576 ] [ 4 ] ; int c [ ( 0 && 1 / 0 ) + 1 ] ;"
    ∷ "extern int c [ 1 ] ; int d [ 1 ? 2 : 1 / 0 ] ; extern int d [ 2 ] ;"
    ∷ "int e [ sizeof ( int [ 2 ] [ 3 ] ) / sizeof ( int ) ] ; extern int e [ 6 ] ;"
    ∷ "int main ( void ) { return a [ 1048575 ] + b [ 1048575 ] [ 3 ] + c [ 0 ] + d [ 1 ] + e [ 5 ] ; }" ∷ []) ∷ [])
sizes_at_the_bounds = refl

-- one element too many
too_many_elements : Refused U11
    (("char a [ @ 1048577 ] ; int main ( void ) { return a [ 0 ] ; }" ∷ []) ∷ [])
too_many_elements = refl

-- 20 MiB: at the outer size
array_above_sixteen_mebibytes : Refused U11
    (("int a [ @ 1048576 ] [ 5 ] ; int main ( void ) { return a [ 0 ] [ 0 ] ; }" ∷ []) ∷ [])
array_above_sixteen_mebibytes = refl

-- a struct too large: at its word struct
struct_above_sixteen_mebibytes : Refused U11
    (("typedef int big_t [ 1048576 ] [ 3 ] ;"
    ∷ "const @ struct s { big_t a ; int b [ 1048576 ] ; char c ; } * p ;"
    ∷ "int main ( void ) { return p == 0 ; }" ∷ []) ∷ [])
struct_above_sixteen_mebibytes = refl

-- an enumerator without = passes int
enumerator_past_int : Refused U11
    (("enum { TOP = 2147483647 , @ NEXT } ; int main ( void ) { return TOP == 0 ; }" ∷ []) ∷ [])
enumerator_past_int = refl

-- 2147483648 as an enumerator's value
enumerator_value_past_int : Refused U11
    (("enum { LOW = - 2147483647 - 1 , HIGH = @ 2147483648 } ; int main ( void ) { return LOW == 0 ; }" ∷ []) ∷ [])
enumerator_value_past_int = refl

-- a static initialiser that reads a variable
static_initialiser_varies : Refused U11
    (("int a = 3 ; int b [ 2 ] = { 1 , @ a + 1 } ; int main ( void ) { return b [ 1 ] ; }" ∷ []) ∷ [])
static_initialiser_varies = refl

-- static in a block needs a constant
block_static_initialiser_varies : Refused U11
    (("int f ( int n ) { int a = n ; static int b = @ n ; return a + b ++ ; }"
    ∷ "int main ( void ) { return f ( 1 ) ; }" ∷ []) ∷ [])
block_static_initialiser_varies = refl

-- addresses of static objects and functions are constants
address_constants : Accepted
    (("struct s { int a ; char b [ 4 ] ; } v ; int t [ 3 ] ; int f ( void ) { return 0 ; }"
    ∷ "extern int away ; int * p0 = t ; int * p1 = & t [ 2 ] ; int * p2 = t + 3 ;"
    ∷ "char * p3 = & v . b [ 1 ] ; char * p4 = v . b ; int * p5 = & ( & v ) -> a ; int * p6 = & away ;"
    ∷ "const char * p7 = \"word\" + 1 ; int ( * p8 ) ( void ) = f ; int ( * p9 ) ( void ) = & f ;"
    ∷ "int p10 = sizeof v . b - 1 ; void * p11 = & p11 ; int * p12 = & * t ; int main ( void ) {"
    ∷ "static int k ; static int * q = & k ; static int ( * g ) ( void ) = f ; return * q + g ( ) ; }" ∷ []) ∷ [])
address_constants = refl

-- a comma in a constant expression
comma_in_a_size : Refused U11
    (("int a [ @ ( 1 , 2 ) ] ; int main ( void ) { return a [ 0 ] ; }" ∷ []) ∷ [])
comma_in_a_size = refl

-- a case of a const object
case_varies : Refused U11
    (("int f ( int n ) { const int one = 1 ; switch ( n ) { case @ one + 0 : return 1 ; } return 0 ; }"
    ∷ "int main ( void ) { return f ( 1 ) ; }" ∷ []) ∷ [])
case_varies = refl

-- a negative designator
designator_below_zero : Refused U11
    (("int a [ 3 ] = { 1 , [ @ - 1 ] = 2 } ; int main ( void ) { return a [ 0 ] ; }" ∷ []) ∷ [])
designator_below_zero = refl

-- overflow in a constant
overflow_in_a_size : Refused U11
    (("int a [ @ 2147483647 + 1 > 0 ? 2 : 3 ] ; int main ( void ) { return a [ 0 ] ; }" ∷ []) ∷ [])
overflow_in_a_size = refl

-- 1/0 where no constant is required
division_by_zero_not_required : Accepted
    (("int main ( void ) { int a = 1 ; int b = a || 1 / 0 ; int c [ 2 ] = { a , a ? 1 : 2 % 0 } ;"
    ∷ "return b + c [ 1 ] - 2 ; }" ∷ []) ∷ [])
division_by_zero_not_required = refl

-- a block's array that nothing sizes
block_array_without_size : Refused U11
    (("int main ( void ) { int @ a [ ] ; return 0 ; }" ∷ []) ∷ [])
block_array_without_size = refl

-- a function with a kernel name has a body
kernel_name_function : Refused U12
    (("void chDebugTrace ( int n ) ; void @ chDebugTrace ( int n ) { n ++ ; }"
    ∷ "int main ( void ) { return 0 ; }" ∷ []) ∷ [])
unfolding kernel_table
kernel_name_function = refl

-- a local variable with a kernel name
kernel_name_local : Refused U12
    (("int main ( void ) { int n = 0 , @ chCount = 1 ; return n ; }" ∷ []) ∷ [])
unfolding kernel_table
kernel_name_local = refl

-- a definition's parameter begins with CH_IRQ_
kernel_name_parameter : Refused U12
    (("int f ( int CH_IRQ , int @ CH_IRQ_NUMBER ) { return CH_IRQ ; }"
    ∷ "int main ( void ) { return f ( 0 , 0 ) ; }" ∷ []) ∷ [])
unfolding kernel_table
kernel_name_parameter = refl

-- an enumerator with a kernel name
kernel_name_enumerator : Refused U12
    (("enum chMode { chart , @ chOff } ; int main ( void ) { return chart ; }" ∷ []) ∷ [])
unfolding kernel_table
kernel_name_enumerator = refl

-- a tentative definition of a kernel name
kernel_name_tentative : Refused U12
    (("extern int chTicks ; int @ chTicks ; int main ( void ) { return 0 ; }" ∷ []) ∷ [])
unfolding kernel_table
kernel_name_tentative = refl

-- kernel names as tag, member, label, prototype parameter, extern
kernel_names_that_define_nothing : Accepted
    (("struct chThing { int chMember ; } ; extern int chTicks ;"
    ∷ "void chPoolFree ( void * chPool , void * chObject ) ; int chart ; int ch_Count ; int CH_IRQ ;"
    ∷ "int xchSysLock ; int chase ( struct chThing * t ) { if ( t -> chMember ) goto chEnd ;"
    ∷ "t -> chMember = 1 ; chEnd : return t -> chMember + chart + ch_Count + CH_IRQ + xchSysLock ; }"
    ∷ "int main ( void ) { struct chThing t = { . chMember = 0 } ; return chase ( & t ) - 1 ; }" ∷ []) ∷ [])
unfolding kernel_table
kernel_names_that_define_nothing = refl

-- declared kernel name outside the table
unknown_kernel_call : Refused U13
    (("void chSysInit ( void ) ; void chPoolFree ( void * pool , void * object ) ; int main ( void ) {"
    ∷ "chSysInit ( ) ; @ chPoolFree ( 0 , 0 ) ; chPoolFree ( 0 , 0 ) ; }" ∷ []) ∷ [])
unfolding kernel_table
unknown_kernel_call = refl

-- undeclared kernel name in sizeof: U13, not U8
unknown_kernel_name_in_sizeof : Refused U13
    (("int main ( void ) { return sizeof @ chConfig ; }" ∷ []) ∷ [])
unfolding kernel_table
unknown_kernel_name_in_sizeof = refl

-- an extern kernel variable in a size
unknown_kernel_variable : Refused U13
    (("extern int chVersion [ 4 ] ; int n [ sizeof @ chVersion / 4 ] ;"
    ∷ "int main ( void ) { return n [ 0 ] ; }" ∷ []) ∷ [])
unfolding kernel_table
unknown_kernel_variable = refl

-- outside names declared, never used
unknown_kernel_name_unused : Accepted
    (("void chPoolFree ( void * pool , void * object ) ; extern int chVersion [ 4 ] ;"
    ∷ "struct v { int chVersion ; } v ; int main ( void ) { struct v * p = & v ;"
    ∷ "return v . chVersion + p -> chVersion ; }" ∷ []) ∷ [])
unfolding kernel_table
unknown_kernel_name_unused = refl
