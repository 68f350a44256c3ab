-- Worked projects on types of expressions, initialisers and declared names (U14),
-- computed on the definitions.
use Rattle.std.proofs.Common.{refl}
use Rattle.std.specs.Prelude.{[], ◌∷◌}
use Rattle.ck_base.specs.declared.refusals.Unsupported.TheVariants.{U11, U14}
use Rattle.ck_prog.proofs.ProjectTexts.{Accepted, Refused}

-- a pointer under *
pointer_times_number : Refused U14
    (("int f ( int * p , int n ) { return n + 1 - @ p * 2 ; } int main ( void ) { return 0 ; }" ∷ []) ∷ [])
pointer_times_number = refl

-- an assignment that drops const
pointers_of_two_types : Refused U14
    (("int f ( char * c ) { void * v = c ; int * p = v ; const int * q = p ; p = 0 ; @ p = q ;"
    ∷ "return * p ; } int main ( void ) { return 0 ; }" ∷ []) ∷ [])
pointers_of_two_types = refl

-- conversions of pointers that need no cast
pointer_conversions : Accepted
    (("int f ( char * c , const int * k ) { void * v = c ; const void * cv = k ; int * p = v ;"
    ∷ "const int * q = p ; int * const * pp = & p ; volatile int * w = p ; v = pp == 0 ? v : p ;"
    ∷ "q = cv ; p = ( int * ) cv ; cv = q ; return v == c && cv != k && p != q && w == p && ! p ; }"
    ∷ "int main ( void ) { return 0 ; }" ∷ []) ∷ [])
pointer_conversions = refl

-- a constant that isn't 0 as a pointer
number_as_pointer : Refused U14
    (("int main ( void ) { int * p = 1 - 1 ; int * q = @ 0 + 1 ; return p == q ; }" ∷ []) ∷ [])
number_as_pointer = refl

-- null pointer constants of every form
null_pointer_constants : Accepted
    (("enum { NONE } ; int ( * f0 ) ( void ) = 0 ; int ( * f1 ) ( void ) = ( void * ) 0 ;"
    ∷ "int ( * f2 ) ( void ) = NONE ; int ( * f3 ) ( void ) = '\\0' ; int * p0 = ( void * ) ( 1 - 1 ) ;"
    ∷ "int * p1 = 0L + sizeof ( int ) - 4 ; int * p2 = ( char ) 256 ; int * p3 = ! 1 ;"
    ∷ "int take ( int ( * f ) ( void ) , int * p ) { return f == 0 && p == ( void * ) 0 && 0 == f ; }"
    ∷ "int main ( void ) { f0 = NONE ; if ( f1 != 0 ) return 1 ;"
    ∷ "return take ( 0 , 0 ) + take ( ( void * ) 0 , ( 0 ) ) - 2 ; }" ∷ []) ∷ [])
null_pointer_constants = refl

-- (void *)(void *)0 is no null pointer constant
two_casts_of_null : Refused U14
    (("int * p = ( void * ) ( void * ) 0 ; int ( * f ) ( void ) = @ ( void * ) ( void * ) 0 ;"
    ∷ "int main ( void ) { return p == 0 && f == 0 ; }" ∷ []) ∷ [])
two_casts_of_null = refl

-- a const object of value 0 as a pointer
zero_that_varies : Refused U14
    (("int main ( void ) { const int zero = 0 ; int * p = @ zero ; return p == 0 ; }" ∷ []) ∷ [])
zero_that_varies = refl

-- a return with an expression in a void function
value_from_void_function : Refused U14
    (("void g ( void ) { } void f ( int n ) { if ( n ) return ; return @ g ( ) ; }"
    ∷ "int main ( void ) { f ( 0 ) ; return 0 ; }" ∷ []) ∷ [])
value_from_void_function = refl

-- return; in a function with a result
return_without_value : Accepted
    (("int f ( int n ) { if ( n ) return ; return 1 ; } int main ( void ) { f ( 1 ) ; return 0 ; }" ∷ []) ∷ [])
return_without_value = refl

-- a member that the inner struct lacks
member_that_is_absent : Refused U14
    (("struct in { int a ; } ; struct out { struct in in ; int b ; } v , * p = & v ;"
    ∷ "int main ( void ) { p -> in . a = 1 ; return @ p -> in . b ; }" ∷ []) ∷ [])
member_that_is_absent = refl

-- const reaches an array's elements through ->
const_through_arrow : Refused U14
    (("struct s { int a ; const int b ; int * q ; int t [ 2 ] ; } ;"
    ∷ "int f ( const struct s * p , struct s * w ) { * p -> q = 1 ; w -> t [ 0 ] = 2 ;"
    ∷ "@ p -> t [ 1 ] = 3 ; return 0 ; } int main ( void ) { return 0 ; }" ∷ []) ∷ [])
const_through_arrow = refl

-- a member's qualifiers are its own and the struct's
qualifiers_at_members : Accepted
    (("struct s { int a ; const int b ; int * q ; int t [ 2 ] ; } ;"
    ∷ "struct d { struct s in ; volatile char c ; } ;"
    ∷ "int f ( const struct s * p , struct s * w , volatile struct d * v ) { const int * k = & p -> a ;"
    ∷ "int * q = p -> q ; const int * e = p -> t ; const int * b = & w -> b ;"
    ∷ "volatile int * z = & v -> in . a ; const volatile int * y = & v -> in . b ; * p -> q = 1 ;"
    ∷ "w -> a = w -> b ; v -> in . t [ 1 ] = * k + * q + * e + * b + * z + * y ;"
    ∷ "return ( * w ) . t [ 0 ] ++ ; } int main ( void ) { return 0 ; }" ∷ []) ∷ [])
qualifiers_at_members = refl

-- a const member makes the struct unmodifiable
struct_with_const_member : Refused U14
    (("struct in { const int k ; int a ; } ; struct s { struct in in [ 2 ] ; int b ; } ;"
    ∷ "int main ( void ) { struct s x = { { { 1 , 2 } } , 3 } , y = x ; y . b = 4 ; @ y = x ;"
    ∷ "return y . b ; }" ∷ []) ∷ [])
struct_with_const_member = refl

-- a struct as a loop's test
struct_as_condition : Refused U14
    (("struct s { int a ; } v ; int main ( void ) { if ( v . a ) return 1 ; while ( @ v ) ; return 0 ;"
    ∷ "}" ∷ []) ∷ [])
struct_as_condition = refl

-- a pointer in a switch
switch_on_pointer : Refused U14
    (("int f ( char * p ) { switch ( * p ) { case 'a' : return 1 ; } if ( p ) return 2 ;"
    ∷ "switch ( @ p ) { case 0 : return 3 ; } return 0 ; } int main ( void ) { return 0 ; }" ∷ []) ∷ [])
switch_on_pointer = refl

-- ?: of an int * and a char *
conditional_of_two_pointers : Refused U14
    (("int f ( int c , int * p , char * q ) { c = ( c ? p : 0 ) == 0 ; return ( @ c ? p : q ) == 0 ; }"
    ∷ "int main ( void ) { return 0 ; }" ∷ []) ∷ [])
conditional_of_two_pointers = refl

-- the type of ?: of each kind
conditional_types : Accepted
    (("struct s { int a ; } v , w ; void g ( void ) { }"
    ∷ "int a [ sizeof ( 1 ? ( char ) 1 : ( short ) 1 ) ] ; extern int a [ 4 ] ;"
    ∷ "int b [ sizeof ( 0 ? 1LL : 1 ) ] ; extern int b [ 8 ] ; int d [ ( 1 ? - 1 : 0u ) > 0 ] ;"
    ∷ "extern int d [ 1 ] ; int f ( int c , int * p , const int * k , void * x ) {"
    ∷ "int n = * ( c ? p : 0 ) + * ( c ? ( void * ) 0 : p ) + * ( c ? p : k ) ; void * u = c ? p : x ;"
    ∷ "const void * y = c ? k : x ; int ( * m ) [ ] = 0 ; int ( * l ) [ 3 ] = 0 ;"
    ∷ "n += sizeof * ( c ? m : l ) / sizeof ( int ) ; c ? g ( ) : g ( ) ; n += ( c ? v : w ) . a ;"
    ∷ "return n + ( u == y ) + c ? 1 : 0 , 2 ; } int main ( void ) { return 0 ; }" ∷ []) ∷ [])
conditional_types = refl

-- ?: gathers the qualifiers of both sides
conditional_qualifiers : Refused U14
    (("int f ( int c , int * p , const int * k ) { * ( c ? p : p ) = 1 ; @ * ( c ? p : k ) = 1 ;"
    ∷ "return 0 ; } int main ( void ) { return 0 ; }" ∷ []) ∷ [])
conditional_qualifiers = refl

-- ?: with a void * that isn't null
conditional_with_void_pointer : Refused U14
    (("int f ( int c , int * p , void * v ) { int a = * ( c ? p : ( void * ) 0 ) ;"
    ∷ "int b = @ * ( c ? p : v ) ; return a + b ; } int main ( void ) { return 0 ; }" ∷ []) ∷ [])
conditional_with_void_pointer = refl

-- sizeof of an array sized in another file
size_known_elsewhere : Refused U14
    (("int t [ 3 ] ;" ∷ [])
    ∷ ("extern int t [ ] ; int f ( void ) { return t [ 1 ] ; } int main ( void ) {"
    ∷ "return f ( ) + @ sizeof t ; }" ∷ [])
    ∷ [])
size_known_elsewhere = refl

-- sizeof in a size before the size is declared
size_known_later : Refused U11
    (("extern int t [ ] ; int f ( void ) { return t [ 1 ] ; } int n [ @ sizeof t / 4 ] ; int t [ 3 ] ;"
    ∷ "int m [ sizeof t / 4 ] ; extern int m [ 3 ] ;"
    ∷ "int main ( void ) { return f ( ) + n [ 0 ] + m [ 2 ] ; }" ∷ []) ∷ [])
size_known_later = refl

-- struct s; in a block is a new type
tag_declared_again_in_block : Refused U14
    (("struct s { int a ; } ; int main ( void ) { struct s v = { 0 } ; struct s * q = & v ;"
    ∷ "q -> a = 1 ; { struct s ; struct s * p = 0 ; if ( p == 0 ) return q -> a - 1 ; return @ p -> a ;"
    ∷ "} }" ∷ []) ∷ [])
tag_declared_again_in_block = refl

-- & of a register variable
address_of_register : Refused U14
    (("int f ( register int * p , int n ) { int * q = & n ; q = & * p ;"
    ∷ "q = & p [ 0 ] + ( & n - & * q ) ; return * q ; } int main ( void ) { register int a = 0 ;"
    ∷ "return a + ( @ & a == 0 ) ; }" ∷ []) ∷ [])
address_of_register = refl

-- & of a member of a register struct
register_array_element : Refused U14
    (("int main ( void ) { register struct { int t [ 2 ] ; int a ; } v ; v . a = sizeof v . t ;"
    ∷ "return @ & v . a == 0 ; }" ∷ []) ∷ [])
register_array_element = refl

-- a call with too few arguments
too_few_arguments : Refused U14
    (("int f ( int a , int b ) { return a - b ; } int ( * g ) ( int , int ) = f ; int main ( void ) {"
    ∷ "return f ( 1 , 1 ) + @ g ( 2 ) ; }" ∷ []) ∷ [])
too_few_arguments = refl

-- a pointer as an int argument: at the call
argument_of_wrong_type : Refused U14
    (("int f ( const char * s , int n ) { return s [ n ] ; } int main ( void ) { char c = 0 ;"
    ∷ "f ( & c , 0 ) ; f ( \"x\" , c ) ; return 1 + @ f ( 0 , & c ) ; }" ∷ []) ∷ [])
argument_of_wrong_type = refl

-- a function pointer of another type without a cast
function_pointer_of_another_type : Refused U14
    (("int f ( int a ) { return a ; } int ( * p ) ( int ) = f ; int ( * q ) ( unsigned ) = @ f ;"
    ∷ "int main ( void ) { return p ( 0 ) + q ( 0 ) ; }" ∷ []) ∷ [])
function_pointer_of_another_type = refl

-- a local variable of an incomplete struct
object_of_incomplete_type : Refused U14
    (("struct s ; extern struct s * p ; int main ( void ) { struct s @ v ; return p == 0 ; }" ∷ []) ∷ [])
object_of_incomplete_type = refl

-- a member of type void
void_member : Refused U14
    (("struct s { void * a ; void @ b ; } ; int main ( void ) { return 0 ; }" ∷ []) ∷ [])
void_member = refl

-- incomplete types where only pointers to them are needed
incomplete_types : Accepted
    (("struct tree ;"
    ∷ "struct list { struct list * next ; struct tree * t ; int ( * each ) ( struct tree * ) ; } ;"
    ∷ "struct pair { struct pair * ( * swap ) ( struct pair * ) ; int a , b ; } ;"
    ∷ "extern struct tree * root ; struct tree * top ( void ) { return root ; } extern int t [ ] ;"
    ∷ "int * last = t + 2 ;"
    ∷ "int f ( struct list * p ) { return p -> next == p && p -> t == top ( ) && sizeof p -> t =="
    ∷ "sizeof last && t == last ; } struct tree { struct list l [ 2 ] ; int n ; } ;"
    ∷ "int n [ sizeof ( struct tree ) / sizeof ( struct list ) ] ; extern int n [ 2 ] ;"
    ∷ "int g ( void ) { return top ( ) -> l [ 1 ] . next -> t -> n ; } int t [ 3 ] ;"
    ∷ "struct tree * root ; int main ( void ) { struct list l = { 0 } ; return f ( & l ) ; }" ∷ []) ∷ [])
incomplete_types = refl

-- an assignment to an array
lvalues_needed : Refused U14
    (("int a [ 2 ] , b [ 2 ] ; int main ( void ) { a [ 0 ] = b [ 1 ] ; * a = * b ; @ a = b ; return 0 ;"
    ∷ "}" ∷ []) ∷ [])
lvalues_needed = refl

-- a pointer == 1
pointer_against_number : Refused U14
    (("int f ( int * p ) { if ( p == 0 || p != ( void * ) 0 ) return 1 ; return @ p == 1 ; }"
    ∷ "int main ( void ) { return 0 ; }" ∷ []) ∷ [])
pointer_against_number = refl

-- a void call in a sum
void_operand : Refused U14
    (("void g ( void ) { } int main ( void ) { int n = ( g ( ) , 1 ) ; ( void ) n , g ( ) ;"
    ∷ "return @ g ( ) + 1 ; }" ∷ []) ∷ [])
void_operand = refl

-- U11 at the size before U8 at its name
array_of_undeclared_in_a_sum : Refused U11
    (("int a [ @ 1 + n ] ; int main ( void ) { return a [ 0 ] ; }" ∷ []) ∷ [])
array_of_undeclared_in_a_sum = refl

-- 6.3.2.1: a name of type void is no lvalue; of another incomplete type it is one
address_of_void : Refused U14 (("extern void v ; void f ( void ) { @ & v ; }" ∷ []) ∷ [])
address_of_void = refl

-- and its value is no constant
value_of_void : Refused U11 (("extern void v ; int n = @ v ;" ∷ []) ∷ [])
value_of_void = refl

address_of_const_void : Accepted
    (("extern const void v ; const void * f ( void ) { return & v ; }" ∷ []) ∷ [])
address_of_const_void = refl

address_of_incomplete : Accepted
    (("extern struct s v ; struct s * f ( void ) { return & v ; }" ∷ []) ∷ [])
address_of_incomplete = refl
