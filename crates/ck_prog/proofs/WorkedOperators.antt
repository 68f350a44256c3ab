-- Worked texts of operators, by the sections of 6.5: expressions that have a type, and others that have none.
use Rattle.std.proofs.Common.{refl}
use Rattle.std.specs.Prelude.{List, [], ◌∷◌}
use Rattle.ck_prog.proofs.Rows.{HaveTypes, LackTypes, AreFixed, AreNotFixed, AreNull, AreNotNull}
use Prim.Native.String.{String}

-- numbers, pointers, an array, a struct with an array of its own, a struct that is incomplete, and functions
abbrev file : List String
file =
    "int i ; char c ; _Bool b ; const int ci ; int * p ; const int * cp ; char * pc ; void * v ; int a [ 3 ] ;"
    ∷ "struct s { int n ; int m [ 2 ] ; } x ; struct t * q ; void f ( int n ) ; void ( * fp ) ( int n ) ;"
    ∷ "void g ( void ) ; int h ( int n , ... ) ; struct s k ( struct s y ) ; struct t u ( void ) ;"
    ∷ "void w ( struct t y ) ;"
    ∷ []

-- 6.5.2.1
elements : HaveTypes file (
    "a [ 1 ]" ∷ "1 [ a ]" ∷ "p [ c ]" ∷ "( p + 1 ) [ i ]" ∷ "x . m [ 0 ]" ∷ [])
elements = refl

-- 6.5.2.1: an index of a pointer to an incomplete type or a function, and of no pointer
no_elements : LackTypes file (
    "p [ p ]" ∷ "v [ 0 ]" ∷ "f [ 0 ]" ∷ "i [ 0 ]" ∷ "q [ 0 ]" ∷ "x [ 0 ]" ∷ [])
no_elements = refl

-- 6.5.2.2
called : HaveTypes file (
    "f ( 1 )" ∷ "( * f ) ( c )" ∷ "fp ( i )" ∷ "( * * fp ) ( i )" ∷ "g ( )" ∷ "h ( 1 )" ∷ "h ( 1 , p , x )"
    ∷ "k ( x )" ∷ "f ( b )" ∷ [])
called = refl

-- 6.5.2.2: too few and too many arguments, a wrong one, one without a value, an incomplete result, and no function
not_called : LackTypes file (
    "f ( )" ∷ "f ( 1 , 2 )" ∷ "f ( p )" ∷ "g ( 1 )" ∷ "h ( )" ∷ "h ( 1 , g ( ) )" ∷ "k ( i )" ∷ "u ( )"
    ∷ "i ( )" ∷ "p ( )" ∷ "f ( x )" ∷ "w ( * q )" ∷ [])
not_called = refl

-- 6.5.2.3
members : HaveTypes file (
    "x . n" ∷ "k ( x ) . n" ∷ "( & x ) -> n" ∷ "( i ? x : x ) . n" ∷ [])
members = refl

-- 6.5.2.3: no member, no struct, and a struct that is incomplete
no_members : LackTypes file (
    "x . o" ∷ "x -> n" ∷ "i . n" ∷ "q -> n" ∷ "( * q ) . n" ∷ "( & x ) . n" ∷ [])
no_members = refl

-- 6.5.2.4, 6.5.3.1
steps : HaveTypes file (
    "i ++" ∷ "-- c" ∷ "b ++" ∷ "p --" ∷ "++ pc" ∷ "x . n ++" ∷ "* p ++" ∷ "a [ 0 ] ++" ∷ [])
steps = refl

-- 6.5.2.4, 6.5.3.1: what is const, is no lvalue, or is no scalar
no_steps : LackTypes file (
    "ci ++" ∷ "a ++" ∷ "( i + 1 ) ++" ∷ "v ++" ∷ "q ++" ∷ "f ++" ∷ "x ++" ∷ "i ++ ++" ∷ "* cp ++ ++" ∷ "1 ++" ∷ [])
no_steps = refl

-- 6.5.3.2
addresses : HaveTypes file (
    "& i" ∷ "& f" ∷ "& a" ∷ "& a [ 1 ]" ∷ "& * v" ∷ "& * f" ∷ "& x . n" ∷ "* p" ∷ "* a" ∷ "* f" ∷ "* * f"
    ∷ "* v" ∷ "& * q" ∷ "& \"s\"" ∷ [])
addresses = refl

-- 6.5.3.2
no_addresses : LackTypes file (
    "& 1" ∷ "& ( i + 1 )" ∷ "& & i" ∷ "& k ( x )" ∷ "* i" ∷ "* x" ∷ "& i ++" ∷ "& ( i , i )" ∷ [])
no_addresses = refl

-- 6.5.3.3
signs : HaveTypes file (
    "- i" ∷ "+ c" ∷ "~ b" ∷ "! i" ∷ "! p" ∷ "! f" ∷ "! a" ∷ [])
signs = refl

-- 6.5.3.3
no_signs : LackTypes file (
    "- p" ∷ "+ p" ∷ "~ p" ∷ "! x" ∷ "- x" ∷ "! g ( )" ∷ [])
no_signs = refl

-- 6.5.3.4
sizes : HaveTypes file (
    "sizeof i" ∷ "sizeof a" ∷ "sizeof x" ∷ "sizeof p" ∷ "sizeof * p" ∷ "sizeof ( struct s )" ∷ "sizeof & f"
    ∷ "sizeof ( int [ 2 ] )" ∷ [])
sizes = refl

-- 6.5.3.4
no_sizes : LackTypes file (
    "sizeof f" ∷ "sizeof * v" ∷ "sizeof ( void )" ∷ "sizeof ( struct t )" ∷ "sizeof * q" ∷ "sizeof ( int [ ] )"
    ∷ "sizeof ( void ( void ) )" ∷ [])
no_sizes = refl

-- 6.5.4
casts : HaveTypes file (
    "( char ) i" ∷ "( int * ) i" ∷ "( int ) p" ∷ "( void ) x" ∷ "( void ) g ( )" ∷ "( struct t * ) v"
    ∷ "( _Bool ) p" ∷ "( const int ) c" ∷ "( void ( * ) ( void ) ) f" ∷ [])
casts = refl

-- 6.5.4
no_casts : LackTypes file (
    "( struct s ) x" ∷ "( int ) x" ∷ "( int ) g ( )" ∷ "( int * ) x" ∷ "( int [ 3 ] ) a" ∷ [])
no_casts = refl

-- 6.5.5, 6.5.7, 6.5.10 to 6.5.12
integers : HaveTypes file (
    "i * c" ∷ "i / b" ∷ "i % c" ∷ "i << c" ∷ "c >> 1" ∷ "i & c" ∷ "i ^ b" ∷ "i | 1" ∷ [])
integers = refl

-- 6.5.5, 6.5.7, 6.5.10 to 6.5.12
no_integers : LackTypes file (
    "p * i" ∷ "i / p" ∷ "p % 2" ∷ "p << 1" ∷ "1 << p" ∷ "p & 1" ∷ "x ^ x" ∷ "p | p" ∷ [])
no_integers = refl

-- 6.5.6
sums : HaveTypes file (
    "p + i" ∷ "c + p" ∷ "a + 1" ∷ "p - 1" ∷ "p - p" ∷ "p - cp" ∷ "a - p" ∷ "& a - & a" ∷ [])
sums = refl

-- 6.5.6: of two pointers, to an incomplete type or a function, and of pointers to types that aren't compatible
no_sums : LackTypes file (
    "p + p" ∷ "i - p" ∷ "p - pc" ∷ "v + 1" ∷ "f + 1" ∷ "q - 1" ∷ "x + 1" ∷ "v - v" ∷ "q - q" ∷ [])
no_sums = refl

-- 6.5.8
orders : HaveTypes file (
    "i < c" ∷ "p < p" ∷ "p >= cp" ∷ "q <= q" ∷ "v > v" ∷ "a < p" ∷ [])
orders = refl

-- 6.5.8
no_orders : LackTypes file (
    "p < pc" ∷ "p < 0" ∷ "f < f" ∷ "p > v" ∷ "x < x" ∷ "p <= i" ∷ [])
no_orders = refl

-- 6.5.9
equalities : HaveTypes file (
    "i == c" ∷ "p == p" ∷ "p == cp" ∷ "p != 0" ∷ "0 == p" ∷ "p == v" ∷ "f == f" ∷ "f == 0" ∷ "fp != f"
    ∷ "q == v" ∷ "( void * ) 0 == f" ∷ [])
equalities = refl

-- 6.5.9
no_equalities : LackTypes file (
    "p == pc" ∷ "f == v" ∷ "v != f" ∷ "p == 1" ∷ "x == x" ∷ "p == i" ∷ "p == ( void * ) 0 * 1" ∷ "f == h" ∷ [])
no_equalities = refl

-- 6.5.13, 6.5.14
truths : HaveTypes file (
    "i && p" ∷ "p || f" ∷ "! i && a" ∷ "i || c" ∷ [])
truths = refl

-- 6.5.13, 6.5.14
no_truths : LackTypes file (
    "x && i" ∷ "i || x" ∷ "g ( ) && i" ∷ [])
no_truths = refl

-- 6.5.15
choices : HaveTypes file (
    "i ? 1 : c" ∷ "p ? x : x" ∷ "i ? g ( ) : g ( )" ∷ "i ? p : cp" ∷ "i ? p : 0" ∷ "i ? 0 : p" ∷ "i ? p : v"
    ∷ "i ? f : 0" ∷ "i ? f : fp" ∷ "i ? a : p" ∷ [])
choices = refl

-- 6.5.15
no_choices : LackTypes file (
    "x ? 1 : 2" ∷ "i ? x : 1" ∷ "i ? g ( ) : 1" ∷ "i ? p : pc" ∷ "i ? f : v" ∷ "i ? p : 1" ∷ "g ( ) ? 1 : 2" ∷ [])
no_choices = refl

-- 6.5.16
assignments : HaveTypes file (
    "i = c" ∷ "p = 0" ∷ "v = p" ∷ "p = v" ∷ "x = x" ∷ "b = p" ∷ "cp = p" ∷ "fp = f" ∷ "fp = & f" ∷ "fp = 0"
    ∷ "x = k ( x )" ∷ "* p = 1" ∷ "a [ 0 ] = 1" ∷ "p = a" ∷ "cp = 0" ∷ [])
assignments = refl

-- 6.5.16: fewer qualifiers, another type, and no modifiable lvalue on the left
no_assignments : LackTypes file (
    "p = cp" ∷ "p = 1" ∷ "i = p" ∷ "v = f" ∷ "fp = v" ∷ "a = a" ∷ "1 = i" ∷ "ci = 1" ∷ "f = f" ∷ "x = i"
    ∷ "i = x" ∷ "p = pc" ∷ "fp = h" ∷ "* cp = 1" ∷ "( i = c ) = 1" ∷ "k ( x ) . n = 1" ∷ "b = x" ∷ "v = cp"
    ∷ "i = g ( )" ∷ [])
no_assignments = refl

-- 6.5.16.2
compounds : HaveTypes file (
    "i += c" ∷ "p += 1" ∷ "p -= c" ∷ "i <<= 2" ∷ "b |= 1" ∷ "c %= 3" ∷ [])
compounds = refl

-- 6.5.16.2
no_compounds : LackTypes file (
    "p *= 2" ∷ "p += p" ∷ "i += p" ∷ "v += 1" ∷ "x += 1" ∷ "ci += 1" ∷ "p -= p" ∷ "p &= 1" ∷ "q += 1" ∷ [])
no_compounds = refl

-- 6.6: addresses of static objects and functions, moved by known numbers, and numbers
fixed : AreFixed file (
    "f" ∷ "& f" ∷ "a" ∷ "& a" ∷ "& a [ 2 ]" ∷ "a + 1" ∷ "1 + a" ∷ "& x . n + 1" ∷ "x . m" ∷ "& x . m [ 1 ]"
    ∷ "\"s\"" ∷ "( char * ) & i" ∷ "( int * ) 4" ∷ "1 ? & i : 0" ∷ "& * & i" ∷ "0" ∷ "1 + 2" ∷ "( & x ) -> m"
    ∷ "* & f" ∷ "a - 1" ∷ "( void * ) 0" ∷ [])
fixed = refl

-- 6.6: what is in an object, an address at an index that isn't known, and an address as a number
not_fixed : AreNotFixed file (
    "i" ∷ "p" ∷ "& a [ i ]" ∷ "a + i" ∷ "( int ) & i" ∷ "( _Bool ) & i" ∷ "& * p" ∷ "& p [ 1 ]" ∷ "a [ 1 ]"
    ∷ "x . n" ∷ "i ? & i : & i" ∷ "& i == 0" ∷ "f ( 1 )" ∷ "i + 1" ∷ "( & i , & i )" ∷ "( char ) i" ∷ [])
not_fixed = refl

-- 6.3.2.3: integer constant expressions of value 0, and such cast to `void *`
nulls : AreNull file (
    "0" ∷ "( 0 )" ∷ "1 - 1" ∷ "'\\0'" ∷ "( char ) 256" ∷ "( void * ) 0" ∷ "( void * ) ( 1 - 1 )"
    ∷ "! 1" ∷ "sizeof i - 4" ∷ "( long ) 0" ∷ [])
nulls = refl

-- 6.3.2.3
no_nulls : AreNotNull file (
    "i" ∷ "1" ∷ "p" ∷ "( int * ) 0" ∷ "( const void * ) 0" ∷ "( void * ) ( void * ) 0" ∷ "( void * ) 1"
    ∷ "( 0 , 0 )" ∷ "i * 0" ∷ "i ? 0 : 0" ∷ "0 / 0" ∷ "i = 0" ∷ "( char ) p" ∷ [])
no_nulls = refl
