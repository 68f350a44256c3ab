-- Worked texts of names: specifiers, linkage, parameters, tags and structs, computed on the definitions.
use Rattle.std.proofs.Common.{◌≡◌, refl, pos, negsuc}
use Rattle.std.specs.Prelude.{true, false, List, [], ◌∷◌, codes, Option, Some, None}
use Rattle.ck_types.specs.Types.{CType, Void, Integer, Pointer, Array, Struct, Function, NoParameters, Parameter}
use Rattle.ck_types.specs.Types.{ByTag, ByTypedef, ByPlace}
use Rattle.ck_types.specs.declared.integer_types.IntegerType.TheVariants as integers
use Rattle.ck_prog.specs.Declarations.{Variable, FunctionNamed, Enumerator, Entry, meant}
use Rattle.ck_prog.specs.OverFiles.{joined_over}
use Rattle.ck_prog.specs.Senses.{Varying, Valueless, Known}
use Rattle.ck_prog.specs.TypeClasses.{plain, unqualified, int}
use Rattle.ck_prog.specs.declared.names.Linkage.TheVariants.{Internal, External}
use Rattle.ck_prog.specs.declared.names.Defining.TheVariants.{Declares}
use Rattle.ck_prog.specs.declared.names.Storage.TheVariants.{Static}
use Rattle.ck_prog.proofs.Texts.{means, types_of, types_at, constancies, sense_in, sense_in_body, after_text}
use Rattle.ck_prog.proofs.Texts.{after_file}

-- specifiers (6.7.2, 6.7.3) -------------------------------------------------------------------------------------------

chars : types_of "char a ; signed char b ; char unsigned c ; _Bool d ;" ("a" ∷ "b" ∷ "c" ∷ "d" ∷ [])
    ≡ Some (Integer integers.Char) ∷ Some (Integer integers.SignedChar) ∷ Some (Integer integers.Char)
    ∷ Some (Integer integers.Bool) ∷ []
chars = refl

shorts : types_of "short a ; short unsigned int b ;" ("a" ∷ "b" ∷ [])
    ≡ Some (Integer integers.Short) ∷ Some (Integer integers.UnsignedShort) ∷ []
shorts = refl

ints : types_of "signed a ; unsigned b ; int long c ; unsigned long d ;" ("a" ∷ "b" ∷ "c" ∷ "d" ∷ [])
    ≡ Some int ∷ Some (Integer integers.UnsignedInt) ∷ Some (Integer integers.Long)
    ∷ Some (Integer integers.UnsignedLong) ∷ []
ints = refl

long_longs : types_of "long signed long a ; long unsigned long int b ; long const long c ;" ("a" ∷ "b" ∷ "c" ∷ [])
    ≡ Some (Integer integers.LongLong) ∷ Some (Integer integers.UnsignedLongLong) ∷ Some (Integer integers.LongLong)
    ∷ []
long_longs = refl

-- the qualifiers of an array are its elements', those of a pointer are its own
qualifiers : types_of "typedef int t [ 3 ] ; const t a ; typedef int * p ; const p b ; const int * volatile * c ;"
    ("a" ∷ "b" ∷ "c" ∷ [])
    ≡ Some (Array (record { constant = true; volatile = false }) int (Some 3))
    ∷ Some (Pointer plain int)
    ∷ Some (Pointer (record { constant = false; volatile = true })
    (Pointer (record { constant = true; volatile = false }) int)) ∷ []
qualifiers = refl

-- linkage (6.2.2) -----------------------------------------------------------------------------------------------------

internal_object : means "static int x ; extern int x ;" "x"
    ≡ Some (Variable (Some (unqualified int)) Internal Declares Static)
internal_object = refl

external_object : means "extern int x ;" "x" ≡ Some (Variable (Some (unqualified int)) External Declares Static)
external_object = refl

-- 6.7.7: a function by a typedef name
function_by_name : means "typedef void t ( int ) ; static t f ;" "f"
    ≡ Some (FunctionNamed (Some (Function plain Void (Parameter int NoParameters) false)) Internal Declares)
function_by_name = refl

-- 6.7.5.2, 6.7.5.3: what can't be made is missing, and still a function is one
impossible : types_of
    "int a ( void ) [ 2 ] ; struct s b [ 2 ] ; void c [ 2 ] ; int d [ 2 ] [ ] ; int e [ 2 ] ( void ) ;"
    ("a" ∷ "b" ∷ "c" ∷ "d" ∷ "e" ∷ []) ≡ None ∷ None ∷ None ∷ None ∷ None ∷ []
impossible = refl

still_a_function : means "typedef int t [ 2 ] ; t f ( void ) ;" "f" ≡ Some (FunctionNamed None External Declares)
still_a_function = refl

bounds : types_of "int a [ 0 ] ; char b [ 1048576 ] ; char c [ 1048577 ] ; int d [ - 1 ] ; char e [ 16 ] [ 1048576 ] ;"
    ("a" ∷ "c" ∷ "d" ∷ []) ≡ None ∷ None ∷ None ∷ []
bounds = refl

greatest : constancies "char b [ 1048576 ] ; char e [ 16 ] [ 1048576 ] ; int f [ 5 ] [ 1048576 ] ;"
    ("sizeof b" ∷ "sizeof e" ∷ "sizeof f" ∷ []) ≡ Known (pos 1048576) ∷ Known (pos 16777216) ∷ Varying ∷ []
greatest = refl

-- 6.2.7: joined over two files
joined_files : types_at (after_file (after_text "int x [ 3 ] ;").declared 1 "extern int x [ ] ;") ("x" ∷ [])
    ≡ Some (Array plain int None) ∷ []
joined_files = refl

abbrev joined_of : Option Entry → List Entry → Option CType
joined_of None es = None
joined_of (Some e) es = joined_over es e es

joined_type : (let p = after_file (after_text "int x [ 3 ] ;").declared 1 "extern int x [ ] ;" in
    joined_of (meant p (codes "x")) p.declared) ≡ Some (Array plain int (Some 3))
joined_type = refl

-- parameters (6.7.5.3, 6.9.1) -----------------------------------------------------------------------------------------

register_parameter : (sense_in_body "int f ( register int a , int b ) { }" "& a").type ≡ None
register_parameter = refl

other_parameter : (sense_in_body "int f ( register int a , int b ) { }" "& b").type ≡ Some (Pointer plain int)
other_parameter = refl

const_parameter : (sense_in_body "int f ( const int a ) { }" "a = 1").type ≡ None
const_parameter = refl

array_parameter : (sense_in_body "int f ( int a [ 3 ] ) { }" "sizeof a").constancy ≡ Known (pos 4)
array_parameter = refl

hiding_parameter : (sense_in_body "char f ( int f ) { }" "f").type ≡ Some int
hiding_parameter = refl

-- the parameters next to the name
function_in_parentheses : (sense_in_body "int ( f ) ( int a ) { }" "a").type ≡ Some int
function_in_parentheses = refl

inner_parameters : (sense_in_body "int ( * f ( int a ) ) ( char b ) { }" "a").type ≡ Some int
inner_parameters = refl

outer_parameters : (sense_in_body "int ( * f ( int a ) ) ( char b ) { }" "b").type ≡ None
outer_parameters = refl

-- a prototype's scope ends with it
prototype_scope : (sense_in "int f ( int a , int b [ sizeof a ] ) ;" "a").type ≡ None
prototype_scope = refl

-- tags and structs (6.7.2.1 to 6.7.2.3) -------------------------------------------------------------------------------

identities : types_of
    "struct { int a ; } a ; struct s * b ; struct s { int c ; } c ; typedef struct { int a ; } * p , t ; t d ;"
    ("a" ∷ "b" ∷ "c" ∷ "d" ∷ [])
    ≡ Some (Struct (ByPlace 0 0)) ∷ Some (Pointer plain (Struct (ByTag (codes "s"))))
    ∷ Some (Struct (ByTag (codes "s"))) ∷ Some (Struct (ByTypedef (codes "p"))) ∷ []
identities = refl

-- a tag of another kind, or one of an enumerated type that isn't in sight, names no type
kinds_of_tags : types_of "enum e { A } ; struct e * a ; struct s * b ; enum s c ; enum u d ; enum e g ;"
    ("a" ∷ "b" ∷ "c" ∷ "d" ∷ "g" ∷ [])
    ≡ None ∷ Some (Pointer plain (Struct (ByTag (codes "s")))) ∷ None ∷ None ∷ Some int ∷ []
kinds_of_tags = refl

-- a tag of a body in a prototype is by its place
inner_tag : types_of "void f ( struct s { int a ; } * p ) ;" ("f" ∷ [])
    ≡ Some (Function plain Void (Parameter (Pointer plain (Struct (ByPlace 0 16))) NoParameters) false) ∷ []
inner_tag = refl

-- a struct that points to itself
list : (sense_in "struct s { struct s * next ; int a ; } x ;" "x . next -> next -> a").type ≡ Some int
list = refl

nested : (sense_in
    "struct s { struct { int a ; } i ; struct t { char c ; } j ; } x ; struct t y ;" "x . i . a + y . c").type
    ≡ Some int
nested = refl

-- 6.2.5, 6.7.2.1: a struct is incomplete in its own body
own_size : types_of "struct s { int a ; char c [ sizeof ( struct s ) ] ; struct s b ; } x ; struct t * p ;" ("x" ∷ [])
    ≡ Some (Struct (ByTag (codes "s"))) ∷ []
own_size = refl

own_size_unknown : constancies
    "struct s { int a ; char c [ sizeof ( struct s ) ] ; } x ;" ("sizeof x" ∷ []) ≡ Varying ∷ []
own_size_unknown = refl

-- 6.9.1: a struct in the parameters of a function that is defined is declared twice, and has its members once
struct_in_parameters : (sense_in_body "int f ( struct s { int a ; char b ; } * p ) { }" "sizeof * p").constancy
    ≡ Known (pos 8)
struct_in_parameters = refl

-- 6.3.2.1: an array of const elements makes its struct unmodifiable
const_elements : (sense_in "struct s { const int a [ 2 ] ; } x , y ;" "x = y").type ≡ None
const_elements = refl

-- natural alignment
layouts : constancies
    "struct s { char a ; short b ; char c ; } x ; struct t { char a ; struct s b [ 2 ] ; long long c ; int * d ; } y ;"
    ("sizeof x" ∷ "sizeof y" ∷ "sizeof y . b" ∷ []) ≡ Known (pos 6) ∷ Known (pos 32) ∷ Known (pos 12) ∷ []
layouts = refl

-- 6.7.2.2: values, and one past the greatest `int`
enumerators : (means "enum { A = 2147483647 , B } ;" "B") ≡ Some (Enumerator None)
enumerators = refl

negative_enumerator : means "enum { A = - 1 , B , C = 'a' , D } ;" "D" ≡ Some (Enumerator (Some (pos 98)))
negative_enumerator = refl

-- constant expressions (6.6) ------------------------------------------------------------------------------------------

unevaluated : constancies "int i ;"
    ("1 || 1 / 0" ∷ "0 || 1 / 0" ∷ "0 ? 1 / 0 : 5" ∷ "1 / 0 ? 1 : 2" ∷ "1 ? 2 : 1 / 0" ∷ "1 / 0 && 1" ∷ [])
    ≡ Known (pos 1) ∷ Valueless ∷ Known (pos 5) ∷ Valueless ∷ Known (pos 2) ∷ Valueless ∷ []
unevaluated = refl

varying : constancies "int i ;"
    ("1 / 0 + i" ∷ "i + 1 / 0" ∷ "1 ? 2 : i" ∷ "1 / 0 || i" ∷ "0 && i" ∷ "( 1 , 2 )"
    ∷ "i = 1" ∷ "- i" ∷ "i ? 1 : 1" ∷ [])
    ≡ Varying ∷ Varying ∷ Varying ∷ Varying ∷ Varying ∷ Varying ∷ Varying ∷ Varying ∷ Varying ∷ []
varying = refl

values : constancies "int i ;"
    ("( char ) 300" ∷ "~ 0u" ∷ "- 2147483647 - 1" ∷ "- 2147483648" ∷ "! 5" ∷ "sizeof i * 2" ∷ "1 << 31"
    ∷ "- 8 >> 1" ∷ [])
    ≡ Known (pos 44) ∷ Known (pos 4294967295) ∷ Known (negsuc 2147483647) ∷ Known (negsuc 2147483647) ∷ Known (pos 0)
    ∷ Known (pos 8) ∷ Valueless ∷ Known (negsuc 3) ∷ []
values = refl
