-- Worked texts of declarations and of senses, computed on the definitions.
use Rattle.std.proofs.Common.{◌≡◌, refl, pos}
use Rattle.std.specs.Prelude.{true, false, codes, Some, None}
use Rattle.ck_types.specs.Types.{Void, Integer, Pointer, Array, Struct, Function, NoParameters, Parameter, ByTypedef}
use Rattle.ck_types.specs.declared.integer_types.IntegerType.TheVariants as integers
use Rattle.ck_prog.specs.Declarations.{Variable, FunctionNamed, Enumerator}
use Rattle.ck_prog.specs.Senses.{Varying, Valueless, Known}
use Rattle.ck_prog.specs.TypeClasses.{plain, unqualified, int}
use Rattle.ck_prog.specs.declared.names.Linkage.TheVariants.{Internal, External}
use Rattle.ck_prog.specs.declared.names.Defining.TheVariants.{Declares, Tentative, Defines}
use Rattle.ck_prog.specs.declared.names.Storage.TheVariants.{Static}
use Rattle.ck_prog.proofs.Texts.{means, sense_in}

-- 6.9.2
tentative : means "int x ;" "x" ≡ Some (Variable (Some (unqualified int)) External Tentative Static)
tentative = refl

-- 6.7.2.2: the next value
next_enumerator : means "enum { A , B = 5 , C } ;" "C" ≡ Some (Enumerator (Some (pos 6)))
next_enumerator = refl

-- 6.7.5.2
arrays : means "int a [ 3 ] [ 2 + 2 ] ;" "a"
    ≡ Some (Variable (Some (unqualified (Array plain (Array plain int (Some 4)) (Some 3)))) External Tentative Static)
arrays = refl

-- a size without a value gives no type
no_size : means "int a [ 1 / 0 ] ;" "a" ≡ Some (Variable None External Tentative Static)
no_size = refl

-- 6.2.7: the composite type
composed : means "int a [ 3 ] ; extern int a [ ] ;" "a"
    ≡ Some (Variable (Some (unqualified (Array plain int (Some 3)))) External Declares Static)
composed = refl

-- 6.2.2: linkage stays internal
stays_internal : means "static int f ( void ) ; int f ( void ) ;" "f"
    ≡ Some (FunctionNamed (Some (Function plain int NoParameters false)) Internal Declares)
stays_internal = refl

-- 6.7.5.3: a function that takes a number and a handler and returns a handler
signal : means "void ( * signal ( int s , void ( * h ) ( int ) ) ) ( int ) ;" "signal"
    ≡ Some (FunctionNamed (Some (Function plain (Pointer plain (Function plain Void (Parameter int NoParameters) false))
    (Parameter int
    (Parameter (Pointer plain (Function plain Void (Parameter int NoParameters) false)) NoParameters)) false))
    External Declares)
signal = refl

-- 6.7.2.1: the size of a struct with bytes between its members, through a typedef name without a tag
sized : (sense_in "typedef struct { char c ; long long l ; char d ; } t ; t x ;" "sizeof x").constancy ≡ Known (pos 24)
sized = refl

named_struct : means "typedef struct { char c ; } t ; t x ;" "x"
    ≡ Some (Variable (Some (unqualified (Struct (ByTypedef (codes "t"))))) External Tentative Static)
named_struct = refl

-- 6.2.1: an enumeration constant of `sizeof` is in sight after it
late_name : (sense_in "int x ;" "sizeof ( enum { A = 4 , B } ) + B").constancy ≡ Known (pos 9)
late_name = refl

-- 6.6: `0 && 1 / 0` has a value, `1 / 0` is constant and has none, `1 || x` is no constant expression
unevaluated : (sense_in "int x ;" "0 && 1 / 0").constancy ≡ Known (pos 0)
unevaluated = refl

divided : (sense_in "int x ;" "1 / 0").constancy ≡ Valueless
divided = refl

not_constant : (sense_in "int x ;" "1 || x").constancy ≡ Varying
not_constant = refl

overflow : (sense_in "int x ;" "2147483647 + 1").constancy ≡ Valueless
overflow = refl

wraps : (sense_in "int x ;" "4294967295u + 2").constancy ≡ Known (pos 1)
wraps = refl

-- 6.3.1.8: a negative operand beside an unsigned one
unsigned_wins : (sense_in "int x ;" "- 1 < 0u").constancy ≡ Known (pos 0)
unsigned_wins = refl

negative : (sense_in "int x ;" "- 7 / 2 % 3").constancy ≡ Known (pos 0)
negative = refl

-- 6.5.2: members, indices, calls
path : (sense_in "struct s { const int m [ 2 ] ; struct s * next ; } ; struct s a [ 3 ] ; struct s * f ( int n ) ;"
    "f ( 1 ) -> next [ 2 ] . m [ 1 ]").type ≡ Some int
path = refl

wrong_argument : (sense_in "struct s { int m ; } ; struct s * f ( int n ) ;" "f ( f ( 1 ) ) -> m").type ≡ None
wrong_argument = refl

-- 6.3.2.3, 6.6
null : (sense_in "int x ;" "( void * ) 0").null ≡ true
null = refl

address : (sense_in "struct s { int a ; int m [ 3 ] ; } ; struct s x ;" "& x . m [ 2 ] + 1").fixed ≡ true
address = refl

-- 6.2.1: a parameter hides the function in its own scope alone
hidden : means "int f ( int f ) { return f ; }" "f"
    ≡ Some (FunctionNamed (Some (Function plain int (Parameter int NoParameters) false)) External Defines)
hidden = refl

-- 6.7.5.3, 6.7.1: a parameter of class register
register_parameter : means "void f ( register int a , void ( * g ) ( int a ) ) ;" "f"
    ≡ Some (FunctionNamed (Some (Function plain Void (Parameter int
    (Parameter (Pointer plain (Function plain Void (Parameter int NoParameters) false)) NoParameters)) false))
    External Declares)
register_parameter = refl

-- 6.7.5.3: `void` alone, also by its typedef name, is no parameter
void_parameter : means "typedef void v ; int f ( v ) ;" "f"
    ≡ Some (FunctionNamed (Some (Function plain int NoParameters false)) External Declares)
void_parameter = refl

void_beside_another : means "int f ( int a , void ) ;" "f" ≡ Some (FunctionNamed None External Declares)
void_beside_another = refl

-- 6.7.5.3: arrays and functions as parameters are pointers, and their own qualifiers don't count
adjusted_parameters : means "int f ( const int a , const int b [ 3 ] , int g ( void ) ) ;" "f"
    ≡ means "int f ( int a , const int * b , int ( * g ) ( void ) ) ;" "f"
adjusted_parameters = refl

-- 6.2.1, 6.7.2.3: a tag of a prototype is another struct than one of the file
prototype_tag : (sense_in "void f ( struct s * p ) ; struct s { int a ; } ; struct s x ;" "f ( & x )").type ≡ None
prototype_tag = refl

file_tag : (sense_in "struct s ; void f ( struct s * p ) ; struct s { int a ; } ; struct s x ;" "f ( & x )").type
    ≡ Some Void
file_tag = refl

-- 6.5.2.3, 6.7.3: a struct's qualifiers reach its members, the elements of arrays too
const_struct : (sense_in "struct s { int m [ 2 ] ; } ; const struct s x ;" "x . m [ 0 ] = 1").type ≡ None
const_struct = refl

const_pointer : (sense_in "struct s { int m ; } ; struct s * const p ;" "p -> m = 1").type ≡ Some int
const_pointer = refl

-- 6.3.2.1: a struct with a const member isn't modifiable
const_member : (sense_in "struct s { struct { const int a ; } b ; } ; struct s x , y ;" "x = y").type ≡ None
const_member = refl

-- 6.5.3.2
address_of_object : (sense_in "int x ;" "& x").type ≡ Some (Pointer plain int)
address_of_object = refl

-- 6.3.2.3: a null pointer constant cast again is none
null_twice : (sense_in "int * p ;" "p = ( void * ) ( void * ) 0").type ≡ Some (Pointer plain int)
null_twice = refl

null_of_functions : (sense_in "void ( * p ) ( void ) ;" "p = ( void * ) 0").type
    ≡ Some (Pointer plain (Function plain Void NoParameters false))
null_of_functions = refl

null_twice_of_functions : (sense_in "void ( * p ) ( void ) ;" "p = ( void * ) ( void * ) 0").type ≡ None
null_twice_of_functions = refl

-- 6.5.15: the types of `? :`
choice_of_integers : (sense_in "char c ;" "1 ? c : 2u").type ≡ Some (Integer integers.UnsignedInt)
choice_of_integers = refl

choice_of_qualifiers : (sense_in "const int * p ; volatile int * q ;" "1 ? p : q").type
    ≡ Some (Pointer (record { constant = true; volatile = true }) int)
choice_of_qualifiers = refl

choice_with_void : (sense_in "int * p ; void * q ;" "1 ? p : q").type ≡ Some (Pointer plain Void)
choice_with_void = refl

choice_with_null : (sense_in "int * p ;" "1 ? p : ( void * ) 0").type ≡ Some (Pointer plain int)
choice_with_null = refl

choice_of_two : (sense_in "int * p ; char * q ;" "1 ? p : q").type ≡ None
choice_of_two = refl

-- 6.5.16.1: a pointer to more qualifiers takes one to fewer
more_qualifiers : (sense_in "const int * p ; int * q ;" "p = q").type
    ≡ Some (Pointer (record { constant = true; volatile = false }) int)
more_qualifiers = refl

fewer_qualifiers : (sense_in "const int * p ; int * q ;" "q = p").type ≡ None
fewer_qualifiers = refl

-- 6.5.3.4: a comma and a sum take the value of an array
size_of_array : (sense_in "char a [ 10 ] ;" "sizeof a").constancy ≡ Known (pos 10)
size_of_array = refl

size_of_value : (sense_in "char a [ 10 ] ;" "sizeof ( 0 , a )").constancy ≡ Known (pos 4)
size_of_value = refl

size_of_string : (sense_in "int x ;" "sizeof \"abc\" + sizeof \"abc\" \"de\"").constancy ≡ Known (pos 10)
size_of_string = refl

-- 6.2.5: a size that another declaration tells is none before it
size_unknown : (sense_in "extern int t [ ] ;" "sizeof t").type ≡ None
size_unknown = refl

-- 6.9.1: a struct in the parameters of a function that is defined is declared twice, and is of one size
struct_in_parameters : (sense_in
    "int f ( struct s { int a ; } * p ) { return 0 ; } struct s { int a ; long long b ; } x ;" "sizeof x").constancy
    ≡ Known (pos 16)
struct_in_parameters = refl

-- 6.4.4.1, 6.4.4.4: bases, suffixes and escapes
hexadecimal : (sense_in "int x ;" "0x80000000").type ≡ Some (Integer integers.UnsignedInt)
hexadecimal = refl

decimal : (sense_in "int x ;" "2147483648").type ≡ Some (Integer integers.LongLong)
decimal = refl

octal : (sense_in "int x ;" "010 + 0xFuL").constancy ≡ Known (pos 23)
octal = refl

suffixes : (sense_in "int x ;" "1LLu").type ≡ Some (Integer integers.UnsignedLongLong)
suffixes = refl

escapes : (sense_in "int x ;" "'\\n' + '\\x41' + '\\101' + 'a'").constancy ≡ Known (pos 237)
escapes = refl

string_of_escapes : (sense_in "int x ;" "sizeof \"\\n\\x41\\101a\"").constancy ≡ Known (pos 5)
string_of_escapes = refl
