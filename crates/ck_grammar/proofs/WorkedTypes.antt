-- Worked texts of specifiers, computed on the reader: each combination of C99 6.7.2 in some order, and others refused.
use Rattle.std.proofs.Common.{refl}
use Rattle.ck_grammar.proofs.Grouping.{Accepts, Refuses}

chars : Accepts "void f ( ) ; _Bool a ; char a ; signed char a ; char unsigned a ;"
chars = refl

shorts : Accepts
    "short a ; short signed a ; int short a ; short signed int a ; unsigned short a ; int unsigned short a ;"
shorts = refl

ints : Accepts "int a ; signed a ; signed int a ; unsigned a ; int unsigned a ;"
ints = refl

longs : Accepts "long a ; long signed a ; long int a ; int signed long a ; unsigned long a ; long unsigned int a ;"
longs = refl

long_longs : Accepts "long long a ; long signed long a ; int long long a ; signed long int long a ;"
long_longs = refl

unsigned_long_longs : Accepts
    "unsigned long long a ; long unsigned int long const a ; static volatile long long unsigned a ;"
unsigned_long_longs = refl

named : Accepts "typedef int t ; const t a ; struct s b ; enum { A } static c ;"
named = refl

-- 6.7.2: no other combination
short_long : Refuses "short long a ;"
short_long = refl

long_long_long : Refuses "long long long a ;"
long_long_long = refl

int_int : Refuses "int int a ;"
int_int = refl

signed_unsigned : Refuses "signed unsigned a ;"
signed_unsigned = refl

char_int : Refuses "char int a ;"
char_int = refl

unsigned_void : Refuses "unsigned void a ;"
unsigned_void = refl

no_type : Refuses "const a ;"
no_type = refl

struct_int : Refuses "struct s int a ;"
struct_int = refl

two_structs : Refuses "struct s struct t a ;"
two_structs = refl

-- 6.7.1, 6.7.5.3, 6.7.2.1: storage classes
two_storage_classes : Refuses "static extern int a ;"
two_storage_classes = refl

register_parameter : Accepts "void f ( register int a ) ;"
register_parameter = refl

static_parameter : Refuses "void f ( static int a ) ;"
static_parameter = refl

typedef_in_block : Refuses "void f ( void ) { typedef int t ; }"
typedef_in_block = refl

static_member : Refuses "struct s { static int a ; } ;"
static_member = refl
