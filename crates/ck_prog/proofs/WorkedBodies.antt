-- Worked projects on jumps (U19), the kernel's status (U26), constants and initialisers,
-- computed on the definitions.
use Rattle.std.proofs.Common.{refl}
use Rattle.std.specs.Prelude.{[], ◌∷◌}
use Rattle.ck_base.specs.declared.refusals.Unsupported.TheVariants.{U10, U11, U14, U19, U26}
use Rattle.ck_kernel.specs.KernelTable.{kernel_table}
use Rattle.ck_prog.proofs.ProjectTexts.{Accepted, Refused}

-- continue in a switch without a loop
continue_in_switch : Refused U19
    (("int main ( void ) { int n = 0 ; for ( ; n < 2 ; n ++ ) continue ; switch ( n ) {"
    ∷ "case 1 : break ; case 2 : @ continue ; } return n ; }" ∷ []) ∷ [])
continue_in_switch = refl

-- break in an if
break_outside : Refused U19
    (("int main ( void ) { int n = 0 ; while ( n < 3 ) { if ( n ++ ) break ; } if ( n ) { @ break ; }"
    ∷ "return n ; }" ∷ []) ∷ [])
break_outside = refl

-- case behind its switch
case_outside_switch : Refused U19
    (("int main ( void ) { int n = 0 ; switch ( n ) { case 1 : n = 2 ; }"
    ∷ "while ( n ) { @ case 2 : n = 0 ; } return n ; }" ∷ []) ∷ [])
case_outside_switch = refl

-- the label is in another function
goto_without_label : Refused U19
    (("int f ( int n ) { again : if ( n ) goto again ; return n ; } int main ( void ) { int again = 0 ;"
    ∷ "if ( again ) @ goto again ; return again ; }" ∷ []) ∷ [])
goto_without_label = refl

-- case in a loop, continue in a switch, labels behind
jumps_with_targets : Accepted
    (("int f ( int n ) { int k = 0 ; switch ( n ) { int m ; case 1 : for ( ; k < 3 ; k ++ ) { case 2 :"
    ∷ "if ( n == 2 ) break ; switch ( k ) { case 1 : continue ; default : break ; } m = k ; } break ;"
    ∷ "case 3 : case 4 : { default : k = 9 ; } case 'a' ? 5 : 6 : k ++ ; } if ( k == 100 ) goto out ;"
    ∷ "while ( k > 200 ) { out : k ++ ; if ( k ) break ; else goto k ; }"
    ∷ "do { if ( k ) continue ; break ; } while ( 0 ) ; k : return k ; }"
    ∷ "int main ( void ) { return f ( 1 ) - 10 ; }" ∷ []) ∷ [])
jumps_with_targets = refl

-- the status is dropped
status_thrown_away : Refused U26
    (("typedef unsigned int syssts_t ; void chSysInit ( void ) ;"
    ∷ "syssts_t chSysGetStatusAndLockX ( void ) ; void chSysRestoreStatusX ( syssts_t sts ) ;"
    ∷ "int main ( void ) { chSysInit ( ) ; @ chSysGetStatusAndLockX ( ) ; }" ∷ []) ∷ [])
unfolding kernel_table
status_thrown_away = refl

-- declared unsigned int, not syssts_t
status_in_an_unsigned : Refused U26
    (("typedef unsigned int syssts_t ; void chSysInit ( void ) ;"
    ∷ "syssts_t chSysGetStatusAndLockX ( void ) ; void chSysRestoreStatusX ( syssts_t sts ) ;"
    ∷ "int main ( void ) { unsigned int s ; chSysInit ( ) ; s = @ chSysGetStatusAndLockX ( ) ;"
    ∷ "chSysRestoreStatusX ( s ) ; }" ∷ []) ∷ [])
unfolding kernel_table
status_in_an_unsigned = refl

-- a test of the status
status_used_otherwise : Refused U26
    (("typedef unsigned int syssts_t ; void chSysInit ( void ) ;"
    ∷ "syssts_t chSysGetStatusAndLockX ( void ) ; void chSysRestoreStatusX ( syssts_t sts ) ;"
    ∷ "int main ( void ) { chSysInit ( ) ; { syssts_t s = chSysGetStatusAndLockX ( ) ;"
    ∷ "chSysRestoreStatusX ( s ) ; if ( @ s ) return 1 ; } return 0 ; }" ∷ []) ∷ [])
unfolding kernel_table
status_used_otherwise = refl

-- an argument that is no name: at the call
restore_of_a_sum : Refused U26
    (("typedef unsigned int syssts_t ; void chSysInit ( void ) ;"
    ∷ "syssts_t chSysGetStatusAndLockX ( void ) ; void chSysRestoreStatusX ( syssts_t sts ) ;"
    ∷ "int main ( void ) { syssts_t s ; chSysInit ( ) ; s = chSysGetStatusAndLockX ( ) ;"
    ∷ "@ chSysRestoreStatusX ( s + 0 ) ; }" ∷ []) ∷ [])
unfolding kernel_table
restore_of_a_sum = refl

-- a second status variable of a function
two_status_variables : Refused U26
    (("typedef unsigned int syssts_t ; void chSysInit ( void ) ;"
    ∷ "syssts_t chSysGetStatusAndLockX ( void ) ; void chSysRestoreStatusX ( syssts_t sts ) ;"
    ∷ "void f ( int n ) { if ( n ) { const syssts_t s = chSysGetStatusAndLockX ( ) ;"
    ∷ "chSysRestoreStatusX ( s ) ; } else { syssts_t @ s = chSysGetStatusAndLockX ( ) ;"
    ∷ "chSysRestoreStatusX ( s ) ; } } int main ( void ) { chSysInit ( ) ; f ( 0 ) ; return 0 ; }" ∷ []) ∷ [])
unfolding kernel_table
two_status_variables = refl

-- a static variable is no status variable
static_status : Refused U26
    (("typedef unsigned int syssts_t ; void chSysInit ( void ) ;"
    ∷ "syssts_t chSysGetStatusAndLockX ( void ) ; void chSysRestoreStatusX ( syssts_t sts ) ;"
    ∷ "int main ( void ) { static syssts_t s ; chSysInit ( ) ; s = @ chSysGetStatusAndLockX ( ) ;"
    ∷ "chSysRestoreStatusX ( s ) ; }" ∷ []) ∷ [])
unfolding kernel_table
static_status = refl

-- pairs with a status variable each
status_pairs : Accepted
    (("typedef unsigned int syssts_t ; void chSysInit ( void ) ;"
    ∷ "syssts_t chSysGetStatusAndLockX ( void ) ; void chSysRestoreStatusX ( syssts_t sts ) ;"
    ∷ "syssts_t last ; static syssts_t plain ( syssts_t a ) { static syssts_t kept ;"
    ∷ "unsigned int n = a + 1 ; kept = n ; last = kept ; return last ; } void f ( void ) {"
    ∷ "syssts_t volatile s ; s = chSysGetStatusAndLockX ( ) ; chSysRestoreStatusX ( s ) ;"
    ∷ "s = chSysGetStatusAndLockX ( ) ; chSysRestoreStatusX ( s ) ; } void g ( void ) {"
    ∷ "const syssts_t sts = chSysGetStatusAndLockX ( ) ; chSysRestoreStatusX ( sts ) ; }"
    ∷ "int main ( void ) { chSysInit ( ) ; f ( ) ; g ( ) ; return plain ( 1 ) != 2 ; }" ∷ []) ∷ [])
unfolding kernel_table
status_pairs = refl

-- 25 constants, each checked by a second declaration
constants : Accepted
    (("enum { THREE = 3 , FOUR , TEN = FOUR + 6 , LAST } ;"
    ∷ "int a [ ( unsigned char ) 300 ] ; extern int a [ 44 ] ;"
    ∷ "int b [ ( signed char ) 200 + 57 ] ; extern int b [ 1 ] ;"
    ∷ "int c [ ( _Bool ) 2 ] ; extern int c [ 1 ] ;"
    ∷ "int d [ 0x80000000 / 0x40000000 ] ; extern int d [ 2 ] ;"
    ∷ "int e [ 5 + - 7 % 2 ] ; extern int e [ 4 ] ; int f [ - 7 / 2 + 5 ] ; extern int f [ 2 ] ;"
    ∷ "int g [ ( - 1 < 0u ) + 1 ] ; extern int g [ 1 ] ;"
    ∷ "int h [ ~ 0u / 0x55555555u ] ; extern int h [ 3 ] ;"
    ∷ "int i [ 2 + ( - 1 >> 1 ) ] ; extern int i [ 1 ] ;"
    ∷ "int j [ sizeof ( ( char ) 1 + ( char ) 1 ) ] ; extern int j [ 4 ] ;"
    ∷ "int k [ ( ( unsigned short ) 65535 + 1 ) / 65536 ] ; extern int k [ 1 ] ;"
    ∷ "int l [ sizeof 'a' + sizeof \"ab\" \"c\" ] ; extern int l [ 8 ] ;"
    ∷ "int m [ - ( unsigned char ) 1 + 3 ] ; extern int m [ 2 ] ;"
    ∷ "int n [ ! 0 + ! 5 ] ; extern int n [ 1 ] ; int o [ ( 3 & 6 ) | 8 ^ 1 ] ; extern int o [ 11 ] ;"
    ∷ "int p [ 1 << 3 >> 1 ] ; extern int p [ 4 ] ; int q [ 010 + 0xA + '\\n' ] ; extern int q [ 28 ] ;"
    ∷ "int r [ 2147483648 > 0 ? 7 : 3 ] ; extern int r [ 7 ] ;"
    ∷ "int s [ ( unsigned ) - 1 == 4294967295 ] ; extern int s [ 1 ] ;"
    ∷ "int t [ LAST ] ; extern int t [ 11 ] ; int u [ ( - 1LL < 1u ) + 1 ] ; extern int u [ 2 ] ;"
    ∷ "int v [ ( unsigned short ) - 1 > - 1 ? 5 : 6 ] ; extern int v [ 5 ] ;"
    ∷ "int w [ - 1 > 1u ? 8 : 9 ] ; extern int w [ 8 ] ;"
    ∷ "int x [ sizeof ( 1 ? 1u : 1LL ) - 3 ] ; extern int x [ 5 ] ;"
    ∷ "int y [ 0xFFFFFFFFu + 3 ] ; extern int y [ 2 ] ;"
    ∷ "int main ( void ) { return a [ 43 ] + y [ 1 ] + THREE - 3 ; }" ∷ []) ∷ [])
constants = refl

-- -1 < 0u is 0
constant_that_was_another : Refused U10
    (("int a [ - 7 / 2 + 5 ] ; extern int a [ 2 ] ; int b [ ( - 1 < 0u ) + 1 ] ; extern int @ b [ 2 ] ;"
    ∷ "int main ( void ) { return 0 ; }" ∷ []) ∷ [])
constant_that_was_another = refl

-- sizes of long, pointers, structs; char unsigned
thirty_two_bit_long : Accepted
    (("int a [ sizeof ( long ) ] ; extern int a [ 4 ] ;"
    ∷ "int b [ ( - 1L < 0u ) + 1 ] ; extern int b [ 1 ] ; int c [ '\\377' ] ; extern int c [ 255 ] ;"
    ∷ "int d [ sizeof ( int * ) + sizeof ( void ( * ) ( void ) ) ] ; extern int d [ 8 ] ;"
    ∷ "int e [ sizeof 2147483648 + sizeof 0xFFFFFFFF ] ; extern int e [ 12 ] ;"
    ∷ "int f [ sizeof sizeof 1 ] ; extern int f [ 4 ] ;"
    ∷ "int g [ sizeof ( 2147483647L + 1u ) ] ; extern int g [ 4 ] ;"
    ∷ "int h [ ( char ) - 1 > 0 ? 1 : 2 ] ; extern int h [ 1 ] ;"
    ∷ "struct s { char c ; long n ; short h ; char d ; } ;"
    ∷ "int i [ sizeof ( struct s ) ] ; extern int i [ 12 ] ;"
    ∷ "struct t { char c ; long long n ; char d ; } ;"
    ∷ "int j [ sizeof ( struct t ) ] ; extern int j [ 24 ] ; int main ( void ) { return 0 ; }" ∷ []) ∷ [])
thirty_two_bit_long = refl

-- a constant shifted by its width
shift_past_the_width : Refused U11
    (("int a [ 1 << 30 > 0 ] ; extern int a [ 1 ] ; int b [ @ 1 << 32 == 0 ] ;"
    ∷ "int main ( void ) { return 0 ; }" ∷ []) ∷ [])
shift_past_the_width = refl

-- 1 || v is no constant
half_constant_or : Refused U11
    (("int v ; int a [ ( 1 || 0 ) + 1 ] ; extern int a [ 2 ] ; int b [ @ 1 || v ] ;"
    ∷ "int main ( void ) { return 0 ; }" ∷ []) ∷ [])
half_constant_or = refl

-- left-out braces, strings, sizes from initialisers
left_out_braces : Accepted
    (("struct p { int x , y ; } ; struct q { int n [ 2 ] ; char c ; } ;"
    ∷ "int m [ ] [ 2 ] = { 1 , 2 , 3 } ; extern int m [ 2 ] [ 2 ] ;"
    ∷ "char s [ ] = \"abc\" ; extern char s [ 4 ] ; char t [ 3 ] = \"abc\" ;"
    ∷ "char u [ ] = { \"a\" \"b\" } ; extern char u [ 3 ] ;"
    ∷ "char w [ ] [ 4 ] = { \"abc\" , { 'd' } , \"ef\" } ; extern char w [ 3 ] [ 4 ] ;"
    ∷ "struct q v [ ] = { 1 , 2 , 'a' , { { 3 } , 'b' } , 4 } ; extern struct q v [ 3 ] ;"
    ∷ "const char * names [ ] = { \"a\" , \"b\" , } ; extern const char * names [ 2 ] ; int one = { 3 , } ;"
    ∷ "struct q2 { struct q q ; const char * text ; } z [ ] = { 1 , 2 , 'c' , \"x\" , { { { 3 } } , \"y\" }"
    ∷ ", } ; extern struct q2 z [ 2 ] ; int main ( void ) { struct p b = { 1 , 2 } ;"
    ∷ "struct { struct p p ; int n ; } d [ ] = { b , 4 , { b } , 5 , 6 } ;"
    ∷ "int size [ sizeof d / sizeof d [ 0 ] == 3 ? 1 : - 1 ] = { 0 } ;"
    ∷ "int k [ 2 ] = { b . x , d [ 2 ] . p . x } ; return size [ 0 ] + k [ 0 ] - 1 ; }" ∷ []) ∷ [])
left_out_braces = refl

-- a string for a char member, by position
left_out_braces_wrong_member : Refused U14
    (("struct q { int n [ 2 ] ; char c ; } ;"
    ∷ "struct q v [ ] = { 1 , 2 , 'a' , { { 3 } , 'b' } , 4 , 5 , @ \"x\" } ;"
    ∷ "int main ( void ) { return 0 ; }" ∷ []) ∷ [])
left_out_braces_wrong_member = refl

-- designators, and the sizes that they give
designators : Accepted
    (("enum { LOW , HIGH } ; struct p { int x , y ; } ;"
    ∷ "int a [ ] = { [ 4 ] = 1 , 2 } ; extern int a [ 6 ] ;"
    ∷ "struct p v [ ] = { 1 , 2 , 3 , 4 , [ 5 ] . y = 6 , 7 } ; extern struct p v [ 7 ] ;"
    ∷ "struct { int a [ 3 ] , b ; } w [ ] = { [ 0 ] . a = { 1 } , [ 1 ] . a [ 0 ] = 2 } ;"
    ∷ "int x [ sizeof w / sizeof w [ 0 ] ] ; extern int x [ 2 ] ;"
    ∷ "const char * nm [ ] = { [ HIGH ] = \"high\" , [ LOW ] = \"low\" } ; extern const char * nm [ 2 ] ;"
    ∷ "int b [ 8 ] = { 1 , 3 , [ 8 - 3 ] = 8 , 6 , 4 } ;"
    ∷ "int c [ ] [ 2 ] = { [ 1 ] = { 5 } , 6 , [ 0 ] [ 1 ] = 7 } ; extern int c [ 3 ] [ 2 ] ;"
    ∷ "int d [ ] = { [ 2 ] = 1 , [ 0 ] = 2 , 3 } ; extern int d [ 3 ] ;"
    ∷ "struct n { struct p in [ 2 ] ; char * s ; } e = { . in [ 1 ] . y = 3 , \"x\" , . in = { [ 1 ] = {"
    ∷ ". y = 1 } , } } ; int main ( void ) { struct p l = { . y = 1 , . x = 2 } ;"
    ∷ "return l . x - 2 + e . in [ 1 ] . y - 1 ; }" ∷ []) ∷ [])
designators = refl

-- a designator of a member that isn't there
designator_of_absent_member : Refused U14
    (("struct p { int x , y ; } v = { . x = 1 , @ . z = 2 } ; int main ( void ) { return v . x ; }" ∷ []) ∷ [])
designator_of_absent_member = refl

-- more initialisers than elements
one_initialiser_too_many : Refused U14
    (("int a [ 2 ] = { 1 , 2 , @ 3 } ; int main ( void ) { return a [ 0 ] ; }" ∷ []) ∷ [])
one_initialiser_too_many = refl

-- a designator past the last element
designator_past_the_end : Refused U11
    (("int a [ 3 ] = { [ 2 ] = 1 , [ @ 3 ] = 1 } ; int main ( void ) { return a [ 2 ] ; }" ∷ []) ∷ [])
designator_past_the_end = refl

-- calls through members of structs
function_pointers_in_structs : Accepted
    (("struct ops { int ( * get ) ( void ) ; void ( * set ) ( int ) ; const struct ops * next ; } ;"
    ∷ "static int value ; static int get ( void ) { return value ; }"
    ∷ "static void set ( int n ) { value = n ; }"
    ∷ "const struct ops ops = { get , set , 0 } , more = { . set = set , . next = & ops } ;"
    ∷ "int run ( const struct ops * o ) { void ( * s ) ( int ) = o -> set ;"
    ∷ "if ( o -> set && o -> set == set ) o -> set ( 1 ) ; ( * o -> set ) ( 2 ) ; s ( 3 ) ;"
    ∷ "( * * s ) ( 4 ) ; o -> next -> set ( 5 ) ; return o -> get ? o -> get ( ) : ( & get ) ( ) ; }"
    ∷ "struct ops copy ( struct ops o ) { o . get = & get ; return o ; } int main ( void ) {"
    ∷ "struct ops local = more , * p = & local ; p -> get = 0 ;"
    ∷ "return run ( p ) + copy ( more ) . get ( ) + copy ( * p ) . next -> get ( ) ; }" ∷ []) ∷ [])
function_pointers_in_structs = refl

-- a call of an int member
call_through_wrong_member : Refused U14
    (("struct ops { int ( * get ) ( int ) ; int n ; } ; int one ( int a ) { return a ; }"
    ∷ "struct ops o = { one , 1 } ; int main ( void ) { return o . get ( 1 ) + @ o . n ( 1 ) ; }" ∷ []) ∷ [])
call_through_wrong_member = refl
