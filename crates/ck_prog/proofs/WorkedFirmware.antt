-- Worked projects as firmware has them, computed on the definitions.
use Rattle.std.proofs.Common.{refl}
use Rattle.std.specs.Prelude.{[], ◌∷◌, codes}
use Rattle.ck_base.specs.declared.refusals.Unsupported.TheVariants.{U9, U10, U11, U12, U13, U17, U18, U26}
use Rattle.ck_kernel.specs.KernelTable.{kernel_table}
use Rattle.ck_prog.proofs.ProjectTexts.{Accepted, AcceptedWith, Refused, OutsideGrammar}

-- 6.5.16: a cast is no left side
assignment_to_cast : OutsideGrammar (("int main ( void ) { char c = 0 ; ( int ) c = 2 ; return c ; }" ∷ []) ∷ [])
assignment_to_cast = refl

-- 6.9: one variable in two files
two_files : Refused U9 (("int x ;" ∷ []) ∷ ("int @ x ; int main ( void ) { return 0 ; }" ∷ []) ∷ [])
two_files = refl

declared_in_one : Accepted (("extern int x ;" ∷ []) ∷ ("int x ; int main ( void ) { return 0 ; }" ∷ []) ∷ [])
declared_in_one = refl

no_constant : Refused U11 (("int a [ @ 1 / 0 ] ;" ∷ []) ∷ [])
no_constant = refl

kernel_call_defined : Refused U12 (("void @ chSysLock ( void ) { }" ∷ []) ∷ [])
unfolding kernel_table
kernel_call_defined = refl

kernel_call_of_two : Refused U10 (("void @ chThdSleep ( unsigned a , unsigned b ) ;" ∷ []) ∷ [])
unfolding kernel_table
kernel_call_of_two = refl

unknown_kernel_call : Refused U13 (("int main ( void ) { @ chPoolFree ( 0 , 0 ) ; }" ∷ []) ∷ [])
unfolding kernel_table
unknown_kernel_call = refl

unnamed_call : Refused U18 (("void foo ( void ) ; int main ( void ) { @ foo ( ) ; }" ∷ []) ∷ [])
unfolding kernel_table
unnamed_call = refl

four_calls : Refused U17 (("int a ( void ) { return 1 ; }"
    ∷ "int h ( int p , int q , int r , int s ) { return p ; }"
    ∷ "int main ( void ) { return @ h ( a ( ) , a ( ) , a ( ) , a ( ) ) ; }" ∷ []) ∷ [])
four_calls = refl

-- the status pair
status_dropped : Refused U26 (("typedef unsigned syssts_t ; syssts_t chSysGetStatusAndLockX ( void ) ;"
    ∷ "int main ( void ) { @ chSysGetStatusAndLockX ( ) ; }" ∷ []) ∷ [])
unfolding kernel_table
status_dropped = refl

status_pair : Accepted (("typedef unsigned syssts_t ; typedef struct ch_semaphore { unsigned o [ 8 ] ; } semaphore_t ;"
    ∷ "syssts_t chSysGetStatusAndLockX ( void ) ; void chSysRestoreStatusX ( syssts_t s ) ;"
    ∷ "void chSysInit ( void ) ; void chSemSignalI ( semaphore_t * s ) ; semaphore_t q ;"
    ∷ "void give ( void ) { syssts_t s ; s = chSysGetStatusAndLockX ( ) ; chSemSignalI ( & q ) ;"
    ∷ "chSysRestoreStatusX ( s ) ; }"
    ∷ "int main ( void ) { chSysInit ( ) ; give ( ) ; while ( 1 ) { } }" ∷ []) ∷ [])
unfolding kernel_table
status_pair = refl

-- a table of commands, a callback in a struct, a timer function that sets itself, threads
realistic : AcceptedWith (record {
  vectors = [];
  callbacks = (codes "GPTConfig", codes "callback") ∷ [];
  functions = codes "gptStart" ∷ codes "palToggleLine" ∷ [];
})
    (("typedef unsigned uint32_t ; typedef void ( * tfunc_t ) ( void * ) ; typedef void ( * vtfunc_t ) ( void * ) ;"
    ∷ "typedef struct ch_semaphore { uint32_t o [ 8 ] ; } semaphore_t ;"
    ∷ "typedef struct ch_virtual_timer { uint32_t o [ 8 ] ; } virtual_timer_t ;"
    ∷ "typedef struct ch_thread { uint32_t o [ 16 ] ; } thread_t ;"
    ∷ "void chSysInit ( void ) ; void chSysLockFromISR ( void ) ; void chSysUnlockFromISR ( void ) ;"
    ∷ "void chSemSignalI ( semaphore_t * s ) ; int chSemWait ( semaphore_t * s ) ; void chThdSleep ( uint32_t t ) ;"
    ∷ "void chSemObjectInit ( semaphore_t * s , int n ) ; void chVTObjectInit ( virtual_timer_t * v ) ;"
    ∷ "void chVTSetI ( virtual_timer_t * v , uint32_t t , vtfunc_t f , void * p ) ;"
    ∷ "void chVTSet ( virtual_timer_t * v , uint32_t t , vtfunc_t f , void * p ) ;"
    ∷ "void chRegSetThreadName ( const char * name ) ;"
    ∷ "thread_t * chThdCreateStatic ( void * w , uint32_t n , uint32_t prio , tfunc_t f , void * p ) ;"
    ∷ "typedef struct { uint32_t frequency ; void ( * callback ) ( void * ) ; } GPTConfig ;"
    ∷ "typedef struct { const char * name ; void ( * run ) ( int argc ) ; } ShellCommand ;"
    ∷ "void gptStart ( void * drv , const GPTConfig * cfg ) ; void palToggleLine ( uint32_t line ) ;"
    ∷ "semaphore_t wake ; virtual_timer_t vt ; uint32_t wa1 [ 128 ] ; uint32_t wa2 [ 128 ] ; int driver ;"
    ∷ "void gpt_cb ( void * drv ) { chSysLockFromISR ( ) ; chSemSignalI ( & wake ) ; chSysUnlockFromISR ( ) ; }"
    ∷ "const GPTConfig cfg = { 1000 , gpt_cb } ;"
    ∷ "void tick ( void * p ) { palToggleLine ( 2 ) ; chSysLockFromISR ( ) ; chVTSetI ( & vt , 500 , tick , p ) ;"
    ∷ "chSysUnlockFromISR ( ) ; } void cmd_led ( int argc ) { palToggleLine ( argc ) ; }"
    ∷ "const ShellCommand commands [ ] = { { \"led\" , cmd_led } , { 0 , 0 } } ;"
    ∷ "void blinker ( void * arg ) { chRegSetThreadName ( \"blinker\" ) ;"
    ∷ "while ( 1 ) { chSemWait ( & wake ) ; palToggleLine ( 1 ) ; } }"
    ∷ "void shell ( void * arg ) { int i ; while ( 1 ) { for ( i = 0 ; commands [ i ] . name ; i ++ )"
    ∷ "commands [ i ] . run ( i ) ; chThdSleep ( 50 ) ; } }"
    ∷ "int main ( void ) { chSysInit ( ) ; chSemObjectInit ( & wake , 0 ) ; chVTObjectInit ( & vt ) ;"
    ∷ "chThdCreateStatic ( wa1 , sizeof wa1 , 129 , blinker , 0 ) ;"
    ∷ "chThdCreateStatic ( wa2 , sizeof wa2 , 128 , shell , 0 ) ;"
    ∷ "gptStart ( & driver , & cfg ) ; chVTSet ( & vt , 500 , tick , 0 ) ; while ( 1 ) chThdSleep ( 1000 ) ; }"
    ∷ []) ∷ [])
unfolding kernel_table
realistic = refl

-- a function pointer through an integer that is cast to a pointer to a struct
job : Accepted (("struct job { void ( * fn ) ( void ) ; } ; typedef int msg_t ; typedef unsigned uint32_t ;"
    ∷ "typedef struct ch_mailbox { uint32_t o [ 8 ] ; } mailbox_t ; mailbox_t mb ;"
    ∷ "msg_t chMBFetchTimeout ( mailbox_t * b , msg_t * m , uint32_t t ) ;"
    ∷ "void bad ( void ) { } struct job j = { bad } ;"
    ∷ "void worker ( void * p ) { msg_t m ; chMBFetchTimeout ( & mb , & m , 4294967295U ) ;"
    ∷ "( ( struct job * ) m ) -> fn ( ) ; } int main ( void ) { while ( 1 ) { } }" ∷ []) ∷ [])
unfolding kernel_table
job = refl

-- designators name members of one type
two_members : Accepted (("struct ops { void ( * a ) ( void ) ; void ( * b ) ( void ) ; } ; void good ( void ) { }"
    ∷ "void bad ( void ) { } struct ops o = { . a = good , . b = bad } ;"
    ∷ "int main ( void ) { o . a ( ) ; return 0 ; }" ∷ []) ∷ [])
two_members = refl

-- a struct that a header declares and this file doesn't complete, in declarations that need no value of it
header : Accepted (("struct s ; extern struct s x ; struct s f ( struct s a ) ; extern struct s * p ;"
    ∷ "struct s * q = & x ; struct t y ; struct t { int a ; } ; int main ( void ) { return q == p ; }" ∷ []) ∷ [])
header = refl
