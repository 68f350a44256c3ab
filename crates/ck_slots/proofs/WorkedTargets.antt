-- What reaches what in projects as firmware has them, computed on the definitions.
use Rattle.std.proofs.Common.{refl}
use Rattle.std.specs.Prelude.{[], ◌∷◌}
use Rattle.ck_kernel.specs.KernelTable.{kernel_table}
use Rattle.ck_slots.proofs.ReachTexts.{Reach}

-- a table of commands, a callback in a struct, a timer function that sets itself, two threads
realistic : Reach
    (("typedef unsigned uint32_t ; typedef void ( * tfunc_t ) ( void * ) ; typedef void ( * vtfunc_t ) ( void * ) ;"
    ∷ "typedef struct ch_semaphore { uint32_t o [ 8 ] ; } semaphore_t ;"
    ∷ "typedef struct ch_virtual_timer { uint32_t o [ 8 ] ; } virtual_timer_t ;"
    ∷ "typedef struct ch_thread { uint32_t o [ 16 ] ; } thread_t ;"
    ∷ "void chSysInit ( void ) ; void chSysLockFromISR ( void ) ; void chSysUnlockFromISR ( void ) ;"
    ∷ "void chSemSignalI ( semaphore_t * s ) ; int chSemWait ( semaphore_t * s ) ; void chThdSleep ( uint32_t t ) ;"
    ∷ "void chSemObjectInit ( semaphore_t * s , int n ) ; void chVTObjectInit ( virtual_timer_t * v ) ;"
    ∷ "void chVTSetI ( virtual_timer_t * v , uint32_t t , vtfunc_t f , void * p ) ;"
    ∷ "void chVTSet ( virtual_timer_t * v , uint32_t t , vtfunc_t f , void * p ) ;"
    ∷ "void chRegSetThreadName ( const char * name ) ;"
    ∷ "thread_t * chThdCreateStatic ( void * w , uint32_t n , uint32_t prio , tfunc_t f , void * p ) ;"
    ∷ "typedef struct { uint32_t frequency ; void ( * callback ) ( void * ) ; } GPTConfig ;"
    ∷ "typedef struct { const char * name ; void ( * run ) ( int argc ) ; } ShellCommand ;"
    ∷ "void gptStart ( void * drv , const GPTConfig * cfg ) ; void palToggleLine ( uint32_t line ) ;"
    ∷ "semaphore_t wake ; virtual_timer_t vt ; uint32_t wa1 [ 128 ] ; uint32_t wa2 [ 128 ] ; int driver ;"
    ∷ "void gpt_cb ( void * drv ) { chSysLockFromISR ( ) ; chSemSignalI ( & wake ) ; chSysUnlockFromISR ( ) ; }"
    ∷ "const GPTConfig cfg = { 1000 , gpt_cb } ;"
    ∷ "void tick ( void * p ) { palToggleLine ( 2 ) ; chSysLockFromISR ( ) ; chVTSetI ( & vt , 500 , tick , p ) ;"
    ∷ "chSysUnlockFromISR ( ) ; } void cmd_led ( int argc ) { palToggleLine ( argc ) ; }"
    ∷ "const ShellCommand commands [ ] = { { \"led\" , cmd_led } , { 0 , 0 } } ;"
    ∷ "void blinker ( void * arg ) { chRegSetThreadName ( \"blinker\" ) ;"
    ∷ "while ( 1 ) { chSemWait ( & wake ) ; palToggleLine ( 1 ) ; } }"
    ∷ "void shell ( void * arg ) { int i ; while ( 1 ) { for ( i = 0 ; commands [ i ] . name ; i ++ )"
    ∷ "commands [ i ] . run ( i ) ; chThdSleep ( 50 ) ; } }"
    ∷ "int main ( void ) { chSysInit ( ) ; chSemObjectInit ( & wake , 0 ) ; chVTObjectInit ( & vt ) ;"
    ∷ "chThdCreateStatic ( wa1 , sizeof wa1 , 129 , blinker , 0 ) ;"
    ∷ "chThdCreateStatic ( wa2 , sizeof wa2 , 128 , shell , 0 ) ;"
    ∷ "gptStart ( & driver , & cfg ) ; chVTSet ( & vt , 500 , tick , 0 ) ; while ( 1 ) chThdSleep ( 1000 ) ; }"
    ∷ []) ∷ [])
    ("gpt_cb callback" ∷ "cmd_led run" ∷ "blinker [thread]" ∷ "shell [thread]" ∷ "tick [timer]" ∷ [])
    ("cmd_led" ∷ [])
unfolding kernel_table
realistic = refl

-- a function pointer through an integer that is cast to a pointer to a struct
job : Reach
    (("struct job { void ( * fn ) ( void ) ; } ; typedef int msg_t ; typedef unsigned uint32_t ;"
    ∷ "typedef struct ch_mailbox { uint32_t o [ 8 ] ; } mailbox_t ; mailbox_t mb ;"
    ∷ "msg_t chMBFetchTimeout ( mailbox_t * b , msg_t * m , uint32_t t ) ;"
    ∷ "void bad ( void ) { } struct job j = { bad } ;"
    ∷ "void worker ( void * p ) { msg_t m ; chMBFetchTimeout ( & mb , & m , 4294967295U ) ;"
    ∷ "( ( struct job * ) m ) -> fn ( ) ; } int main ( void ) { while ( 1 ) { } }" ∷ []) ∷ [])
    ("bad fn" ∷ [])
    ("bad" ∷ [])
unfolding kernel_table
job = refl

-- two members of one type are two slots
two_members : Reach
    (("struct ops { void ( * a ) ( void ) ; void ( * b ) ( void ) ; } ; void good ( void ) { }"
    ∷ "void bad ( void ) { } struct ops o = { . a = good , . b = bad } ;"
    ∷ "int main ( void ) { o . a ( ) ; return 0 ; }" ∷ []) ∷ [])
    ("good a" ∷ "bad b" ∷ [])
    ("good" ∷ [])
unfolding kernel_table
two_members = refl
