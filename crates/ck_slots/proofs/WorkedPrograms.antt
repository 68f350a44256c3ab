-- What reaches what in small programs with function pointers as firmware has them, computed on the definitions.
use Rattle.std.proofs.Common.{refl}
use Rattle.std.specs.Prelude.{[], ◌∷◌}
use Rattle.ck_kernel.specs.KernelTable.{kernel_table}
use Rattle.ck_slots.proofs.ReachTexts.{Work}

-- a table of drivers: each member has the functions of all rows, and no other
drivers : Work
    (("struct driver { int ( * open ) ( int ) ; int ( * close ) ( int ) ; } ;"
    ∷ "int uart_open ( int n ) { return n ; } int uart_close ( int n ) { return 0 ; }"
    ∷ "int spi_open ( int n ) { return 1 ; } int spi_close ( int n ) { return n ; }"
    ∷ "const struct driver drivers [ ] = { { uart_open , uart_close } , { . close = spi_close , . open = spi_open } } ;"
    ∷ "void use ( int i ) { if ( drivers [ i ] . open ( 3 ) ) drivers [ i ] . close ( 3 ) ; }" ∷ []) ∷ [])
    ("uart_open open" ∷ "uart_close close" ∷ "spi_open open" ∷ "spi_close close" ∷ [])
    ("uart_open spi_open" ∷ "uart_close spi_close" ∷ [])
unfolding kernel_table
drivers = (refl, refl)

-- a state machine with a function for each state; `broken` is the state of none
states : Work
    (("typedef void state_t ( void ) ; state_t idle , moving , done , broken ; state_t * state = idle ;"
    ∷ "void idle ( void ) { state = moving ; } void moving ( void ) { state = done ; } void done ( void ) { }"
    ∷ "void broken ( void ) { state = 0 ; } void step ( void ) { while ( state ) state ( ) ; }" ∷ []) ∷ [])
    ("idle state" ∷ "moving state" ∷ "done state" ∷ [])
    ("idle moving done" ∷ [])
unfolding kernel_table
states = (refl, refl)

-- a callback that is handed on through two structs
two_structs : Work
    (("struct request { void ( * done ) ( int ) ; } ; struct queue { struct { void ( * call ) ( int ) ; } slot ; } ;"
    ∷ "void ask ( struct request * r , void ( * f ) ( int ) ) { r -> done = f ; }"
    ∷ "void enqueue ( struct queue * q , struct request * r ) { q -> slot . call = r -> done ; }"
    ∷ "void finish ( struct queue * q ) { q -> slot . call ( 7 ) ; }"
    ∷ "void on_done ( int n ) { } void other ( int n ) { } struct request r ; struct queue q ;"
    ∷ "void start ( void ) { ask ( & r , on_done ) ; enqueue ( & q , & r ) ; finish ( & q ) ; other ( 1 ) ; }" ∷ [])
    ∷ [])
    ("on_done f" ∷ "on_done done" ∷ "on_done call" ∷ [])
    ("on_done" ∷ [])
unfolding kernel_table
two_structs = (refl, refl)

-- a function that returns a function, called by its name and through a pointer
returned : Work
    (("typedef void fn ( void ) ; void a ( void ) { } void b ( void ) { } void c ( void ) { }"
    ∷ "fn * pick ( int n ) { if ( n ) return a ; return b ; } fn * other ( int n ) { return c ; }"
    ∷ "fn * ( * chooser ) ( int ) = pick ; void use ( void ) { pick ( 1 ) ( ) ; chooser ( 2 ) ( ) ; other ( 3 ) ( ) ; }"
    ∷ []) ∷ [])
    ("a pick" ∷ "b pick" ∷ "c other" ∷ "pick chooser" ∷ [])
    ("a b" ∷ "pick" ∷ "a b" ∷ "c" ∷ [])
unfolding kernel_table
returned = (refl, refl)

-- an array of handlers has one slot, whichever element is written and read
handlers : Work
    (("void ( * table [ 4 ] ) ( void ) ; void on_a ( void ) { } void on_b ( void ) { } void on_c ( void ) { }"
    ∷ "void set ( int n , void ( * f ) ( void ) ) { table [ n ] = f ; }"
    ∷ "void use ( void ) { set ( 0 , on_a ) ; table [ 1 ] = on_b ; table [ 2 ] ( ) ; }" ∷ []) ∷ [])
    ("on_a f" ∷ "on_b table" ∷ "on_a table" ∷ [])
    ("on_a on_b" ∷ [])
unfolding kernel_table
handlers = (refl, refl)

-- 6.7.8: an array in its initialiser, also with designators and as an array of arrays
initialised : Work
    (("void a ( void ) { } void b ( void ) { } void c ( void ) { } void d ( void ) { }"
    ∷ "void ( * const row [ 4 ] ) ( void ) = { a , [ 3 ] = b } ; void ( * grid [ 2 ] [ 2 ] ) ( void ) = { { c } , d } ;"
    ∷ "void use ( int i ) { row [ i ] ( ) ; grid [ i ] [ 1 ] ( ) ; }" ∷ []) ∷ [])
    ("a row" ∷ "b row" ∷ "c grid" ∷ "d grid" ∷ [])
    ("a b" ∷ "c d" ∷ [])
unfolding kernel_table
initialised = (refl, refl)

-- 6.5.15: `? :`, as a value and as what is called
conditional : Work
    (("void a ( void ) { } void b ( void ) { } void c ( void ) { } void ( * p ) ( void ) ;"
    ∷ "void use ( int n ) { p = n ? a : b ; ( n ? p : c ) ( ) ; }" ∷ []) ∷ [])
    ("a p" ∷ "b p" ∷ [])
    ("a b c" ∷ [])
unfolding kernel_table
conditional = (refl, refl)

-- a timer function that only itself sets: functions count that nobody calls
timer : Work
    (("typedef unsigned uint32_t ; typedef struct ch_virtual_timer { uint32_t o [ 8 ] ; } virtual_timer_t ;"
    ∷ "void chVTSetI ( virtual_timer_t * v , uint32_t t , void ( * f ) ( void * ) , void * p ) ; virtual_timer_t vt ;"
    ∷ "void tick ( void * p ) { chVTSetI ( & vt , 5 , tick , p ) ; } void tock ( void * p ) { }" ∷ []) ∷ [])
    ("tick [timer]" ∷ [])
    []
unfolding kernel_table
timer = (refl, refl)

-- a function for the timer that comes as an argument
timer_argument : Work
    (("typedef unsigned uint32_t ; typedef struct ch_virtual_timer { uint32_t o [ 8 ] ; } virtual_timer_t ;"
    ∷ "void chVTSet ( virtual_timer_t * v , uint32_t t , void ( * f ) ( void * ) , void * p ) ; virtual_timer_t vt ;"
    ∷ "void later ( void ( * g ) ( void * ) ) { chVTSet ( & vt , 5 , g , 0 ) ; }"
    ∷ "void blink ( void * p ) { } void use ( void ) { later ( blink ) ; }" ∷ []) ∷ [])
    ("blink g" ∷ "blink [timer]" ∷ [])
    []
unfolding kernel_table
timer_argument = (refl, refl)

-- a thread's descriptor, in its initialiser and by an assignment
descriptor : Work
    (("typedef unsigned uint32_t ; typedef void ( * tfunc_t ) ( void * ) ;"
    ∷ "typedef struct ch_thread_descriptor { const char * name ; uint32_t * wbase ; uint32_t * wend ; uint32_t prio ;"
    ∷ "tfunc_t funcp ; void * arg ; } thread_descriptor_t ; struct ch_thread { uint32_t o [ 16 ] ; } ;"
    ∷ "struct ch_thread * chThdCreate ( const thread_descriptor_t * d ) ; uint32_t wa [ 128 ] ;"
    ∷ "void worker ( void * p ) { } void helper ( void * p ) { } void unused ( void * p ) { }"
    ∷ "thread_descriptor_t d = { \"worker\" , wa , wa + 128 , 128 , worker , 0 } ;"
    ∷ "void start ( void ) { chThdCreate ( & d ) ; d . funcp = helper ; chThdCreate ( & d ) ; }" ∷ []) ∷ [])
    ("worker funcp" ∷ "helper funcp" ∷ "worker [thread]" ∷ "helper [thread]" ∷ [])
    []
unfolding kernel_table
descriptor = (refl, refl)

-- a callback that is registered under a condition
registered : Work
    (("void ( * saved ) ( int ) ; void on_event ( int n ) { } void ( * const none ) ( int ) = 0 ;"
    ∷ "void subscribe ( void ( * f ) ( int ) ) { if ( f ) saved = f ; }"
    ∷ "void use ( int n ) { if ( n > 3 ) subscribe ( on_event ) ; if ( saved ) saved ( n ) ; none ( n ) ; }" ∷ [])
    ∷ [])
    ("on_event f" ∷ "on_event saved" ∷ [])
    ("on_event" ∷ "" ∷ [])
unfolding kernel_table
registered = (refl, refl)

-- 6.5.2.2: an argument of a call through an expression goes to its targets alone
argument : Work
    (("typedef void fn ( void ) ; fn * saved ; void keep ( fn * f ) { saved = f ; } void drop ( fn * g ) { g ( ) ; }"
    ∷ "void h ( void ) { } void ( * install ) ( fn * x ) = keep ;"
    ∷ "void use ( void ) { install ( h ) ; saved ( ) ; }" ∷ []) ∷ [])
    ("keep install" ∷ "h f" ∷ "h saved" ∷ [])
    ("" ∷ "keep" ∷ "h" ∷ [])
unfolding kernel_table
argument = (refl, refl)

-- 6.5.16, 6.5.17: an assignment has the value of its right side, a comma that of its last operand
values : Work
    (("typedef void fn ( void ) ; void a ( void ) { } void b ( void ) { } void c ( void ) { } fn * p ; fn * q ;"
    ∷ "void use ( int n ) { q = ( n ++ , a ) ; p = q = b ; ( p = c ) ( ) ; ( a , q ) ( ) ; }" ∷ []) ∷ [])
    ("a q" ∷ "b q" ∷ "b p" ∷ "c p" ∷ [])
    ("c" ∷ "a b" ∷ [])
unfolding kernel_table
values = (refl, refl)

-- 6.5.3.2, 6.5.4, 6.5.1: `&`, `*`, casts and parentheses change nothing; nothing under `sizeof` is evaluated
transparent : Work
    (("typedef void fn ( void ) ; void a ( void ) { } void b ( void ) { } void c ( void ) { } void d ( void ) { }"
    ∷ "fn * p ; void use ( int n ) { p = & a ; p = ( * b ) ; p = ( fn * ) c ; n = sizeof ( p = d ) ;"
    ∷ "( * * p ) ( ) ; ( * a ) ( ) ; }" ∷ []) ∷ [])
    ("a p" ∷ "b p" ∷ "c p" ∷ [])
    ("a b c" ∷ "a" ∷ [])
unfolding kernel_table
transparent = (refl, refl)

-- a struct that is copied takes its functions along: its members are those of all structs of the type
copied : Work
    (("struct ops { void ( * run ) ( void ) ; } ; void a ( void ) { } struct ops x = { a } ; struct ops y ;"
    ∷ "struct ops get ( void ) { return x ; }"
    ∷ "void use ( void ) { struct ops z = x ; y = get ( ) ; y . run ( ) ; z . run ( ) ; get ( ) . run ( ) ; }" ∷ [])
    ∷ [])
    ("a run" ∷ [])
    ("a" ∷ "a" ∷ "a" ∷ [])
unfolding kernel_table
copied = (refl, refl)

-- a function hands its parameter on to itself
recursion : Work
    (("typedef void fn ( int n ) ; void a ( int n ) { } void b ( int n ) { }"
    ∷ "void walk ( fn * f , int n ) { if ( n ) walk ( f , n - 1 ) ; f ( n ) ; }"
    ∷ "void use ( void ) { walk ( a , 3 ) ; walk ( b , 1 ) ; }" ∷ []) ∷ [])
    ("a f" ∷ "b f" ∷ [])
    ("a b" ∷ [])
unfolding kernel_table
recursion = (refl, refl)

-- locals: a static one, those with initialisers, also in `for`, and in an inner block
locals : Work
    (("typedef void fn ( void ) ; void a ( void ) { } void b ( void ) { } void c ( void ) { } fn * outer = a ;"
    ∷ "void use ( int n ) { static fn * last ; fn * next = b ; if ( last ) last ( ) ; last = next ;"
    ∷ "for ( fn * each = c ; n ; each = outer ) { fn * inner = next ; inner ( ) ; each ( ) ; } outer ( ) ; }" ∷ [])
    ∷ [])
    ("a outer" ∷ "b next" ∷ "b last" ∷ "c each" ∷ "a each" ∷ "b inner" ∷ [])
    ("b" ∷ "b" ∷ "a c" ∷ "a" ∷ [])
unfolding kernel_table
locals = (refl, refl)

-- two files: the variable is one, the static functions of one name are two
two_files : Work
    (("typedef void fn ( void ) ; static void local ( void ) { } fn * shared = local ; void give ( fn * f ) ;"
    ∷ "void first ( void ) { give ( local ) ; }" ∷ [])
    ∷ ("typedef void fn ( void ) ; extern fn * shared ; static void local ( void ) { } void give ( fn * f ) { f ( ) ; }"
    ∷ "void second ( void ) { local ( ) ; shared ( ) ; }" ∷ []) ∷ [])
    ("local shared" ∷ "local f" ∷ [])
    ("local" ∷ "local" ∷ [])
unfolding kernel_table
two_files = (refl, refl)

-- two files with one header: the member is one
header : Work
    (("struct ops { void ( * run ) ( int ) ; } ; void act ( int n ) { } struct ops shared = { act } ;" ∷ [])
    ∷ ("struct ops { void ( * run ) ( int ) ; } ; extern struct ops shared ; void other ( int n ) { }"
    ∷ "void use ( void ) { shared . run ( 1 ) ; other ( 2 ) ; }" ∷ []) ∷ [])
    ("act run" ∷ [])
    ("act" ∷ [])
unfolding kernel_table
header = (refl, refl)

-- what nobody reaches has no target, also where functions have its type
unreached : Work
    (("void a ( void ) { } void b ( void ) { a ( ) ; } void ( * p ) ( void ) = 0 ; void ( * t [ 2 ] ) ( void ) ;"
    ∷ "void use ( void ) { p ( ) ; t [ 1 ] ( ) ; b ( ) ; }" ∷ []) ∷ [])
    []
    ("" ∷ "" ∷ [])
unfolding kernel_table
unreached = (refl, refl)
