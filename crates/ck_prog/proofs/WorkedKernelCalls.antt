-- Worked projects: calls of the kernel are typed by the file's own prototype (6.5.2.2), and the table asks of the
-- prototype how many parameters there are and what becomes a thread or timer function.
use Rattle.std.proofs.Common.{refl}
use Rattle.std.specs.Prelude.{[], ◌∷◌}
use Rattle.ck_base.specs.declared.refusals.Unsupported.TheVariants.{U10, U14}
use Rattle.ck_kernel.specs.KernelTable.{kernel_table}
use Rattle.ck_prog.proofs.ProjectTexts.{Accepted, Refused}

-- a struct for an integer
argument_of_another_type : Refused U14
    (("struct s { int a ; } ; void chThdSleep ( unsigned t ) ; int main ( void ) { struct s x = { 0 } ;"
    ∷ "@ chThdSleep ( x ) ; return 0 ; }" ∷ []) ∷ [])
unfolding kernel_table
argument_of_another_type = refl

-- the prototype's own type, whatever the manual has
argument_of_its_type : Accepted
    (("struct s { int a ; } ; void chThdSleep ( struct s t ) ; int main ( void ) { struct s x = { 0 } ;"
    ∷ "chThdSleep ( x ) ; return 0 ; }" ∷ []) ∷ [])
unfolding kernel_table
argument_of_its_type = refl

too_many_arguments : Refused U14
    (("void chThdSleep ( unsigned t ) ; int main ( void ) { @ chThdSleep ( 5 , 6 ) ; return 0 ; }" ∷ []) ∷ [])
unfolding kernel_table
too_many_arguments = refl

-- a function of another type as the timer's
entry_of_another_type : Refused U14
    (("void chVTSet ( int * v , int t , void ( * f ) ( void * ) , void * p ) ; void g ( int n ) { } int"
    ∷ "main ( void ) { int v ; @ chVTSet ( & v , 5 , g , 0 ) ; return 0 ; }" ∷ []) ∷ [])
unfolding kernel_table
entry_of_another_type = refl

entry_of_its_type : Accepted
    (("void chVTSet ( int * v , int t , void ( * f ) ( void * ) , void * p ) ; void g ( void * p ) { }"
    ∷ "int main ( void ) { int v ; chVTSet ( & v , 5 , g , 0 ) ; return 0 ; }" ∷ []) ∷ [])
unfolding kernel_table
entry_of_its_type = refl

-- the table asks this of the prototype
entry_parameter_of_another_type : Refused U10
    (("void @ chVTSet ( int * v , int t , void ( * f ) ( int ) , void * p ) ;" ∷ []) ∷ [])
unfolding kernel_table
entry_parameter_of_another_type = refl

-- declared as an object, and without a type, which refuses nothing more
declared_as_object : Refused U10 (("typedef int t [ 2 ] ; extern t @ chSysLock ;" ∷ []) ∷ [])
unfolding kernel_table
declared_as_object = refl

declared_without_type : Refused U14 (("typedef void @ t [ 2 ] ; extern t chSysLock ;" ∷ []) ∷ [])
unfolding kernel_table
declared_without_type = refl
