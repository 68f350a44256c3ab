-- Worked projects: arrays of function pointers in initialisers.
use Rattle.std.proofs.Common.{refl}
use Rattle.std.specs.Prelude.{[], ◌∷◌}
use Rattle.ck_base.specs.declared.refusals.Unsupported.TheVariants.{U16}
use Rattle.ck_kernel.specs.KernelTable.{kernel_table}
use Rattle.ck_prog.proofs.ProjectTexts.{Refused}

-- an array of function pointers is no value of another object
table_as_value : Refused U16
    (("void f ( void ) { } void ( * t [ 2 ] ) ( void ) = { f , f } ; int main ( void ) { void"
    ∷ "* v = @ t ; return v == 0 ; }" ∷ [])
    ∷ [])
unfolding kernel_table
table_as_value = refl

table_as_member : Refused U16
    (("void f ( void ) { } void ( * t [ ] ) ( void ) = { f } ; struct c { void * of ; } x = {"
    ∷ "@ t } ;" ∷ [])
    ∷ [])
unfolding kernel_table
table_as_member = refl
