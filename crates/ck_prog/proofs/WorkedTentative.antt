-- Worked projects: tentative definitions of arrays without a size, and of `static` objects (6.9.2).
use Rattle.std.proofs.Common.{refl}
use Rattle.std.specs.Prelude.{[], ◌∷◌}
use Rattle.ck_base.specs.declared.refusals.Unsupported.TheVariants.{U10, U11, U14}
use Rattle.ck_kernel.specs.KernelTable.{kernel_table}
use Rattle.ck_prog.proofs.ProjectTexts.{Accepted, Refused}

-- 6.9.2: no size in its file, so one element -------------------------------------------------------------------------

two_elements_later : Refused U10 (("int a [ ] ;" ∷ []) ∷ ("extern int @ a [ 2 ] ;" ∷ []) ∷ [])
unfolding kernel_table
two_elements_later = refl

two_elements_before : Refused U10 (("extern int a [ 2 ] ;" ∷ []) ∷ ("int @ a [ ] ;" ∷ []) ∷ [])
unfolding kernel_table
two_elements_before = refl

two_rows : Refused U10 (("int a [ ] [ 3 ] ;" ∷ []) ∷ ("extern int @ a [ 2 ] [ 3 ] ;" ∷ []) ∷ [])
unfolding kernel_table
two_rows = refl

-- the first name of the other file agrees with both
after_open : Refused U10 (("int a [ ] ;" ∷ []) ∷ ("extern int a [ ] , @ a [ 2 ] ;" ∷ []) ∷ [])
unfolding kernel_table
after_open = refl

one_element : Accepted (("int a [ ] ;" ∷ []) ∷ ("extern int a [ 1 ] ;" ∷ []) ∷ [])
unfolding kernel_table
one_element = refl

unknown_elsewhere : Accepted (("int a [ ] ;" ∷ []) ∷ ("extern int a [ ] ;" ∷ []) ∷ [])
unfolding kernel_table
unknown_elsewhere = refl

-- its file gives a size, before it or after
sized_before : Accepted (("extern int a [ 2 ] ; int a [ ] ;" ∷ []) ∷ ("extern int a [ 2 ] ;" ∷ []) ∷ [])
unfolding kernel_table
sized_before = refl

sized_after : Accepted (("extern int a [ 2 ] ;" ∷ []) ∷ ("int a [ ] ; extern int a [ 2 ] ;" ∷ []) ∷ [])
unfolding kernel_table
sized_after = refl

-- the type at the end of the file is that of file scope
sized_in_block : Refused U10
    (("int a [ ] ; int f ( void ) { extern int @ a [ 3 ] ; return a [ 0 ] ; }" ∷ []) ∷ [])
unfolding kernel_table
sized_in_block = refl

one_in_block : Accepted
    (("int a [ ] ; int f ( void ) { extern int a [ 1 ] ; return a [ 0 ] ; }" ∷ []) ∷ [])
unfolding kernel_table
one_in_block = refl

-- 6.5.3.4: incomplete up to the end of its file
no_size_yet : Refused U14 (("int a [ ] ; unsigned f ( void ) { return @ sizeof a ; }" ∷ []) ∷ [])
unfolding kernel_table
no_size_yet = refl

-- 6.9.2: with internal linkage the type is complete there ------------------------------------------------------------

static_array : Refused U11 (("static int @ a [ ] ;" ∷ []) ∷ [])
unfolding kernel_table
static_array = refl

static_array_sized_after : Refused U11 (("static int @ a [ ] ; static int a [ 3 ] ;" ∷ []) ∷ [])
unfolding kernel_table
static_array_sized_after = refl

static_array_sized_before : Accepted (("static int a [ 3 ] ; static int a [ ] ;" ∷ []) ∷ [])
unfolding kernel_table
static_array_sized_before = refl

static_array_initialised : Accepted (("static int a [ ] = { 1 , 2 } ;" ∷ []) ∷ [])
unfolding kernel_table
static_array_initialised = refl

static_struct : Refused U14 (("static struct s @ y ; struct s { int a ; } ;" ∷ []) ∷ [])
unfolding kernel_table
static_struct = refl

static_struct_complete : Accepted (("struct s { int a ; } ; static struct s y ;" ∷ []) ∷ [])
unfolding kernel_table
static_struct_complete = refl
