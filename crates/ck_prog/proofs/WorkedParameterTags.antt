-- Worked projects: tags that a parameter list declares (6.2.1), in one file and over files (6.2.7).
use Rattle.std.proofs.Common.{◌≡◌, refl}
use Rattle.std.specs.Prelude.{Bool, true, false, List, [], ◌∷◌, Option, Some, None, codes}
use Rattle.std.specs.Str.{bytes_eq}
use Rattle.ck_base.specs.declared.refusals.Unsupported.TheVariants.{U10, U14}
use Rattle.ck_kernel.specs.KernelTable.{kernel_table}
use Rattle.ck_types.specs.Types.{Void, Pointer, Struct, Function, NoParameters, Parameter, ByParameter}
use Rattle.ck_prog.specs.Calls.{has_type_called}
use Rattle.ck_prog.specs.Declarations.{Entry, latest}
use Rattle.ck_prog.specs.Linking.{type_of}
use Rattle.ck_prog.specs.TypeClasses.{plain}
use Rattle.ck_prog.specs.TypedFiles.{ReadFile, declarations}
use Rattle.ck_prog.proofs.ProjectTexts.{Accepted, Refused, read_from}
use Rattle.ck_prog.proofs.Texts.{types_of}
use Prim.Native.String.{String}

-- its tag, its file and its place there
identity : types_of "void f ( struct t * p ) ;" ("f" ∷ [])
    ≡ Some (Function plain Void (Parameter (Pointer plain (Struct (ByParameter (codes "t") 0 16))) NoParameters) false)
    ∷ []
identity = refl

-- in one file --------------------------------------------------------------------------------------------------------

-- each list has a struct of its own
two_prototypes : Refused U10 (("void f ( struct t * p ) ; void @ f ( struct t * p ) ;" ∷ []) ∷ [])
unfolding kernel_table
two_prototypes = refl

-- a tag of file scope is in sight in both
tag_in_sight : Accepted (("struct t ; void f ( struct t * p ) ; void f ( struct t * p ) ;" ∷ []) ∷ [])
unfolding kernel_table
tag_in_sight = refl

-- one struct in one list
one_list : Accepted (("void f ( struct t * p , struct t * q ) { p = q ; }" ∷ []) ∷ [])
unfolding kernel_table
one_list = refl

-- the file's struct is another one
argument_of_file_scope : Refused U14
    (("void f ( struct t * p ) ; struct t { int a ; } ; void g ( struct t * x ) { @ f ( x ) ; }" ∷ []) ∷ [])
unfolding kernel_table
argument_of_file_scope = refl

-- 6.7.2.3: a body later in the list, or in the function's block, is the struct's
body_in_list : Accepted
    (("void f ( struct t * p , struct t { int a ; } * q ) { p = q ; p -> a = 1 ; }" ∷ []) ∷ [])
unfolding kernel_table
body_in_list = refl

body_in_block : Accepted
    (("void f ( struct t * p ) { struct t { int a ; } x ; p = & x ; p -> a = 1 ; }" ∷ []) ∷ [])
unfolding kernel_table
body_in_block = refl

-- over files ---------------------------------------------------------------------------------------------------------

header_of_two_files : Accepted (("void f ( struct t * p ) ;" ∷ []) ∷ ("void f ( struct t * p ) ;" ∷ []) ∷ [])
unfolding kernel_table
header_of_two_files = refl

-- it is the struct of that tag
tag_of_another_file : Accepted
    (("void f ( struct t * p ) ; int main ( void ) { f ( 0 ) ; return 0 ; }" ∷ [])
    ∷ ("struct t { int a ; } ; void f ( struct t * p ) { p -> a = 1 ; }" ∷ [])
    ∷ [])
unfolding kernel_table
tag_of_another_file = refl

another_tag : Refused U10
    (("void f ( struct t * p ) ;" ∷ []) ∷ ("struct u ; void @ f ( struct u * p ) ;" ∷ []) ∷ [])
unfolding kernel_table
another_tag = refl

-- with a body it is by its place
bodies_of_two_files : Refused U10
    (("void f ( struct t { int a ; } * p ) ;" ∷ []) ∷ ("void @ f ( struct t { int a ; } * p ) ;" ∷ []) ∷ [])
unfolding kernel_table
bodies_of_two_files = refl

body_of_one_file : Refused U10
    (("void f ( struct t * p ) { struct t { int a ; } x ; p = & x ; p -> a = 1 ; }" ∷ [])
    ∷ ("struct t ; void @ f ( struct t * p ) ;" ∷ [])
    ∷ [])
unfolding kernel_table
body_of_one_file = refl

-- in the types of members
members_of_two_files : Accepted
    (("struct s { void ( * cb ) ( struct t * p ) ; } ;" ∷ [])
    ∷ ("struct t ; struct s { void ( * cb ) ( struct t * p ) ; } ;" ∷ [])
    ∷ [])
unfolding kernel_table
members_of_two_files = refl

members_with_another_tag : Refused U10
    (("struct s { void ( * cb ) ( struct t * p ) ; } ;" ∷ [])
    ∷ ("struct @ s { void ( * cb ) ( struct u * p ) ; } ;" ∷ [])
    ∷ [])
unfolding kernel_table
members_with_another_tag = refl

-- calls --------------------------------------------------------------------------------------------------------------

abbrev declared_in : Option (List ReadFile) → List Entry
declared_in None = []
declared_in (Some fs) = declarations fs

abbrev fits_call : List Entry → Option Entry → Option Entry → Bool
fits_call all (Some called) (Some function) = has_type_called all (type_of called.meaning) function.meaning
fits_call all _ _ = false

-- the second of these files defines `g`; the first has a function pointer `p`
abbrev fits : String → String → Bool
fits caller callee =
    let all = declared_in (read_from 0 ((caller ∷ []) ∷ (callee ∷ []) ∷ [])) in
    fits_call all (latest (λ e. bytes_eq e.name (codes "p")) all) (latest (λ e. bytes_eq e.name (codes "g")) all)

called_over_files : fits "void ( * p ) ( struct t * ) ;" "struct t { int a ; } ; void g ( struct t * x ) { }" ≡ true
called_over_files = refl

called_with_another_tag : fits "void ( * p ) ( struct u * ) ;" "struct t { int a ; } ; void g ( struct t * x ) { }"
    ≡ false
called_with_another_tag = refl
