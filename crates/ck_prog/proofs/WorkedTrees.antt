-- Worked texts of typed trees: names and their roles, calls and the functions that they name.
use Rattle.std.proofs.Common.{◌≡◌, refl, pos, negsuc}
use Rattle.std.specs.Prelude.{true, false, [], ◌∷◌, codes, Option, Some, None}
use Rattle.ck_prog.proofs.Texts.{typed_in, after_text}
use Rattle.ck_prog.proofs.Walks.{seen_in, undeclared, roles, calls, untyped, with_calls, sizes, enumerators}
use Rattle.ck_prog.proofs.Walks.{declarators}
use Rattle.ck_prog.proofs.Walks.{parts_of}
use Rattle.ck_graph.specs.declared.points.ActName.{ActName}
use Rattle.ck_graph.specs.declared.points.ActName.TheVariants.{Kernel, Outside}
use Rattle.ck_kernel.specs.KernelTable.{kernel_table}
use Rattle.ck_prog.specs.Acts.{Project, act_of}
use Rattle.ck_prog.specs.Declarations.{meant}
use Rattle.ck_prog.specs.declared.operators.Role.TheVariants.{Called, Whole, Value}
use Prim.Native.String.{String}

-- in `sizeof` too
names_not_declared : undeclared (seen_in (typed_in "int x ;" "x + y * sizeof z")) ≡ 4 ∷ 15 ∷ []
names_not_declared = refl

-- 6.2.1: the names of sizes in type names, where an enumeration constant is in sight after it
names_in_types : undeclared (seen_in (typed_in "int x ;" "sizeof ( int [ A ] ) + sizeof ( enum { A } ) + A")) ≡ 15 ∷ []
names_in_types = refl

roles_of_names : roles (seen_in (typed_in "void f ( void ) ; int t [ 3 ] ;" "( f ) ( ) , t [ 1 ] , sizeof t , * t , f"))
    ≡ (2, Called) ∷ (12, Whole) ∷ (29, Whole) ∷ (35, Value) ∷ (39, Value) ∷ []
roles_of_names = refl

-- a call by a pointer names no function, nor does one of what a call gives
called_functions : calls (seen_in (typed_in
    "void f ( void ) ; void ( * p ) ( void ) ; void ( * g ( int n ) ) ( void ) ;"
    "f ( ) , ( f ) ( ) , p ( ) , g ( 1 ) ( ) , ( * f ) ( )"))
    ≡ (0, codes "f") ∷ (8, codes "f") ∷ (20, []) ∷ (28, codes "g") ∷ (28, []) ∷ (42, []) ∷ []
called_functions = refl

-- 6.5.3.4: `sizeof` evaluates no call, though its operand holds one
evaluated_calls : with_calls (seen_in (typed_in "int a ( void ) ;" "1 + a ( ) , sizeof a ( ) , ( 2 )"))
    ≡ 4 ∷ 0 ∷ 19 ∷ 0 ∷ 0 ∷ []
evaluated_calls = refl

-- the innermost value without a type, and those around it
no_types : untyped (seen_in (typed_in "struct s { int m ; } x ;" "1 + ( x . n + 2 ) , x + 1"))
    ≡ 4 ∷ 6 ∷ 6 ∷ 0 ∷ 20 ∷ 0 ∷ []
no_types = refl

-- 6.5.2.2: arguments and a called expression that hold calls
arguments_with_calls : with_calls (seen_in (typed_in "int a ( void ) ; int h ( int p , int q , int r , int s ) ;"
    "h ( a ( ) , 1 , a ( ) , a ( ) )")) ≡ 4 ∷ 16 ∷ 24 ∷ 0 ∷ []
arguments_with_calls = refl

-- what is written in types --------------------------------------------------------------------------------------------

-- 6.7.5.2: a size without a value, one that isn't constant, the bounds, and 16 MiB
sizes_of_arrays : sizes (parts_of (typed_in "int x ;" "sizeof ( int [ 1 / 0 ] [ x ] [ 0 ] [ 1048577 ] [ 3 ] )"))
    ≡ (15, None, false) ∷ (25, None, false) ∷ (31, None, false) ∷ (37, None, false) ∷ (49, Some 3, false) ∷ []
sizes_of_arrays = refl

large_arrays : sizes (parts_of (typed_in "int x ;" "sizeof ( int [ 2 ] [ 5 ] [ 1048576 ] )"))
    ≡ (15, Some 2, false) ∷ (21, Some 5, true) ∷ (27, Some 1048576, false) ∷ []
large_arrays = refl

-- 6.7.5: in a declarator in parentheses, and in parameters
nested_sizes : sizes (parts_of (typed_in "int x ;" "sizeof ( int ( * ( * ) [ 2 ] ) ( int a [ 3 ] ) )"))
    ≡ (25, Some 2, false) ∷ (41, Some 3, false) ∷ []
nested_sizes = refl

-- 6.7.2.2: past the greatest value of `int`
values_of_enumerators : enumerators (parts_of (typed_in "int x ;"
    "sizeof ( enum { A = - 1 , B , C = 2147483647 , D , E = x } )"))
    ≡ (20, Some (negsuc 0)) ∷ (26, Some (pos 0)) ∷ (34, Some (pos 2147483647)) ∷ (47, None) ∷ (55, None) ∷ []
values_of_enumerators = refl

-- 6.7.2.1, 6.7.5: a member that is an array of an incomplete type, one of a type that has no values, and a function
-- that gives an array
declarators_of_types : declarators (parts_of (typed_in "int x ;"
    "sizeof ( struct { struct s a [ 2 ] ; void b ; int c ; int ( * d ( void ) ) [ 2 ] ; int e ( void ) [ 2 ] ; } )"))
    ≡ (27, true, false) ∷ (42, false, false) ∷ (50, false, true) ∷ (62, false, false) ∷ (87, true, false)
    ∷ (9, false, false) ∷ []
declarators_of_types = refl

-- calls that are acts -------------------------------------------------------------------------------------------------

-- a function of the table, one that the settings name, and one that they name though a file defines it
abbrev project : Project
project =
    record {
      all = (after_text "void g ( void ) ; void h ( void ) { } void chSysLock ( void ) ;").declared;
      outside = codes "g" ∷ codes "h" ∷ [];
    }

abbrev act : String → Option ActName
act name =
    act_of project (meant (after_text "void g ( void ) ; void h ( void ) { } void chSysLock ( void ) ;") (codes name))

act_of_kernel : act "chSysLock" ≡ Some (Kernel (record { 0 = 4 }))
unfolding kernel_table
act_of_kernel = refl

act_of_outside : act "g" ≡ Some (Outside 0)
unfolding kernel_table
act_of_outside = refl

no_act_of_body : act "h" ≡ None
unfolding kernel_table
no_act_of_body = refl
