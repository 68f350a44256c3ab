-- Worked paths and calls, parts of initialisers, slots and names of settings, computed on the definitions.
use Rattle.std.proofs.Common.{◌≡◌, refl}
use Rattle.std.specs.Prelude.{ℕ, List, [], ◌∷◌, ◌++◌, codes, map, Option, Some, None}
use Rattle.ck_graph.specs.declared.points.ActName.{ActName}
use Rattle.ck_graph.specs.declared.points.ActName.TheVariants.{Kernel, Outside}
use Rattle.ck_kernel.specs.KernelTable.{kernel_table}
use Rattle.ck_prog.specs.Acts.{Project}
use Rattle.ck_prog.specs.Calls.{CallKind, Acts, Direct, Through, calls_of_function, functions_of, call_kind}
use Rattle.ck_prog.specs.Calls.{numbered_calls}
use Rattle.ck_prog.specs.Declarations.{Entry}
use Rattle.ck_prog.specs.SettingsNames.{callback_slot}
use Rattle.ck_prog.specs.Slots.{Slot, slots, slot_number}
use Rattle.ck_prog.specs.TypedBodies.{TypedFile, TypedFunction}
use Rattle.ck_prog.specs.TypedFiles.{ReadFile, declarations, typed_files}
use Rattle.ck_prog.proofs.ProjectTexts.{File, read_from}

-- a project as it is read, or nothing
abbrev files_or_nothing : Option (List ReadFile) → List ReadFile
files_or_nothing None = []
files_or_nothing (Some fs) = fs

abbrev typed : List File → List TypedFile
typed fs = typed_files (files_or_nothing (read_from 0 fs))

abbrev declared : List File → List Entry
declared fs = declarations (files_or_nothing (read_from 0 fs))

-- calls: the path of each, function by function
abbrev paths_in : List TypedFunction → List (List (List ℕ))
paths_in [] = []
paths_in (f ∷ fs) = map (λ c. c.path) (calls_of_function f) ∷ paths_in fs

abbrev paths : File → List (List (List ℕ))
paths f = paths_in (functions_of (typed (f ∷ [])))

-- a chain: its operands are 0, 2, 4; a call is its suffix, and its arguments are below that
in_chain : paths ("int f ( int a ) { return a ; } int g ( int n ) {"
    ∷ "return f ( 1 ) + n * f ( f ( 2 ) ) - f ( 3 ) ; }" ∷ [])
    ≡ [] ∷ ((0 ∷ 0 ∷ 0 ∷ 1 ∷ []) ∷ (0 ∷ 0 ∷ 2 ∷ 2 ∷ 1 ∷ []) ∷ (0 ∷ 0 ∷ 2 ∷ 2 ∷ 1 ∷ 0 ∷ 1 ∷ [])
    ∷ (0 ∷ 0 ∷ 4 ∷ 1 ∷ []) ∷ []) ∷ []
in_chain = refl

-- a row of suffixes, `? :`, an assignment
in_row : paths ("struct s { int ( * m [ 2 ] ) ( void ) ; } ; struct s v ; int f ( void ) { return 0 ; }"
    ∷ "struct s * h ( void ) { return & v ; }"
    ∷ "int g ( int n ) { n = h ( ) -> m [ f ( ) ] ( ) ; return n ? f ( ) : ( f ( ) ) ; }" ∷ [])
    ≡ [] ∷ [] ∷ ((0 ∷ 0 ∷ 1 ∷ 1 ∷ []) ∷ (0 ∷ 0 ∷ 1 ∷ 3 ∷ 0 ∷ 1 ∷ []) ∷ (0 ∷ 0 ∷ 1 ∷ 4 ∷ [])
    ∷ (1 ∷ 0 ∷ 1 ∷ 1 ∷ []) ∷ (1 ∷ 0 ∷ 2 ∷ 0 ∷ 1 ∷ []) ∷ []) ∷ []
in_row = refl

-- statements: an absent test of `for` keeps its number; nothing under `sizeof` is evaluated
in_statements : paths ("int f ( void ) { return 0 ; } void g ( int n ) { for ( n = f ( ) ; ; f ( ) ) {"
    ∷ "switch ( f ( ) ) { case 1 : default : f ( ) ; } } do if ( sizeof ( f ( ) ) ) f ( ) ; else f ( ) ;"
    ∷ "while ( f ( ) ) ; }" ∷ [])
    ≡ [] ∷ ((0 ∷ 0 ∷ 1 ∷ 1 ∷ []) ∷ (0 ∷ 2 ∷ 1 ∷ []) ∷ (0 ∷ 3 ∷ 0 ∷ 0 ∷ 1 ∷ [])
    ∷ (0 ∷ 3 ∷ 0 ∷ 1 ∷ 0 ∷ 1 ∷ 0 ∷ 0 ∷ 1 ∷ []) ∷ (1 ∷ 0 ∷ 1 ∷ 0 ∷ 1 ∷ []) ∷ (1 ∷ 0 ∷ 2 ∷ 0 ∷ 1 ∷ [])
    ∷ (1 ∷ 1 ∷ 1 ∷ []) ∷ []) ∷ []
in_statements = refl

-- declarations: the number of the declarator, and in braces that of the element
in_initialisers : paths ("int f ( void ) { return 0 ; } int g ( void ) { int a , b = f ( ) ,"
    ∷ "c [ 2 ] [ 2 ] = { [ 1 ] = { 1 , f ( ) } , f ( ) } ; return a ; }" ∷ [])
    ≡ [] ∷ ((0 ∷ 1 ∷ 1 ∷ []) ∷ (0 ∷ 2 ∷ 0 ∷ 1 ∷ 1 ∷ []) ∷ (0 ∷ 2 ∷ 1 ∷ 1 ∷ []) ∷ []) ∷ []
in_initialisers = refl

-- acts, calls by name and calls through expressions, with their numbers
pub data Kind : Type 0 where
  Act : ActName → Kind
  Named : ℕ → Kind
  Expression : Kind

abbrev shown : CallKind → Kind
shown (Acts a) = Act a
shown (Direct k) = Named k
shown (Through x) = Expression

abbrev kinds_in : Project → List TypedFunction → List TypedFunction → List Kind
kinds_in k all [] = []
kinds_in k all (f ∷ fs) = map (λ c. shown (call_kind k all c)) (calls_of_function f) ++ kinds_in k all fs

abbrev project : List (List ℕ) → List File → Project
project outside fs = record { all = declared fs; outside = outside }

abbrev kinds : List (List ℕ) → List File → List Kind
kinds outside fs = let functions = functions_of (typed fs) in kinds_in (project outside fs) functions functions

abbrev numbered : List (List ℕ) → List File → List (List ℕ)
numbered outside fs = map (λ c. c.path) (numbered_calls (project outside fs) (functions_of (typed fs)))

abbrev two_files : List File
two_files =
    ("void chSysLock ( void ) ; void poll ( void ) ; void b ( void ) ; static void s ( void ) { b ( ) ; }"
    ∷ "void ( * p ) ( void ) = s ; void a ( void ) { chSysLock ( ) ; p ( ) ; s ( ) ; poll ( ) ; }" ∷ [])
    ∷ ("void a ( void ) ; static void s ( void ) { a ( ) ; } void b ( void ) { s ( ) ; ( s ) ( ) ; }" ∷ []) ∷ []

kinds_of_two : kinds (codes "poll" ∷ []) two_files
    ≡ Named 3 ∷ Act (Kernel (record { 0 = 4 })) ∷ Expression ∷ Named 0 ∷ Act (Outside 0)
    ∷ Named 1 ∷ Named 2 ∷ Named 2 ∷ []
unfolding kernel_table
kinds_of_two = refl

numbered_of_two : numbered (codes "poll" ∷ []) two_files
    ≡ (0 ∷ 0 ∷ 1 ∷ []) ∷ (1 ∷ 0 ∷ 1 ∷ []) ∷ (2 ∷ 0 ∷ 1 ∷ [])
    ∷ (0 ∷ 0 ∷ 1 ∷ []) ∷ (0 ∷ 0 ∷ 1 ∷ []) ∷ (1 ∷ 0 ∷ 1 ∷ []) ∷ []
unfolding kernel_table
numbered_of_two = refl

-- slots: where the name that first declares each begins, and its number; the latest declared first -------------------
abbrev numbers_of : List Slot → List Slot → List (ℕ × ℕ)
numbers_of all [] = []
numbers_of all (s ∷ ss) = (s.at.span.start, slot_number all s) ∷ numbers_of all ss

abbrev slots_in : File → List (ℕ × ℕ)
slots_in f = let all = slots (declared (f ∷ [])) in numbers_of all all

-- a member, a variable that is declared twice, a parameter, a result, a table; a prototype's parameter has none
slots_of_file : slots_in ("typedef void fn ( void ) ; struct s { fn * m ; int k ; } ; extern fn * v ; fn * v ;"
    ∷ "void q ( fn * x ) ; fn * r ( fn * y ) { fn * t [ 2 ] ; t [ 0 ] = y ; return t [ 0 ] ; }" ∷ [])
    ≡ (129, 4) ∷ (118, 3) ∷ (109, 2) ∷ (71, 1) ∷ (43, 0) ∷ []
slots_of_file = refl

abbrev start_of : Option Slot → Option ℕ
start_of None = None
start_of (Some s) = Some s.at.span.start

-- a struct of a file's tag before a typedef name, and its member where the first file declares it
callback : start_of (callback_slot (declared (("struct g { int n ; void ( * cb ) ( void ) ; } ;" ∷ [])
    ∷ ("typedef struct { int cb ; } g ; struct g { int n ; void ( * cb ) ( void ) ; } ;" ∷ []) ∷ []))
    (codes "g") (codes "cb")) ≡ Some 28
callback = refl

no_callback : start_of (callback_slot (declared (("struct g { int cb ; } ;" ∷ []) ∷ [])) (codes "g") (codes "cb"))
    ≡ None
no_callback = refl
