-- Worked kinds and sites of points: acts, numbered calls, and the places in the text.
use Rattle.std.proofs.Common.{◌≡◌, refl}
use Rattle.std.specs.Prelude.{ℕ, List, [], ◌∷◌, codes, map, Option, Some, None, slice_get}
use Rattle.ck_base.specs.declared.ops.Op.{Op}
use Rattle.ck_base.specs.declared.ops.Op.TheVariants.{Init, IQuiet, GetStatus, RestoreStatus, PairEnter, PairLeft}
use Rattle.ck_graph.specs.declared.points.ActName.TheVariants.{Kernel, Outside, Entry, Return}
use Rattle.ck_graph.specs.declared.points.PointKind.{PointKind}
use Rattle.ck_graph.specs.declared.points.PointKind.TheVariants.{Plain, Act, Call, Exit}
use Rattle.ck_kernel.specs.KernelTable.{kernel_table}
use Rattle.ck_prog.specs.Calls.{functions_of}
use Rattle.ck_prog.specs.TypedBodies.{TypedFunction}
use Rattle.ck_prog.specs.TypedFiles.{ReadFile, declarations, typed_files}
use Rattle.ck_prog.proofs.ProjectTexts.{File, read_from}
use Rattle.ck_points.specs.Functions.{points}
use Rattle.ck_points.specs.Graphs.{Program, kind_of}
use Rattle.ck_points.specs.Places.{Point}
use Rattle.ck_points.proofs.GraphTexts.{files, functions, sorted}

-- the program of these files, where the settings name these functions, with these ops
abbrev program : List (List ℕ) → List Op → List ReadFile → Program
program names ops fs =
    record {
      project = record { all = declarations fs; outside = names };
      ops = ops;
      functions = functions_of (typed_files fs);
    }

abbrev with_kind : PointKind → List PointKind → List PointKind
with_kind Plain kinds = kinds
with_kind kind kinds = kind ∷ kinds

abbrev kinds_from : Program → ℕ → TypedFunction → List Point → List PointKind
kinds_from p i f [] = []
kinds_from p i f (d ∷ ds) = with_kind (kind_of p i f d.place.path d.happening) (kinds_from p i f ds)

abbrev kinds_in : Program → ℕ → Option TypedFunction → List PointKind
kinds_in p i None = []
kinds_in p i (Some f) = kinds_from p i f (sorted (points f))

-- what happens in the function of a number, point by point, without those where nothing happens
abbrev kinds : List (List ℕ) → List Op → List File → ℕ → List PointKind
kinds names ops fs i =
    let p = program names ops (files (read_from 0 fs)) in kinds_in p i (slice_get p.functions i)

abbrev two_files : List File
two_files =
    ("void poll ( int k ) ; int g ( void ) ; int f ( void ) { poll ( 1 ) ; return g ( ) + g ( ) ; }" ∷ [])
    ∷ ("void chSysInit ( void ) ; int f ( void ) ; void ( * p ) ( void ) ; int g ( void ) { return f ( ) ; }"
    ∷ "int main ( void ) { chSysInit ( ) ; p ( ) ; return g ( ) ; }" ∷ []) ∷ []

-- an outside function is an act; in each order the two calls have their own numbers
outside_act : kinds (codes "poll" ∷ []) (IQuiet ∷ []) two_files 0
    ≡ Exit ∷ Act IQuiet (Outside 0) ∷ Call 0 ∷ Call 0 ∷ Call 1 ∷ Call 1 ∷ []
unfolding kernel_table
outside_act = refl

-- calls are numbered through all functions, acts left out
numbered_calls : kinds (codes "poll" ∷ []) (IQuiet ∷ []) two_files 2
    ≡ Exit ∷ Act Init (Kernel (record { 0 = 0 })) ∷ Call 3 ∷ Call 4 ∷ []
unfolding kernel_table
numbered_calls = refl

abbrev status_file : File
status_file =
    "typedef unsigned int syssts_t ; syssts_t chSysGetStatusAndLockX ( void ) ;"
    ∷ "void chSysRestoreStatusX ( syssts_t s ) ;"
    ∷ "void bump ( void ) { syssts_t s ; s = chSysGetStatusAndLockX ( ) ; chSysRestoreStatusX ( s ) ; }" ∷ []

-- a function with a status variable is entered and left by acts
pair : kinds [] [] (status_file ∷ []) 0
    ≡ Act PairEnter Entry ∷ Act PairLeft Return ∷ Exit ∷ Act GetStatus (Kernel (record { 0 = 134 }))
    ∷ Act RestoreStatus (Kernel (record { 0 = 135 })) ∷ []
unfolding kernel_table
pair = refl

-- where the sites of the last function's points begin
abbrev sites_of : List TypedFunction → List ℕ
sites_of [] = []
sites_of (f ∷ []) = map (λ d. d.site.span.start) (sorted (points f))
sites_of (f ∷ fs) = sites_of fs

-- the function's name is at 46, `if` at 62, its test at 67, its statement at 71, `a ( ) + b ( )` at 75, `b ( )` at 83
sites : sites_of (functions ("int a ( void ) ; int b ( void ) ; int n ; int main ( void ) {"
    ∷ "if ( n ) n = a ( ) + b ( ) ; }" ∷ []))
    ≡ 46 ∷ 46 ∷ 62 ∷ 62 ∷ 67 ∷ 71 ∷ 71 ∷ 75 ∷ 75 ∷ 75 ∷ 75 ∷ 75 ∷ 83 ∷ 83 ∷ 83 ∷ 83 ∷ []
sites = refl
