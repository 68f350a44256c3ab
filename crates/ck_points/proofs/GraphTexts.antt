-- How the graph of a function is drawn. Its points come in their order; a line for each edge has the point that it
-- leaves, its label, its work, the point that it comes to, and `;`. A point without edges is a line alone.
-- A place is its path with `.` between steps, a letter for its side (s split, b before, e enter, t test, l leave,
-- a after), and after a `:` its orders. A deed is a letter (E evaluate, A apply, C clear, I initialise, F forget,
-- G give) and a path. All numbers here have one digit. For worked texts alone.
use Rattle.std.proofs.Common.{◌≡◌}
use Rattle.std.specs.Prelude.{ℕ, ◌+◌, ◌==◌, Bool, true, false, ◌&&◌, ◌||◌, nat_lt, List, [], ◌∷◌, ◌++◌, codes, map}
use Rattle.std.specs.Prelude.{Option, Some, None, length, if◌then◌else◌}
use Rattle.std.specs.Str.{bytes_eq}
use Rattle.ck_grammar.specs.Words.{words}
use Rattle.ck_graph.specs.declared.points.Label.{Label}
use Rattle.ck_graph.specs.declared.points.Label.TheVariants as label
use Rattle.ck_prog.specs.Calls.{functions_of}
use Rattle.ck_prog.specs.TypedBodies.{TypedFunction}
use Rattle.ck_prog.specs.TypedFiles.{ReadFile, typed_files}
use Rattle.ck_prog.proofs.ProjectTexts.{File, read_from}
use Rattle.ck_points.specs.Evaluations.{Deed, Evaluate, Apply, Clear, Initialise, Forget, Give}
use Rattle.ck_points.specs.Functions.{points}
use Rattle.ck_points.specs.Places.{Place, Side, side_number, Split, Before, Enter, Test, Leave, After, Point, Edge}
use Prim.Native.String.{String}

-- words --------------------------------------------------------------------------------------------------------------

abbrev pub digit : ℕ → List ℕ
digit n = (n + 48) ∷ []

abbrev pub digits : List ℕ → List ℕ
digits [] = []
digits (n ∷ ns) = digit n ++ digits ns

abbrev pub path_text : List ℕ → List ℕ
path_text [] = []
path_text (n ∷ []) = digit n
path_text (n ∷ ns) = digit n ++ (codes "." ++ path_text ns)

abbrev pub side_text : Side → List ℕ
side_text Split = codes "s"
side_text Before = codes "b"
side_text Enter = codes "e"
side_text Test = codes "t"
side_text Leave = codes "l"
side_text After = codes "a"

abbrev pub orders_text : List ℕ → List ℕ
orders_text [] = []
orders_text ns = codes ":" ++ digits ns

abbrev pub place_text : Place → List ℕ
place_text p = path_text p.path ++ (side_text p.side ++ orders_text p.orders)

abbrev pub deed_text : Deed → List ℕ
deed_text (Evaluate π) = codes "E" ++ path_text π
deed_text (Apply π) = codes "A" ++ path_text π
deed_text (Clear π) = codes "C" ++ path_text π
deed_text (Initialise π) = codes "I" ++ path_text π
deed_text (Forget π) = codes "F" ++ path_text π
deed_text (Give π) = codes "G" ++ path_text π

abbrev pub label_text : Label → List ℕ
label_text label.Plain = codes "->"
label_text label.True = codes "true"
label_text label.False = codes "false"
label_text (label.Case k) = codes "case" ++ digit k
label_text label.Default = codes "default"
label_text (label.Order k) = codes "order" ++ digit k
label_text (label.Pick k) = codes "pick" ++ digit k

-- the order of points ------------------------------------------------------------------------------------------------

-- lists of numbers, a beginning first
abbrev pub is_less : List ℕ → List ℕ → Bool
is_less [] [] = false
is_less [] (n ∷ ns) = true
is_less (m ∷ ms) [] = false
is_less (m ∷ ms) (n ∷ ns) = nat_lt m n || (m == n && is_less ms ns)

abbrev pub is_earlier : Place → Place → Bool
is_earlier p q =
    is_less p.path q.path
    || (bytes_eq p.path q.path
    && (is_less p.orders q.orders
    || (bytes_eq p.orders q.orders && nat_lt (side_number p.side) (side_number q.side))))

abbrev pub inserted : Point → List Point → List Point
inserted p [] = p ∷ []
inserted p (q ∷ qs) = if is_earlier q.place p.place then q ∷ inserted p qs else p ∷ q ∷ qs

abbrev pub sorted : List Point → List Point
sorted [] = []
sorted (p ∷ ps) = inserted p (sorted ps)

-- graphs -------------------------------------------------------------------------------------------------------------

abbrev pub edge_lines : Place → List Edge → List (List ℕ)
edge_lines p [] = []
edge_lines p (e ∷ es) =
    place_text p ∷ label_text e.label
    ∷ (map deed_text e.way.work ++ (place_text e.way.to ∷ codes ";" ∷ edge_lines p es))

abbrev pub lines_at : Place → List Edge → List (List ℕ)
lines_at p [] = place_text p ∷ codes ";" ∷ []
lines_at p es = edge_lines p es

abbrev pub lines_of : List Point → List (List ℕ)
lines_of [] = []
lines_of (p ∷ ps) = lines_at p.place p.edges ++ lines_of ps

abbrev pub drawn : TypedFunction → List (List ℕ)
drawn f = lines_of (sorted (points f))

abbrev pub all_words : List String → List (List ℕ)
all_words [] = []
all_words (line ∷ lines) = words line ++ all_words lines

abbrev pub files : Option (List ReadFile) → List ReadFile
files None = []
files (Some fs) = fs

abbrev pub functions : File → List TypedFunction
functions file = functions_of (typed_files (files (read_from 0 (file ∷ []))))

abbrev pub drawn_last : List TypedFunction → List (List ℕ)
drawn_last [] = []
drawn_last (f ∷ []) = drawn f
drawn_last (f ∷ fs) = drawn_last fs

-- the graph of the last function of a file is this
abbrev pub IsDrawn : File → List String → Type 0
IsDrawn file drawing = drawn_last (functions file) ≡ all_words drawing

abbrev pub count_last : List TypedFunction → ℕ
count_last [] = 0
count_last (f ∷ []) = length (points f)
count_last (f ∷ fs) = count_last fs

abbrev pub point_count : File → ℕ
point_count file = count_last (functions file)
