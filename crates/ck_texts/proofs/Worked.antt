-- Worked texts, computed on the definitions: graphs by hand with paths by hand, and the reports that come.
-- A span's two numbers stand for its line and its column here.
use Rattle.std.proofs.Common.{◌≡◌, ℕ, List, [], ◌∷◌, refl}
use Rattle.std.specs.Prelude.{codes}
use Rattle.std.specs.Fmt.{digits}
use Rattle.std.specs.List.{flat_map}
use Rattle.ck_base.specs.declared.spans.FnId.{FnId}
use Rattle.ck_base.specs.declared.spans.Span.{Span}
use Rattle.ck_base.specs.declared.refusals.Spot.{Spot}
use Rattle.ck_base.specs.declared.refusals.Spot.TheVariants.{Nowhere, At}
use Rattle.ck_base.specs.declared.refusals.Unsupported.TheVariants.{U5, U23, U25}
use Rattle.ck_base.specs.declared.settings_faults.SettingsKind.TheVariants.{Absent, Repeated, NoSuchName}
use Rattle.ck_base.specs.declared.ops.Op.{Op}
use Rattle.ck_base.specs.declared.ops.Op.TheVariants.{Init, Lock, Unlock, Prologue, Epilogue, LockIsr, UnlockIsr}
use Rattle.ck_base.specs.declared.ops.Op.TheVariants.{Normal, HandlerReturn, GetStatus, RestoreStatus, PairEnter}
use Rattle.ck_base.specs.declared.ops.Op.TheVariants.{PairLeft}
use Rattle.ck_base.specs.declared.states.State.TheVariants.{TI, HB}
use Rattle.ck_base.specs.declared.states.Kind.{Kind}
use Rattle.ck_base.specs.declared.states.Kind.TheVariants.{Sv, P}
use Rattle.ck_graph.specs.declared.entries.Entry.TheVariants as entry
use Rattle.ck_graph.specs.declared.entries.Root.{Root}
use Rattle.ck_graph.specs.declared.points.ActName.{ActName}
use Rattle.ck_graph.specs.declared.points.ActName.TheVariants as name
use Rattle.ck_graph.specs.declared.points.Edge.{Edge}
use Rattle.ck_graph.specs.declared.points.FunctionPart.{FunctionPart}
use Rattle.ck_graph.specs.declared.points.Label.{Label}
use Rattle.ck_graph.specs.declared.points.Label.TheVariants as label
use Rattle.ck_graph.specs.declared.points.PointKind.{PointKind}
use Rattle.ck_graph.specs.declared.points.PointKind.TheVariants.{Plain, Act, Call, Exit}
use Rattle.ck_graph.specs.Flow.{Flow, Point, point_at, function_at}
use Rattle.ck_kernel.specs.KernelTable.{kernel_table}
use Rattle.ck_lexer.specs.Places.{Place}
use Rattle.ck_segments.specs.declared.segments.Step.{Step}
use Rattle.ck_segments.specs.declared.segments.Step.TheVariants as way
use Rattle.ck_segments.specs.Plain.{PlainSegment}
use Rattle.ck_texts.specs.Lines.{line}
use Rattle.ck_texts.specs.Report.{report_text}
use Rattle.ck_texts.specs.Texts.{refusal_text, settings_text}
use Rattle.ck_texts.specs.Views.{Names, PathToAlarm, accepted, rejected}

-- ---- Words for graphs and paths

abbrev function : ℕ → FnId
function n = record { 0 = n }

abbrev spot : ℕ → ℕ → Spot
spot l c = At (record { file = 0; start = l; end = c })

abbrev place : List ℕ → Span → Place
place file span = record { name = file; line = span.start; column = span.end }

abbrev edges_to : List ℕ → List Edge
edges_to [] = []
edges_to (n ∷ rest) = record { to = record { 0 = n }; label = label.Plain } ∷ edges_to rest

abbrev edge : ℕ → Label → Edge
edge to word = record { to = record { 0 = to }; label = word }

abbrev point : PointKind → ℕ → Spot → List Edge → List FnId → Point
point kind owner site edges targets = record {
  kind = kind;
  function = function owner;
  site = site;
  path = [];
  order = [];
  side = 0;
  edges = edges;
  targets = targets;
}

-- a plain point, an act, a call and an exit of a function
abbrev goes : ℕ → Spot → ℕ → Point
goes owner site to = point Plain owner site (edges_to (to ∷ [])) []

abbrev acts : ℕ → Spot → Op → ActName → ℕ → Point
acts owner site op act to = point (Act op act) owner site (edges_to (to ∷ [])) []

abbrev calls : ℕ → Spot → ℕ → ℕ → Point
calls owner site target to = point (Call 0) owner site (edges_to (to ∷ [])) (function target ∷ [])

abbrev exit : ℕ → Spot → Point
exit owner site = point Exit owner site [] []

abbrev kernel : ℕ → ActName
kernel row = name.Kernel (record { 0 = row })

abbrev ends : ℕ → ℕ → FunctionPart
ends first last = record { first = record { 0 = first }; exit = record { 0 = last } }

abbrev main_root : ℕ → Root
main_root n = record { entry = entry.Main; function = function n; start = TI }

abbrev names : List (List ℕ) → Names
names functions = record { functions = functions; outside = [] }

abbrev part : ℕ → List Step → PlainSegment
part n steps = record { function = function n; steps = steps }

abbrev e0 : Step
e0 = way.Edge 0

abbrev e1 : Step
e1 = way.Edge 1

abbrev enter : ℕ → Step
enter n = way.Enter (function n)

abbrev call : ℕ → ℕ → Step
call n k = way.Call (function n) k

abbrev path : ℕ → Kind → ℕ → List PlainSegment → PathToAlarm
path at kind root list =
    record { at = record { point = record { 0 = at }; kind = kind }; path = record { root = root; list = list } }

abbrev text : List (List ℕ) → List ℕ
text lines = flat_map line lines

-- ---- A double lock

double_lock : Flow
double_lock = record {
  points =
      goes 0 (spot 3 5) 1 ∷ acts 0 (spot 4 3) Init (kernel 0) 2 ∷ acts 0 (spot 5 3) Lock (kernel 4) 3 ∷
      acts 0 (spot 6 3) Lock (kernel 4) 4 ∷ exit 0 (spot 3 5) ∷
      calls 1 (spot 3 5) 0 6 ∷ exit 1 (spot 3 5) ∷ [];
  functions = ends 0 4 ∷ ends 5 6 ∷ [];
}

locked_twice : report_text double_lock (main_root 1 ∷ []) (names (codes "main" ∷ codes "[main]" ∷ []))
    (place (codes "main.i"))
    (rejected (path 3 (Sv 4) 0 (part 1 (enter 0 ∷ []) ∷ part 0 (e0 ∷ e0 ∷ e0 ∷ []) ∷ []) ∷ []))
    ≡ text (codes "rtcheck 1" ∷ codes "rejected 1" ∷ codes "alarm 1 SV#4 main.i:6:3 chSysLock" ∷ codes "entry main" ∷
    codes "segment 1 [main]" ∷ codes "  enter main.i:3:5 main" ∷ codes "segment 2 main" ∷
    codes "  act main.i:4:3 chSysInit" ∷ codes "  act main.i:5:3 chSysLock" ∷ codes "  alarm" ∷ [])
unfolding double_lock point_at function_at kernel_table digits
locked_twice = refl

-- ---- A lock in one branch

one_branch : Flow
one_branch = record {
  points =
      goes 0 (spot 2 5) 1 ∷ acts 0 (spot 3 3) Init (kernel 0) 2 ∷
      point Plain 0 (spot 4 7) (edge 3 label.True ∷ edge 4 label.False ∷ []) [] ∷
      acts 0 (spot 4 10) Lock (kernel 4) 4 ∷ acts 0 (spot 5 3) Unlock (kernel 5) 5 ∷ exit 0 (spot 2 5) ∷
      calls 1 (spot 2 5) 0 7 ∷ exit 1 (spot 2 5) ∷ [];
  functions = ends 0 5 ∷ ends 6 7 ∷ [];
}

past_the_lock : report_text one_branch (main_root 1 ∷ []) (names (codes "main" ∷ codes "[main]" ∷ []))
    (place (codes "main.c"))
    (rejected (path 4 (Sv 5) 0 (part 1 (enter 0 ∷ []) ∷ part 0 (e0 ∷ e0 ∷ e1 ∷ []) ∷ []) ∷ []))
    ≡ text (codes "rtcheck 1" ∷ codes "rejected 1" ∷ codes "alarm 1 SV#5 main.c:5:3 chSysUnlock" ∷ codes "entry main" ∷
    codes "segment 1 [main]" ∷ codes "  enter main.c:2:5 main" ∷ codes "segment 2 main" ∷
    codes "  act main.c:3:3 chSysInit" ∷ codes "  choose main.c:4:7 false" ∷ codes "  alarm" ∷ [])
unfolding one_branch point_at function_at kernel_table digits
past_the_lock = refl

-- ---- A return before the epilogue

early_return : Flow
early_return = record {
  points =
      goes 0 (spot 2 6) 1 ∷ acts 0 (spot 3 3) Prologue (kernel 8) 2 ∷
      point Plain 0 (spot 4 7) (edge 3 label.True ∷ edge 4 label.False ∷ []) [] ∷ goes 0 (spot 4 10) 5 ∷
      acts 0 (spot 5 3) Epilogue (kernel 9) 5 ∷ exit 0 (spot 2 6) ∷
      exit 1 (spot 7 5) ∷ exit 2 (spot 7 5) ∷
      calls 3 (spot 2 6) 0 9 ∷ acts 3 (spot 2 6) HandlerReturn name.Return 10 ∷ exit 3 (spot 2 6) ∷ [];
  functions = ends 0 5 ∷ ends 6 6 ∷ ends 7 7 ∷ ends 8 10 ∷ [];
}

returned_early : report_text early_return
    (main_root 2 ∷ record { entry = entry.Vector 0; function = function 3; start = HB } ∷ [])
    (names (codes "Vector40" ∷ codes "main" ∷ codes "[main]" ∷ codes "[vector Vector40]" ∷ [])) (place (codes "main.c"))
    (rejected (path 9 (P 3) 1 (part 0 (e0 ∷ e0 ∷ e0 ∷ e0 ∷ []) ∷ part 3 (call 0 0 ∷ []) ∷ []) ∷ []))
    ≡ text (codes "rtcheck 1" ∷ codes "rejected 1" ∷ codes "alarm 1 P#3 main.c:2:6 return" ∷
    codes "entry vector Vector40" ∷ codes "segment 1 Vector40" ∷ codes "  act main.c:3:3 CH_IRQ_PROLOGUE" ∷
    codes "  choose main.c:4:7 true" ∷ codes "  return" ∷ codes "segment 2 [vector Vector40]" ∷
    codes "  call main.c:2:6 Vector40 1" ∷ codes "  alarm" ∷ [])
unfolding early_return point_at function_at kernel_table digits
returned_early = refl

-- ---- A sleep in a timer callback

timer : Flow
timer = record {
  points =
      goes 0 (spot 2 6) 1 ∷ acts 0 (spot 3 3) Normal (kernel 19) 2 ∷ exit 0 (spot 2 6) ∷
      exit 1 (spot 5 5) ∷ exit 2 (spot 5 5) ∷
      acts 3 Nowhere Prologue (kernel 8) 6 ∷ acts 3 Nowhere LockIsr (kernel 6) 7 ∷
      point Plain 3 Nowhere (edge 11 (label.Pick 0) ∷ edge 8 (label.Pick 1) ∷ []) [] ∷
      acts 3 Nowhere UnlockIsr (kernel 7) 9 ∷ calls 3 Nowhere 0 10 ∷ acts 3 Nowhere LockIsr (kernel 6) 7 ∷
      acts 3 Nowhere UnlockIsr (kernel 7) 12 ∷ acts 3 Nowhere Epilogue (kernel 9) 13 ∷
      acts 3 Nowhere HandlerReturn name.Return 14 ∷ exit 3 Nowhere ∷ [];
  functions = ends 0 2 ∷ ends 3 3 ∷ ends 4 4 ∷ ends 5 14 ∷ [];
}

slept : report_text timer (main_root 2 ∷ record { entry = entry.Timer; function = function 3; start = HB } ∷ [])
    (names (codes "tick" ∷ codes "main" ∷ codes "[main]" ∷ codes "[timer]" ∷ [])) (place (codes "main.c"))
    (rejected (path 1 (Sv 4) 1 (part 3 (e0 ∷ e0 ∷ e1 ∷ e0 ∷ enter 0 ∷ []) ∷ part 0 (e0 ∷ []) ∷ []) ∷ []))
    ≡ text (codes "rtcheck 1" ∷ codes "rejected 1" ∷ codes "alarm 1 SV#4 main.c:3:3 chThdSleep" ∷
    codes "entry timer" ∷ codes "segment 1 [timer]" ∷ codes "  act - CH_IRQ_PROLOGUE" ∷
    codes "  act - chSysLockFromISR" ∷ codes "  choose - 1" ∷ codes "  act - chSysUnlockFromISR" ∷
    codes "  enter - tick" ∷ codes "segment 2 tick" ∷ codes "  alarm" ∷ [])
unfolding timer point_at function_at kernel_table digits
slept = refl

-- ---- An order of operands

two_orders : Flow
two_orders = record {
  points =
      goes 0 (spot 1 5) 1 ∷ acts 0 (spot 1 15) Lock (kernel 4) 2 ∷ exit 0 (spot 1 5) ∷
      goes 1 (spot 2 5) 4 ∷ acts 1 (spot 2 15) Unlock (kernel 5) 5 ∷ exit 1 (spot 2 5) ∷
      goes 2 (spot 3 5) 7 ∷ acts 2 (spot 4 3) Init (kernel 0) 8 ∷ goes 2 (spot 5 3) 9 ∷
      point Plain 2 (spot 5 10) (edge 10 (label.Order 1) ∷ edge 12 (label.Order 2) ∷ []) [] ∷
      calls 2 (spot 5 10) 0 11 ∷ calls 2 (spot 5 16) 1 14 ∷
      calls 2 (spot 5 16) 1 13 ∷ calls 2 (spot 5 10) 0 14 ∷ exit 2 (spot 3 5) ∷
      calls 3 (spot 3 5) 2 16 ∷ exit 3 (spot 3 5) ∷ [];
  functions = ends 0 2 ∷ ends 3 5 ∷ ends 6 14 ∷ ends 15 16 ∷ [];
}

second_order : report_text two_orders (main_root 3 ∷ [])
    (names (codes "f" ∷ codes "g" ∷ codes "main" ∷ codes "[main]" ∷ [])) (place (codes "main.c"))
    (rejected (path 4 (Sv 5) 0
    (part 3 (enter 2 ∷ []) ∷ part 2 (e0 ∷ e0 ∷ e0 ∷ e1 ∷ enter 1 ∷ []) ∷ part 1 (e0 ∷ []) ∷ []) ∷ []))
    ≡ text (codes "rtcheck 1" ∷ codes "rejected 1" ∷ codes "alarm 1 SV#5 main.c:2:15 chSysUnlock" ∷
    codes "entry main" ∷ codes "segment 1 [main]" ∷ codes "  enter main.c:3:5 main" ∷ codes "segment 2 main" ∷
    codes "  act main.c:4:3 chSysInit" ∷ codes "  choose main.c:5:10 order 2" ∷ codes "  enter main.c:5:16 g" ∷
    codes "segment 3 g" ∷ codes "  alarm" ∷ [])
unfolding two_orders point_at function_at kernel_table digits
second_order = refl

-- ---- A status pair left open

open_pair : Flow
open_pair = record {
  points =
      goes 0 (spot 2 6) 1 ∷ acts 0 (spot 2 6) PairEnter name.Entry 2 ∷ acts 0 (spot 3 16) GetStatus (kernel 134) 3 ∷
      point Plain 0 (spot 4 7) (edge 4 label.True ∷ edge 5 label.False ∷ []) [] ∷ goes 0 (spot 4 10) 6 ∷
      acts 0 (spot 5 3) RestoreStatus (kernel 135) 6 ∷ acts 0 (spot 2 6) PairLeft name.Return 7 ∷ exit 0 (spot 2 6) ∷
      goes 1 (spot 7 5) 9 ∷ acts 1 (spot 7 18) Init (kernel 0) 10 ∷ calls 1 (spot 7 31) 0 11 ∷ exit 1 (spot 7 5) ∷
      calls 2 (spot 7 5) 1 13 ∷ exit 2 (spot 7 5) ∷ [];
  functions = ends 0 7 ∷ ends 8 11 ∷ ends 12 13 ∷ [];
}

left_open : report_text open_pair (main_root 2 ∷ []) (names (codes "bump" ∷ codes "main" ∷ codes "[main]" ∷ []))
    (place (codes "main.c"))
    (rejected (path 6 (P 8) 0 (part 2 (enter 1 ∷ []) ∷ part 1 (e0 ∷ e0 ∷ enter 0 ∷ []) ∷
    part 0 (e0 ∷ e0 ∷ e0 ∷ e0 ∷ e0 ∷ []) ∷ []) ∷ []))
    ≡ text (codes "rtcheck 1" ∷ codes "rejected 1" ∷ codes "alarm 1 P#8 main.c:2:6 return" ∷
    codes "entry main" ∷ codes "segment 1 [main]" ∷ codes "  enter main.c:7:5 main" ∷ codes "segment 2 main" ∷
    codes "  act main.c:7:18 chSysInit" ∷ codes "  enter main.c:7:31 bump" ∷ codes "segment 3 bump" ∷
    codes "  act main.c:3:16 chSysGetStatusAndLockX" ∷ codes "  choose main.c:4:7 true" ∷ codes "  alarm" ∷ [])
unfolding open_pair point_at function_at kernel_table digits
left_open = refl

-- ---- Nothing to alarm, refusals, settings

accepted_project : report_text double_lock (main_root 1 ∷ []) (names []) (place (codes "main.c"))
    (accepted (record { files = 1; functions = 6; entries = 5 }))
    ≡ text (codes "rtcheck 1" ∷ codes "accepted" ∷ codes "files 1 functions 6 entries 5" ∷ [])
unfolding digits
accepted_project = refl

reserved_word : refusal_text U5 (codes "main.c:7:1")
    ≡ text (codes "rtcheck 1" ∷ codes "unsupported U5 main.c:7:1 reserved word outside the subset" ∷ [])
unfolding digits
reserved_word = refl

no_main : refusal_text U23 (codes "-")
    ≡ text (codes "rtcheck 1" ∷ codes "unsupported U23 - main absent or of another type" ∷ [])
unfolding digits
no_main = refl

big_file : refusal_text U25 (codes "big.i") ≡ text (codes "rtcheck 1" ∷ codes "unsupported U25 big.i too large" ∷ [])
unfolding digits
big_file = refl

no_settings : settings_text (codes "rtcheck.toml") Absent
    ≡ text (codes "rtcheck 1" ∷ codes "settings rtcheck.toml absent" ∷ [])
no_settings = refl

said_twice : settings_text (codes "vector[2].function") Repeated
    ≡ text (codes "rtcheck 1" ∷ codes "settings vector[2].function repeated" ∷ [])
said_twice = refl

names_nothing : settings_text (codes "vector[1].function") NoSuchName
    ≡ text (codes "rtcheck 1" ∷ codes "settings vector[1].function no such name" ∷ [])
names_nothing = refl
