-- How it is stated what reaches what in a project. A fact is a line with a function and a holder: a slot by the name
-- that declares it first, or `[thread]` or `[timer]`. Each fact follows from those above it. Then comes a line for each
-- call through an expression, by function and path, with its targets by their numbers. For worked texts alone.
use Rattle.std.proofs.Common.{◌≡◌}
use Rattle.std.specs.List.{list_any}
use Rattle.std.specs.Prelude.{ℕ, suc, Bool, true, ◌&&◌, List, [], ◌∷◌, ◌++◌, codes, filter, find}
use Rattle.std.specs.Prelude.{length, map, not}
use Rattle.std.specs.Prelude.{position, reverse, Option, Some, None, if◌then◌else◌}
use Rattle.std.specs.Str.{bytes_eq}
use Rattle.ck_grammar.specs.Words.{words}
use Rattle.ck_prog.specs.Calls.{CallSite}
use Rattle.ck_prog.specs.Declarations.{Entry}
use Rattle.ck_prog.specs.Projects.{same_token}
use Rattle.ck_prog.specs.Slots.{Slot, slots}
use Rattle.ck_prog.specs.TypedBodies.{TypedFunction}
use Rattle.ck_prog.specs.TypedFiles.{ReadFile, declarations, typed_files}
use Rattle.ck_prog.proofs.ProjectTexts.{Accepted, File, read_from}
use Rattle.ck_slots.specs.Givens.{TypedProject, calls_through, functions}
use Rattle.ck_slots.specs.Holders.{Holder, InSlot, ThreadSink, TimerSink}
use Rattle.ck_slots.specs.Listed.{Reached, is_among, is_closed, is_justified, targets_of_call}
use Prim.Native.String.{String}

-- projects -----------------------------------------------------------------------------------------------------------

abbrev of_read : List ReadFile → TypedProject
of_read fs = record { all = declarations fs; files = typed_files fs }

abbrev of_files : Option (List ReadFile) → TypedProject
of_files None = record { all = []; files = [] }
of_files (Some fs) = of_read fs

-- facts --------------------------------------------------------------------------------------------------------------

abbrev is_function_named : List ℕ → TypedFunction → Bool
is_function_named name f = bytes_eq f.declared.entry.name name

abbrev declares_slot : List Slot → List ℕ → Entry → Bool
declares_slot all name e = bytes_eq e.name name && list_any (λ s. same_token s.at e.at) all

abbrev slot_named : Option Entry → Option Holder
slot_named None = None
slot_named (Some e) = Some (InSlot e.at.span.file e.at.span.start)

abbrev holder_named : TypedProject → List ℕ → Option Holder
holder_named p name =
    if bytes_eq name (codes "[thread]") then Some ThreadSink
    else if bytes_eq name (codes "[timer]") then Some TimerSink
    else slot_named (find (declares_slot (slots p.all) name) p.all)

-- a name that nothing has spoils the list
abbrev stated : Option ℕ → Option Holder → List Reached
stated (Some n) (Some h) = record { function = n; holder = h } ∷ []
stated _ _ = []

abbrev fact : TypedProject → List (List ℕ) → List Reached
fact p (function ∷ holder ∷ []) = stated (position (is_function_named function) (functions p)) (holder_named p holder)
fact p _ = []

abbrev facts_of : TypedProject → List String → List Reached
facts_of p [] = []
facts_of p (line ∷ lines) = fact p (words line) ++ facts_of p lines

-- targets ------------------------------------------------------------------------------------------------------------

abbrev names_from : ℕ → List ℕ → List TypedFunction → List (List ℕ)
names_from k ns [] = []
names_from k ns (f ∷ fs) =
    if is_among k ns then f.declared.entry.name ∷ names_from (suc k) ns fs else names_from (suc k) ns fs

abbrev target_names : TypedProject → List Reached → CallSite → List (List ℕ)
target_names p known c = names_from 0 (targets_of_call p known c) (functions p)

-- statements ---------------------------------------------------------------------------------------------------------

pub record Answer : Type 0 where
  pub facts : ℕ
  pub justified : Bool
  pub closed : Bool
  pub targets : List (List (List ℕ))

abbrev answer_by : TypedProject → List Reached → Answer
answer_by p known =
    record {
      facts = length known;
      justified = is_justified p known;
      closed = is_closed p known;
      targets = map (target_names p known) (calls_through p);
    }

abbrev answer_of : TypedProject → List String → Answer
answer_of p facts = answer_by p (reverse (facts_of p facts))

abbrev pub answer : List File → List String → Answer
answer files facts = answer_of (of_files (read_from 0 files)) facts

-- a line without words names nothing
abbrev named : String → List (List ℕ)
named line = filter (λ name. not (bytes_eq name [])) (words line)

-- these facts are justified and closed, and these are the targets of the calls
abbrev pub Reach : List File → List String → List String → Type 0
Reach files facts targets =
    answer files facts
    ≡ record { facts = length facts; justified = true; closed = true; targets = map named targets }

-- so in a project that is accepted
abbrev pub Work : List File → List String → List String → Type 0
Work files facts targets = Accepted files × Reach files facts targets
