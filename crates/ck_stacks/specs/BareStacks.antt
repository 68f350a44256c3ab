-- Bare stacks, the widest C side that there is. A context is its root, the points of its frames and the status of its
-- last chSysGetStatusAndLockX; there is no data. The choices of an event say which of the moves of a walk is made, and
-- what an act asks of the kernel, whatever the call is: nothing, a thread of any root with any priority, or a priority.
use Rattle.std.specs.Prelude.{ℕ, zero, suc, Bool, true, false, if◌then◌else◌, nat_lt, List, [], ◌∷◌, map, Option, Some}
use Rattle.std.specs.Prelude.{None, option_map, slice_get}
use Rattle.std.specs.Option.{unwrap_or}
use Rattle.ck_base.specs.declared.ops.Op.TheVariants.{RestoreStatus}
use Rattle.ck_graph.specs.declared.points.Edge.{Edge}
use Rattle.ck_graph.specs.declared.points.PointKind.{PointKind}
use Rattle.ck_graph.specs.declared.points.PointKind.TheVariants.{Plain, Act, Call, Exit}
use Rattle.ck_graph.specs.declared.entries.Entry.{Entry}
use Rattle.ck_graph.specs.declared.entries.Entry.TheVariants.{Main, Thread}
use Rattle.ck_graph.specs.declared.entries.Root.{Root}
use Rattle.ck_graph.specs.Flow.{Flow, point_at}
use Rattle.ck_graph.specs.Walk.{Frame, Configuration, names_target, start}
use Rattle.ck_graph.specs.Steps.{first_of}
use Rattle.ck_sound.specs.declared.stops.Undefined.TheVariants.{WrongCall, Uninitialised}
use Rattle.ck_sound.specs.declared.kernel.Source.{Source}
use Rattle.ck_sound.specs.Choices.{first, later, odd}
use Rattle.ck_sound.specs.Kernel.{Nothing, Creates, SetsPriority, Restores}
use Rattle.ck_sound.specs.Side.{Side, Handler, Place, AtAct, AtEnd, Between, MovesTo, Asked, Asks, AskFails}

-- the root where the context began; the points of its frames, the top one apart; and the status that its last
-- chSysGetStatusAndLockX gave, if any
pub record Stack : Type 0 where
  pub root : Root
  pub top : ℕ
  pub below : List ℕ
  pub status : Option Bool

pub record NoMemory : Type 0 where

abbrev pub point_of : Frame → ℕ
point_of frame = frame.point

-- the stack of a configuration of a walk from a root, with this status
abbrev pub stack_of : Root → Option Bool → Configuration → Stack
stack_of root status c = record {
  root = root;
  top = c.top.point;
  below = map point_of c.below;
  status = status;
}

-- the stack of a context that starts at a root
abbrev pub start_of : Flow → Root → Stack
start_of flow root = stack_of root None (start flow root)

-- where a stack is
abbrev pub place_by : PointKind → List ℕ → Place
place_by (Act op name) below = AtAct op
place_by Exit [] = AtEnd
place_by _ below = Between

abbrev pub place_of : Flow → Stack → Place
place_of flow stack = place_by (point_at flow stack.top).kind stack.below

-- the top frame goes along an edge
abbrev pub along : Stack → Edge → Stack
along stack edge = record stack { top = edge.to.0 }

-- a function is entered
abbrev pub entered : Flow → Stack → ℕ → Stack
entered flow stack target = record stack { top = first_of flow target; below = stack.top ∷ stack.below }

-- the top frame goes away, and its caller goes along the edge of its call
abbrev pub returned : Flow → Stack → List ℕ → Option Stack
returned flow stack [] = None
returned flow stack (caller ∷ below) =
    option_map (along (record stack { top = caller; below = below }))
    (slice_get (point_at flow caller).edges 0)

-- the stack after the move of a walk that a choice names: an edge by its place, a target by its number
abbrev pub moved_by : Flow → PointKind → Stack → ℕ → Option Stack
moved_by flow Plain stack choice = option_map (along stack) (slice_get (point_at flow stack.top).edges choice)
moved_by flow (Call call) stack choice =
    if names_target (point_at flow stack.top).targets choice then Some (entered flow stack choice) else None
moved_by flow Exit stack choice = returned flow stack stack.below
moved_by flow (Act op name) stack choice = None

-- where the choice names no move, the stack stays
abbrev pub moved_of : Flow → Stack → ℕ → Stack
moved_of flow stack choice = unwrap_or (moved_by flow (point_at flow stack.top).kind stack choice) stack

-- the act's edge is taken
abbrev pub finished_of : Flow → Stack → Stack
finished_of flow stack = unwrap_or (option_map (along stack) (slice_get (point_at flow stack.top).edges 0)) stack

abbrev pub is_thread_entry : Entry → Bool
is_thread_entry (Thread f) = true
is_thread_entry _ = false

-- a thread with this stack, the first choice its priority, the second whether it is suspended
abbrev pub creates_by : Bool → Stack → List ℕ → Asked Stack
creates_by true stack choices =
    Asks (Creates stack (first choices) (odd (first (later choices)))) (later (later choices))
creates_by false stack choices = AskFails WrongCall

-- a thread of a root, where it is a thread's
abbrev pub creates : Flow → Option Root → List ℕ → Asked Stack
creates flow None choices = AskFails WrongCall
creates flow (Some root) choices = creates_by (is_thread_entry root.entry) (start_of flow root) choices

-- nothing, a thread of the root that the next choice names, or the next choice as a priority
abbrev pub any_request : Flow → List Root → ℕ → List ℕ → Asked Stack
any_request flow roots zero choices = Asks Nothing choices
any_request flow roots (suc zero) choices = creates flow (slice_get roots (first choices)) (later choices)
any_request flow roots (suc (suc n)) choices = Asks (SetsPriority (first choices)) (later choices)

-- chSysRestoreStatusX is given the kept status; where there is none, it is a pointer or a number without a value
abbrev pub restores : Option Bool → List ℕ → Asked Stack
restores None choices = AskFails Uninitialised
restores (Some locked) choices = Asks (Restores locked) choices

abbrev pub asked_at : Flow → List Root → Place → Option Bool → List ℕ → Asked Stack
asked_at flow roots (AtAct RestoreStatus) status choices = restores status choices
asked_at flow roots _ status choices = any_request flow roots (first choices) (later choices)

-- what the settings say of priority numbers: the kernel's, and that of each root
pub record Numbers : Type 0 where
  pub kernel_priority : ℕ
  pub priority : ℕ → ℕ

abbrev pub is_handler_entry : Entry → Bool
is_handler_entry Main = false
is_handler_entry (Thread f) = false
is_handler_entry _ = true

-- a root is fast where its number is below the kernel's
abbrev pub is_fast_root : Numbers → ℕ → Bool
is_fast_root numbers number = nat_lt (numbers.priority number) numbers.kernel_priority

abbrev pub source_of : Numbers → ℕ → Source
source_of numbers number = record { fast = is_fast_root numbers number; priority = numbers.priority number }

-- the handler of a root, where it is one
abbrev pub handler_by : Bool → Flow → Numbers → ℕ → Root → Option (Handler Stack)
handler_by true flow numbers number root =
    Some (record { source = source_of numbers number; stack = start_of flow root })
handler_by false flow numbers number root = None

abbrev pub handler_of : Flow → Numbers → ℕ → Option Root → Option (Handler Stack)
handler_of flow numbers number None = None
handler_of flow numbers number (Some root) = handler_by (is_handler_entry root.entry) flow numbers number root

abbrev pub bare_stacks : Flow → List Root → Numbers → Side NoMemory Stack
bare_stacks flow roots numbers = record {
  place = place_of flow;
  moved = λ m stack choices. MovesTo m (moved_of flow stack (first choices));
  asked = λ m stack choices. asked_at flow roots (place_of flow stack) stack.status choices;
  finished = λ m stack choices. (m, finished_of flow stack);
  handler = λ number. handler_of flow numbers number (slice_get roots number);
  keeps = λ stack locked. record stack { status = Some locked };
}
