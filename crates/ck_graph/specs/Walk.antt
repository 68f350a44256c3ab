-- Walks: what one context may do, one move after the other. A configuration has a stack of frames of any depth, so a
-- function that returns always goes back to the call that it came from.
use Rattle.std.specs.Prelude.{◌≡◌, ◌==◌, ℕ, zero, Bool, true, false, if◌then◌else◌, List, [], ◌∷◌, Option, Some, None}
use Rattle.std.specs.Prelude.{option_map, option_and_then, slice_get, Contains}
use Rattle.ck_base.specs.declared.spans.FnId.{FnId}
use Rattle.ck_base.specs.declared.states.State.{State}
use Rattle.ck_base.specs.Act.{act, next_state}
use Rattle.ck_graph.specs.declared.points.Edge.{Edge}
use Rattle.ck_graph.specs.declared.points.PointKind.{PointKind}
use Rattle.ck_graph.specs.declared.points.PointKind.TheVariants.{Plain, Act, Call, Exit}
use Rattle.ck_graph.specs.declared.entries.Root.{Root}
use Rattle.ck_graph.specs.Flow.{Flow, point_at, function_at}

-- a call of a function that hasn't returned: the point where it is, and the state in which it was entered
pub record Frame : Type 0 where
  pub point : ℕ
  pub entered : State

-- where a context is: the frame of the function that runs, those of its callers from the nearest on, and the state
pub record Configuration : Type 0 where
  pub top : Frame
  pub below : List Frame
  pub state : State

pub data Move : Type 0 where
  TakeEdge : ℕ → Move
  EnterTarget : ℕ → Move
  ReturnToCaller : Move

-- a frame goes along an edge
abbrev pub frame_along : Frame → Edge → Frame
frame_along frame edge = record { point = edge.to.0; entered = frame.entered }

-- the running function goes along an edge, into a state
abbrev pub along : Configuration → State → Edge → Configuration
along c state edge = record { top = frame_along c.top edge; below = c.below; state = state }

-- a function is entered, in the state that there is
abbrev pub entered : Flow → Configuration → ℕ → Configuration
entered flow c target = record {
  top = record { point = (function_at flow target).first.0; entered = c.state };
  below = c.top ∷ c.below;
  state = c.state;
}

-- the caller goes along the edge of its call, in the state that there is
abbrev pub returned : State → Frame → List Frame → Edge → Configuration
returned state caller below edge = record { top = frame_along caller edge; below = below; state = state }

-- a function of this number is among the targets
abbrev pub names_target : List FnId → ℕ → Bool
names_target [] target = false
names_target (f ∷ targets) target = if f.0 == target then true else names_target targets target

-- the configuration after a move, at a point of a kind: at a plain point any edge is taken; at an act its edge, where
-- the op is allowed, into the state that the table gives; at a call one of its targets is entered; at an exit the
-- caller below goes on; and no other move is possible
abbrev pub moved_at : Flow → PointKind → Configuration → Move → Option Configuration
moved_at flow Plain c (TakeEdge k) =
    option_map (along c c.state) (slice_get (point_at flow c.top.point).edges k)
moved_at flow (Act op name) c (TakeEdge zero) =
    option_and_then
    (λ next. option_map (along c next) (slice_get (point_at flow c.top.point).edges 0))
    (next_state (act op c.state))
moved_at flow (Call call) c (EnterTarget target) =
    if names_target (point_at flow c.top.point).targets target then Some (entered flow c target) else None
moved_at flow Exit c ReturnToCaller = to_caller flow c.state c.below where
  to_caller : Flow → State → List Frame → Option Configuration
  to_caller flow state [] = None
  to_caller flow state (caller ∷ below) =
      option_map (returned state caller below) (slice_get (point_at flow caller.point).edges 0)
moved_at flow _ c _ = None

-- the configuration after a move, where the move is possible
abbrev pub moved : Flow → Configuration → Move → Option Configuration
moved flow c move = moved_at flow (point_at flow c.top.point).kind c move

-- the configuration after these moves from another, where they are possible
abbrev pub walked : Flow → Configuration → List Move → Option Configuration
walked flow c [] = Some c
walked flow c (move ∷ moves) = option_and_then (λ next. walked flow next moves) (moved flow c move)

-- a root's function is entered in the root's state
abbrev pub start : Flow → Root → Configuration
start flow root = record {
  top = record { point = (function_at flow root.function.0).first.0; entered = root.start };
  below = [];
  state = root.start;
}

-- the configuration after these moves from a root, where they are possible
abbrev pub walk : Flow → Root → List Move → Option Configuration
walk flow root moves = walked flow (start flow root) moves

-- a walk from one of the roots reaches a configuration
pub record Reaches (flow : Flow) (roots : List Root) (c : Configuration) : Type 0 where
  pub root : Root
  pub listed : Contains roots root
  pub moves : List Move
  pub walked : walk flow root moves ≡ Some c
