-- Laws about segments.
use Rattle.std.specs.Prelude.{◌≡◌, ℕ, List, ◌∷◌, Some, slice_get}
use Rattle.ck_base.specs.declared.spans.FnId.{FnId}
use Rattle.ck_base.specs.declared.states.State.{State}
use Rattle.ck_graph.specs.declared.entries.Root.{Root}
use Rattle.ck_graph.specs.Flow.{Flow}
use Rattle.ck_graph.specs.Faults.{IsSound}
use Rattle.ck_graph.specs.Walk.{Frame, Configuration, TakeEdge, EnterTarget, moved, walk}
use Rattle.ck_graph.specs.Steps.{kind_at}
use Rattle.ck_graph.specs.MatchedPath.{running}
use Rattle.ck_segments.specs.declared.segments.Step.TheVariants.{Edge, Enter}
use Rattle.ck_segments.specs.Follows.{Follows}
use Rattle.ck_segments.specs.Plain.{PlainSegment}
use Rattle.ck_segments.specs.Expansion.{expand}
use Rattle.ck_segments.specs.Form.{AreInForm, IsPathTo}
use Rattle.ck_segments.specs.Runs.{StateLeads, Fit}

-- the moves are a walk from the root to this point and state
pub record WalksTo (flow : Flow) (root : Root) (list : List PlainSegment) (point : ℕ) (state : State) : Type 0 where
  pub configuration : Configuration
  pub walked : walk flow root (expand list) ≡ Some configuration
  pub point_is : configuration.top.point ≡ point
  pub state_is : configuration.state ≡ state

-- segments in form whose steps fit the states expand to a walk from the root
abbrev pub PathsAreWalks : Type 0
PathsAreWalks =
    (flow : Flow) → IsSound flow → (root : Root) (list : List PlainSegment) (form : AreInForm flow list)
    (point : ℕ) (state : State) → Fit flow root form.finished form.unfinished point state →
    WalksTo flow root list point state

-- what `Follows` says is what moves of walks do, apart from the states. Each move along an edge and into a function
-- follows, and what follows is a move from each state that the point's kind allows
pub record MovesFollow (flow : Flow) : Type 0 where
  pub along_edge :
      (c d : Configuration) (k : ℕ) → moved flow c (TakeEdge k) ≡ Some d → Follows flow c.top.point (Edge k) d.top.point
  pub into_call :
      (c d : Configuration) (target : FnId) → moved flow c (EnterTarget target.0) ≡ Some d →
      Follows flow c.top.point (Enter target) d.top.point
  pub edge_taken :
      (p k q : ℕ) (i j entered : State) (below : List Frame) → Follows flow p (Edge k) q →
      StateLeads (kind_at flow p) i j →
      moved flow (running p entered below i) (TakeEdge k) ≡ Some (running q entered below j)
  pub call_entered :
      (p q : ℕ) (target : FnId) (i entered : State) (below : List Frame) → Follows flow p (Enter target) q →
      moved flow (running p entered below i) (EnterTarget target.0) ≡
      Some (running q i (record { point = p; entered = entered } ∷ below) i)

-- each of segments in form is a path of its function
abbrev pub SegmentsLead : Type 0
SegmentsLead =
    (flow : Flow) (list : List PlainSegment) → AreInForm flow list →
    (n : ℕ) (segment : PlainSegment) → slice_get list n ≡ Some segment → (to : ℕ) × IsPathTo flow segment to
