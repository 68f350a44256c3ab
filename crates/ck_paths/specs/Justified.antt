-- What a reason says: how a walk comes to a place from earlier places. It serves private contracts alone.
use Rattle.std.specs.Prelude.{◌≡◌, ◌<◌, ℕ, List, [], Some, slice_get}
use Rattle.ck_graph.specs.declared.entries.Root.{Root}
use Rattle.ck_graph.specs.Flow.{Flow, point_at}
use Rattle.ck_graph.specs.Steps.{first_of, exit_of, MayEnter}
use Rattle.ck_segments.specs.declared.segments.Step.TheVariants.{Edge}
use Rattle.ck_segments.specs.Follows.{EdgeLeads}
use Rattle.ck_segments.specs.Runs.{StepRuns}
use Rattle.ck_paths.specs.declared.found.Place.{Place}
use Rattle.ck_paths.specs.declared.found.Reason.{Reason}
use Rattle.ck_paths.specs.declared.found.Reason.TheVariants.{AtRoot, ByEdge, IntoCall, OverCall}
use Rattle.ck_paths.specs.Found.{IsAt}

-- the function that a place is in
abbrev pub function_of : Flow → Place → ℕ
function_of flow place = (point_at flow place.point.0).function.0

-- a place is where its function is entered
pub record IsEntry (flow : Flow) (place : Place) : Type 0 where
  pub first : first_of flow (function_of flow place) ≡ place.point.0
  pub state : place.from ≡ place.to

-- two places are in one call
pub record AreInOneCall (flow : Flow) (a b : Place) : Type 0 where
  pub entered : a.from ≡ b.from
  pub function : function_of flow a ≡ function_of flow b

-- the root of this number enters its function at a place
pub record StartsAt (flow : Flow) (roots : List Root) (k : ℕ) (place : Place) : Type 0 where
  pub root : Root
  pub listed : slice_get roots k ≡ Some root
  pub function : function_of flow place ≡ root.function.0
  pub start : place.from ≡ root.start
  pub entry : IsEntry flow place

-- an earlier place goes along its edge of this number
pub record GoesAlong (flow : Flow) (places : List Place) (n b k : ℕ) (place : Place) : Type 0 where
  pub before : Place
  pub at : IsAt places b before
  pub earlier : b < n
  pub one_call : AreInOneCall flow before place
  pub runs : StepRuns flow [] before.point.0 before.to (Edge k) place.point.0 place.to

-- a call at an earlier place enters the function that starts here
pub record Enters (flow : Flow) (places : List Place) (n c : ℕ) (place : Place) : Type 0 where
  pub caller : Place
  pub at : IsAt places c caller
  pub earlier : c < n
  pub enters : MayEnter flow caller.point.0 (function_of flow place)
  pub state : caller.to ≡ place.from
  pub entry : IsEntry flow place

-- a function is entered at an earlier place, and returns here from its exit, which is an earlier place too
pub record Returns (flow : Flow) (places : List Place) (n c x : ℕ) (place : Place) : Type 0 where
  pub caller : Place
  pub caller_at : IsAt places c caller
  pub caller_earlier : c < n
  pub exit : Place
  pub exit_at : IsAt places x exit
  pub exit_earlier : x < n
  pub one_call : AreInOneCall flow caller place
  pub enters : MayEnter flow caller.point.0 (function_of flow exit)
  pub leads : EdgeLeads flow caller.point.0 0 place.point.0
  pub is_exit : exit.point.0 ≡ exit_of flow (function_of flow exit)
  pub goes_in : caller.to ≡ exit.from
  pub comes_out : exit.to ≡ place.to

-- a reason holds of the place of this number
abbrev pub Holds : Flow → List Root → List Place → ℕ → Place → Reason → Type 0
Holds flow roots places n place (AtRoot k) = StartsAt flow roots k place
Holds flow roots places n place (ByEdge b k) = GoesAlong flow places n b k place
Holds flow roots places n place (IntoCall c) = Enters flow places n c place
Holds flow roots places n place (OverCall c x) = Returns flow places n c x place

-- the reason of each place holds
abbrev pub AreJustified : Flow → List Root → List Place → Type 0
AreJustified flow roots places = (n : ℕ) (place : Place) → IsAt places n place →
    Holds flow roots places n place place.reason
