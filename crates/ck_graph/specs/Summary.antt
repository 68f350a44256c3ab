-- Summaries over calls: relations of a point, the state in which its function was entered, and a state at the point.
-- The least one that is closed under what one call may do, a called function's summary standing for its call, is just
-- what walks reach (Reps, Horwitz, Sagiv: tabulation of matched calls and returns).
use Rattle.std.specs.Prelude.{◌≡◌, ◌<◌, ℕ, Bool, IsTrue, List, All, Contains}
use Rattle.ck_base.specs.declared.states.State.{State}
use Rattle.ck_graph.specs.declared.points.Edge.{Edge}
use Rattle.ck_graph.specs.declared.points.PointKind.TheVariants.{Plain}
use Rattle.ck_graph.specs.declared.entries.Root.{Root}
use Rattle.ck_graph.specs.Flow.{Flow, function_count}
use Rattle.ck_graph.specs.Faults.{IsSound}
use Rattle.ck_graph.specs.Walk.{Configuration, Reaches}
use Rattle.ck_graph.specs.Steps.{kind_at, first_of, exit_of, HasEdge, Leads, MayEnter}

-- a walk from a root reaches this point in the state `to`, in a call that was entered in the state `from`
pub record ReachesPair (flow : Flow) (roots : List Root) (point : ℕ) (from to : State) : Type 0 where
  pub configuration : Configuration
  pub reached : Reaches flow roots configuration
  pub top : configuration.top ≡ record { point = point; entered = from }
  pub state : configuration.state ≡ to

-- the relation has each root's function, entered in the root's state
abbrev pub HasRoots : Flow → List Root → (ℕ → State → State → Type 0) → Type 0
HasRoots flow roots has =
    (root : Root) → Contains roots root → has (first_of flow root.function.0) root.start root.start

-- the relation is closed under what a call may do: along an edge, by an act, into a call and over one that returns
pub record IsClosed (flow : Flow) (has : ℕ → State → State → Type 0) : Type 0 where
  pub along_edge :
      (p : ℕ) (i j : State) → has p i j → kind_at flow p ≡ Plain →
      (k : ℕ) (edge : Edge) → HasEdge flow p k edge → has edge.to.0 i j
  pub by_act :
      (p : ℕ) (i j next : State) → has p i j → Leads flow p j next →
      (edge : Edge) → HasEdge flow p 0 edge → has edge.to.0 i next
  pub into_call :
      (p : ℕ) (i j : State) → has p i j → (target : ℕ) → MayEnter flow p target → has (first_of flow target) j j
  pub over_call :
      (p : ℕ) (i j k : State) → has p i j → (target : ℕ) → MayEnter flow p target → has (exit_of flow target) j k →
      (edge : Edge) → HasEdge flow p 0 edge → has edge.to.0 i k

-- the least relation that has the roots and is closed
pub data Derived (flow : Flow) (roots : List Root) : ℕ → State → State → Type 0 where
  at_root :
      (root : Root) → Contains roots root →
      Derived flow roots (first_of flow root.function.0) root.start root.start
  along_edge :
      (p : ℕ) (i j : State) → Derived flow roots p i j → kind_at flow p ≡ Plain →
      (k : ℕ) (edge : Edge) → HasEdge flow p k edge → Derived flow roots edge.to.0 i j
  by_act :
      (p : ℕ) (i j next : State) → Derived flow roots p i j → Leads flow p j next →
      (edge : Edge) → HasEdge flow p 0 edge → Derived flow roots edge.to.0 i next
  into_call :
      (p : ℕ) (i j : State) → Derived flow roots p i j → (target : ℕ) → MayEnter flow p target →
      Derived flow roots (first_of flow target) j j
  over_call :
      (p : ℕ) (i j k : State) → Derived flow roots p i j →
      (target : ℕ) → MayEnter flow p target → Derived flow roots (exit_of flow target) j k →
      (edge : Edge) → HasEdge flow p 0 edge → Derived flow roots edge.to.0 i k

-- what a test answers as a relation
abbrev pub holds : (ℕ → State → State → Bool) → ℕ → State → State → Type 0
holds test point from to = IsTrue (test point from to)

-- a relation that has the roots and is closed has all that walks reach
abbrev pub ClosedCoversWalks : Type 0
ClosedCoversWalks =
    (flow : Flow) (roots : List Root) (test : ℕ → State → State → Bool) → IsSound flow →
    HasRoots flow roots (holds test) → IsClosed flow (holds test) →
    (point : ℕ) (from to : State) → ReachesPair flow roots point from to → holds test point from to

-- what is derived is reached by a walk
abbrev pub DerivedIsReached : Type 0
DerivedIsReached =
    (flow : Flow) (roots : List Root) → IsSound flow → All (λ root. root.function.0 < function_count flow) roots →
    (point : ℕ) (from to : State) → Derived flow roots point from to → ReachesPair flow roots point from to
