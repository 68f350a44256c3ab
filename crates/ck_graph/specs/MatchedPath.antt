-- Matched paths: what a call of a function may do from one of its points to another, while each function that it calls
-- on the way returns to it. They are the same in every call of the function, whoever made it.
use Rattle.std.specs.Prelude.{◌≡◌, ◌++◌, ℕ, List, [], ◌∷◌, Some}
use Rattle.ck_base.specs.declared.states.State.{State}
use Rattle.ck_graph.specs.declared.points.Edge.{Edge}
use Rattle.ck_graph.specs.declared.points.PointKind.TheVariants.{Plain}
use Rattle.ck_graph.specs.declared.entries.Root.{Root}
use Rattle.ck_graph.specs.Flow.{Flow}
use Rattle.ck_graph.specs.Walk.{Frame, Configuration, Move, TakeEdge, EnterTarget, ReturnToCaller, walked, Reaches}
use Rattle.ck_graph.specs.Steps.{kind_at, first_of, exit_of, HasEdge, Leads, MayEnter}

-- a call that was entered in a state is at a point, above the frames of its callers, in the state that there is
abbrev pub running : ℕ → State → List Frame → State → Configuration
running point entered below state = record {
  top = record { point = point; entered = entered };
  below = below;
  state = state;
}

-- in any call, above any frames, these moves lead from one point and state to another
abbrev pub IsMatchedPath : Flow → ℕ → State → List Move → ℕ → State → Type 0
IsMatchedPath flow p i moves q j =
    (entered : State) (below : List Frame) →
    walked flow (running p entered below i) moves ≡ Some (running q entered below j)

-- how matched paths go on: along an edge, by an act, over a call whose function returns, and by another path
pub record PathsGoOn (flow : Flow) : Type 0 where
  pub none : (p : ℕ) (i : State) → IsMatchedPath flow p i [] p i
  pub along_edge :
      (p q : ℕ) (i j : State) (moves : List Move) → IsMatchedPath flow p i moves q j → kind_at flow q ≡ Plain →
      (k : ℕ) (edge : Edge) → HasEdge flow q k edge → IsMatchedPath flow p i (moves ++ TakeEdge k ∷ []) edge.to.0 j
  pub by_act :
      (p q : ℕ) (i j next : State) (moves : List Move) → IsMatchedPath flow p i moves q j → Leads flow q j next →
      (edge : Edge) → HasEdge flow q 0 edge → IsMatchedPath flow p i (moves ++ TakeEdge 0 ∷ []) edge.to.0 next
  pub over_call :
      (p q : ℕ) (i j k : State) (moves : List Move) → IsMatchedPath flow p i moves q j →
      (target : ℕ) → MayEnter flow q target →
      (callee : List Move) → IsMatchedPath flow (first_of flow target) j callee (exit_of flow target) k →
      (edge : Edge) → HasEdge flow q 0 edge →
      IsMatchedPath flow p i (moves ++ EnterTarget target ∷ (callee ++ ReturnToCaller ∷ [])) edge.to.0 k
  pub by_path :
      (p q r : ℕ) (i j k : State) (moves more : List Move) → IsMatchedPath flow p i moves q j →
      IsMatchedPath flow q j more r k → IsMatchedPath flow p i (moves ++ more) r k

-- how walks from roots go on: by moves, by a matched path, and into a call that needn't return
pub record WalksGoOn (flow : Flow) (roots : List Root) : Type 0 where
  pub by_moves :
      (c d : Configuration) (moves : List Move) → Reaches flow roots c → walked flow c moves ≡ Some d →
      Reaches flow roots d
  pub by_path :
      (p q : ℕ) (entered i j : State) (below : List Frame) (moves : List Move) →
      Reaches flow roots (running p entered below i) → IsMatchedPath flow p i moves q j →
      Reaches flow roots (running q entered below j)
  pub into_call :
      (p target : ℕ) (entered i : State) (below : List Frame) →
      Reaches flow roots (running p entered below i) → MayEnter flow p target →
      Reaches flow roots (running (first_of flow target) i (record { point = p; entered = entered } ∷ below) i)
