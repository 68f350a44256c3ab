-- Matched paths and walks go on, and whatever is derived is reached: a path inside one call runs above any frames.
use Rattle.std.proofs.Common.{◌≡◌, ◌<◌, ℕ, cond, List, [], ◌∷◌, ◌++◌, Option, Some, None, slice_get, refl, sym, ap, ◌∙◌}
use Rattle.std.proofs.Common.{subst}
use Rattle.std.specs.Prelude.{option_map, option_and_then}
use Rattle.std.specs.List.{All}
use Rattle.std.proofs.lemmas.List.Elements.{All-contains}
use Rattle.ck_base.specs.declared.states.State.{State}
use Rattle.ck_base.specs.Act.{next_state}
use Rattle.ck_graph.specs.declared.points.Edge.{Edge}
use Rattle.ck_graph.specs.declared.points.PointKind.TheVariants.{Plain, Exit}
use Rattle.ck_graph.specs.declared.entries.Root.{Root}
use Rattle.ck_graph.specs.Flow.{Flow, point_at, function_count}
use Rattle.ck_graph.specs.Faults.{IsSound, IsPointOf}
use Rattle.ck_graph.specs.Walk.{Frame, Configuration, Move, TakeEdge, EnterTarget, ReturnToCaller, along, entered}
use Rattle.ck_graph.specs.Walk.{returned, moved_at, moved, walked, start, Reaches}
use Rattle.ck_graph.specs.Steps.{kind_at, first_of, exit_of, HasEdge, MayEnter, Leads}
use Rattle.ck_graph.specs.MatchedPath.{running, IsMatchedPath, PathsGoOn, WalksGoOn}
use Rattle.ck_graph.specs.Summary.{Derived, at_root, along_edge, by_act, into_call, over_call, DerivedIsReached}
use Rattle.ck_graph.proofs.SoundGraphs.{edge-stays, target-below}

module _ (flow : Flow) where
  -- walks one after the other
  walked-append_by : (d : Configuration) (moves more : List Move) (o : Option Configuration)
      → ((next : Configuration) → walked flow next moves ≡ Some d
      → walked flow next (moves ++ more) ≡ walked flow d more)
      → option_and_then (λ next. walked flow next moves) o ≡ Some d
      → option_and_then (λ next. walked flow next (moves ++ more)) o ≡ walked flow d more
  walked-append_by d moves more None rest h = absurd (cc)
  walked-append_by d moves more (Some next) rest h = rest next h

  pub walked-append : (c d : Configuration) (moves more : List Move) → walked flow c moves ≡ Some d
      → walked flow c (moves ++ more) ≡ walked flow d more
  walked-append c d [] more e = let same : c ≡ d = cc in ap (λ x. walked flow x more) same
  walked-append c d (m ∷ moves) more e =
      walked-append_by d moves more (moved flow c m) (λ next h. walked-append next d moves more h) e

  walked-next : (c d : Configuration) (m : Move) (moves : List Move) → moved flow c m ≡ Some d
      → walked flow c (m ∷ moves) ≡ walked flow d moves
  walked-next c d m moves e = ap (option_and_then (λ next. walked flow next moves)) e

  walked-more : (c d e : Configuration) (moves : List Move) (m : Move) → walked flow c moves ≡ Some d
      → moved flow d m ≡ Some e → walked flow c (moves ++ m ∷ []) ≡ Some e
  walked-more c d e moves m first then = walked-append c d moves (m ∷ []) first ∙ walked-next d e m [] then

  -- single moves
  moved-along_edge : (p : ℕ) (i j : State) (below : List Frame) (k : ℕ) (edge : Edge) → kind_at flow p ≡ Plain
      → HasEdge flow p k edge → moved flow (running p i below j) (TakeEdge k) ≡ Some (running edge.to.0 i below j)
  moved-along_edge p i j below k edge is has =
      ap (λ kind. moved_at flow kind (running p i below j) (TakeEdge k)) is
      ∙ ap (option_map (along (running p i below j) j)) has

  moved-by_act : (p : ℕ) (i j next : State) (below : List Frame) (edge : Edge) → Leads flow p j next
      → HasEdge flow p 0 edge → moved flow (running p i below j) (TakeEdge 0) ≡ Some (running edge.to.0 i below next)
  moved-by_act p i j next below edge leads has =
      let c : Configuration = running p i below j in
      ap (λ kind. moved_at flow kind c (TakeEdge 0)) leads.is_act ∙
      (ap (λ outcome. option_and_then (λ n. option_map (along c n) (slice_get (point_at flow p).edges 0))
      (next_state outcome)) leads.acts ∙ ap (option_map (along c next)) has)

  moved-into_call : (p : ℕ) (i j : State) (below : List Frame) (target : ℕ) → MayEnter flow p target
      → moved flow (running p i below j) (EnterTarget target)
      ≡ Some (running (first_of flow target) j (record { point = p; entered = i } ∷ below) j)
  moved-into_call p i j below target may =
      let c : Configuration = running p i below j in
      ap (λ kind. moved_at flow kind c (EnterTarget target)) may.is_call
      ∙ ap (λ b. cond b (Some (entered flow c target)) None) may.named

  moved-to_caller : (p q : ℕ) (i j k : State) (below : List Frame) (edge : Edge) → kind_at flow q ≡ Exit
      → HasEdge flow p 0 edge → moved flow (running q j (record { point = p; entered = i } ∷ below) k) ReturnToCaller
      ≡ Some (running edge.to.0 i below k)
  moved-to_caller p q i j k below edge is has =
      let caller : Frame = record { point = p; entered = i } in
      ap (λ kind. moved_at flow kind (running q j (caller ∷ below) k) ReturnToCaller) is
      ∙ ap (option_map (returned k caller below)) has

  -- a path goes on by one move
  path-move : (p q r : ℕ) (i j k : State) (moves : List Move) (move : Move) → IsMatchedPath flow p i moves q j
      → ((e : State) (below : List Frame) → moved flow (running q e below j) move ≡ Some (running r e below k))
      → IsMatchedPath flow p i (moves ++ move ∷ []) r k
  path-move p q r i j k moves move path step e below =
      walked-more (running p e below i) (running q e below j) (running r e below k) moves move (path e below)
      (step e below)

  -- a matched call: in, through the called function to its exit, and back
  path-over_call : IsSound flow → (p q : ℕ) (i j k : State) (moves : List Move) → IsMatchedPath flow p i moves q j
      → (target : ℕ) → MayEnter flow q target → (callee : List Move)
      → IsMatchedPath flow (first_of flow target) j callee (exit_of flow target) k → (edge : Edge)
      → HasEdge flow q 0 edge → IsMatchedPath flow p i (moves ++ EnterTarget target ∷ (callee ++ ReturnToCaller ∷ []))
      edge.to.0 k
  path-over_call sound p q i j k moves path target may callee through edge has e below =
      let caller : Frame = record { point = q; entered = e } in
      let back : List Move = callee ++ ReturnToCaller ∷ [] in
      let inside : Configuration = running (first_of flow target) j (caller ∷ below) j in
      let ends = (sound.functions target (target-below flow sound q target may)).ends in
      walked-append (running p e below i) (running q e below j) moves (EnterTarget target ∷ back) (path e below) ∙
      (walked-next (running q e below j) inside (EnterTarget target) back (moved-into_call q e j below target may) ∙
      walked-more inside (running (exit_of flow target) j (caller ∷ below) k) (running edge.to.0 e below k) callee
      ReturnToCaller (through j (caller ∷ below)) (moved-to_caller q (exit_of flow target) e j k below edge ends has))

  pub paths : IsSound flow → PathsGoOn flow
  paths sound = record {
    none = λ p i e below. refl;
    along_edge =
        λ p q i j moves path is k edge has. path-move p q edge.to.0 i j j moves (TakeEdge k) path
        (λ e below. moved-along_edge q e j below k edge is has);
    by_act =
        λ p q i j next moves path leads edge has. path-move p q edge.to.0 i j next moves (TakeEdge 0) path
        (λ e below. moved-by_act q e j next below edge leads has);
    over_call =
        λ p q i j k moves path target may callee through edge has.
        path-over_call sound p q i j k moves path target may callee through edge has;
    by_path =
        λ p q r i j k moves more first then e below.
        walked-append (running p e below i) (running q e below j) moves more (first e below) ∙ then e below;
  }

module _ (flow : Flow) (roots : List Root) where
  -- the walk from the root goes on
  reached-more : (c d : Configuration) (moves : List Move) → Reaches flow roots c → walked flow c moves ≡ Some d
      → Reaches flow roots d
  reached-more c d moves r e = record {
    root = r.root;
    listed = r.listed;
    moves = r.moves ++ moves;
    walked = walked-append flow (start flow r.root) c r.moves moves r.walked ∙ e;
  }

  pub walks : WalksGoOn flow roots
  walks = record {
    by_moves = reached-more;
    by_path =
        λ p q e i j below moves r path. reached-more (running p e below i) (running q e below j) moves r (path e below);
    into_call = λ p target e i below r may.
        let inside : Configuration = running (first_of flow target) i (record { point = p; entered = e } ∷ below) i in
        reached-more (running p e below i) inside (EnterTarget target ∷ []) r
        (walked-next flow (running p e below i) inside (EnterTarget target) []
        (moved-into_call flow p e i below target may));
  }

  module _ (sound : IsSound flow) where
    -- a path from the function's first point leads to p in state j
    record Inside (function p : ℕ) (i j : State) : Type 0 where
      own : IsPointOf flow p function
      moves : List Move
      path : IsMatchedPath flow (first_of flow function) i moves p j

    -- a walk from a root enters the function in state i
    record IsEntered (function : ℕ) (i : State) : Type 0 where
      below : List Frame
      reached : Reaches flow roots (running (first_of flow function) i below i)

    record IsRun (p : ℕ) (i j : State) : Type 0 where
      function : ℕ
      inside : Inside function p i j
      entry : IsEntered function i

    reached-run : (p : ℕ) (i j : State) → (r : IsRun p i j) → Reaches flow roots (running p i r.entry.below j)
    reached-run p i j r =
        walks.by_path (first_of flow r.function) p i i j r.entry.below r.inside.moves r.entry.reached r.inside.path

    run-along_edge : (p : ℕ) (i j next : State) (k : ℕ) (edge : Edge) → HasEdge flow p k edge
        → (r : IsRun p i j) (moves : List Move) → IsMatchedPath flow (first_of flow r.function) i moves edge.to.0 next
        → IsRun edge.to.0 i next
    run-along_edge p i j next k edge has r moves path = record {
      function = r.function;
      inside = record {
        own = subst (IsPointOf flow edge.to.0) r.inside.own.own (edge-stays flow sound p k edge has);
        moves = moves;
        path = path;
      };
      entry = r.entry;
    }

    run-entered : (function : ℕ) (i : State) → IsPointOf flow (first_of flow function) function → IsEntered function i
        → IsRun (first_of flow function) i i
    run-entered function i own entry =
        record { function = function; inside = record { own = own; moves = []; path = λ e below. refl }; entry = entry }

    run-into_call : (p : ℕ) (i j : State) (target : ℕ) → MayEnter flow p target → IsRun p i j
        → IsRun (first_of flow target) j j
    run-into_call p i j target may r =
        run-entered target j (sound.functions target (target-below flow sound p target may)).first (record {
          below = record { point = p; entered = i } ∷ r.entry.below;
          reached = walks.into_call p target i j r.entry.below (reached-run p i j r) may;
        })

    run-over_call : (p : ℕ) (i j k : State) (target : ℕ) → MayEnter flow p target → (edge : Edge)
        → HasEdge flow p 0 edge → IsRun p i j → IsRun (exit_of flow target) j k → IsRun edge.to.0 i k
    run-over_call p i j k target may edge has r callee =
        let exit = (sound.functions target (target-below flow sound p target may)).exit in
        let same : callee.function ≡ target = sym callee.inside.own.own ∙ exit.own in
        let through : Inside target (exit_of flow target) j k =
        subst (λ f. Inside f (exit_of flow target) j k) same callee.inside in
        run-along_edge p i j k 0 edge has r
        (r.inside.moves ++ EnterTarget target ∷ (through.moves ++ ReturnToCaller ∷ []))
        (path-over_call flow sound (first_of flow r.function) p i j k r.inside.moves r.inside.path target may
        through.moves through.path edge has)

    run : All (λ root. root.function.0 < function_count flow) roots → (p : ℕ) (i j : State) → Derived flow roots p i j
        → IsRun p i j
    run within p i j (at_root root listed) = run-entered root.function.0 root.start
        (sound.functions root.function.0
        (All-contains (λ root. root.function.0 < function_count flow) roots root within listed)).first
        (record { below = []; reached = record { root = root; listed = listed; moves = []; walked = refl } })
    run within p i j (along_edge q a b d is k edge has) =
        let r = run within q a b d in
        run-along_edge q a b b k edge has r (r.inside.moves ++ TakeEdge k ∷ [])
        ((paths flow sound).along_edge (first_of flow r.function) q a b r.inside.moves r.inside.path is k edge has)
    run within p i j (by_act q a b next d leads edge has) =
        let r = run within q a b d in
        run-along_edge q a b next 0 edge has r (r.inside.moves ++ TakeEdge 0 ∷ [])
        ((paths flow sound).by_act (first_of flow r.function) q a b next r.inside.moves r.inside.path leads edge has)
    run within p i j (into_call q a b d target may) = run-into_call q a b target may (run within q a b d)
    run within p i j (over_call q a b k d target may e edge has) =
        run-over_call q a b k target may edge has (run within q a b d) (run within (exit_of flow target) b k e)

-- what is derived is reached
pub reached : DerivedIsReached
reached flow roots sound within p i j d =
    let r = run flow roots sound within p i j d in
    record {
      configuration = running p i r.entry.below j;
      reached = reached-run flow roots sound p i j r;
      top = refl;
      state = refl;
    }
