-- Whatever is reached is in a relation that is closed and has the roots: frame by frame down the stack, each caller is
-- at a call that the relation has, with the state in which the frame above was entered.
use Rattle.std.proofs.Common.{◌≡◌, ℕ, zero, suc, Bool, true, false, cond, List, [], ◌∷◌, Option, Some, None, slice_get}
use Rattle.std.proofs.Common.{refl, sym, ap, subst}
use Rattle.std.specs.Prelude.{⊤, option_map, option_and_then}
use Rattle.ck_base.specs.declared.ops.Op.{Op}
use Rattle.ck_base.specs.declared.states.State.{State}
use Rattle.ck_base.specs.declared.states.Outcome.{Outcome}
use Rattle.ck_base.specs.declared.states.Outcome.TheVariants.{Next, Alarm, End}
use Rattle.ck_base.specs.Act.{act, next_state}
use Rattle.ck_graph.specs.declared.points.ActName.{ActName}
use Rattle.ck_graph.specs.declared.points.Edge.{Edge}
use Rattle.ck_graph.specs.declared.points.PointKind.{PointKind}
use Rattle.ck_graph.specs.declared.points.PointKind.TheVariants.{Plain, Act, Call, Exit}
use Rattle.ck_graph.specs.declared.entries.Root.{Root}
use Rattle.ck_graph.specs.Flow.{Flow, point_at}
use Rattle.ck_graph.specs.Faults.{IsSound}
use Rattle.ck_graph.specs.Walk.{Frame, Configuration, Move, TakeEdge, EnterTarget, ReturnToCaller, names_target, along}
use Rattle.ck_graph.specs.Walk.{entered, returned, frame_along, moved_at, moved, walked, start, Reaches}
use Rattle.ck_graph.specs.Steps.{kind_at, exit_of, HasEdge, MayEnter, Leads}
use Rattle.ck_graph.specs.Summary.{ReachesPair, HasRoots, IsClosed, ClosedCoversWalks, holds}
use Rattle.ck_graph.proofs.SoundGraphs.{edge-stays, target-below, exit-named}

-- where a mapped option is there, so is the option
mapped : {X Y : Type 0} (f : X → Y) (o : Option X) (y : Y) → option_map f o ≡ Some y
    → (x : X) × (o ≡ Some x) × (f x ≡ y)
mapped f None y h = absurd (cc)
mapped f (Some x) y h = (x, refl, cc)

record IsBound {X Y : Type 0} (f : X → Option Y) (o : Option X) (y : Y) : Type 0 where
  first : X
  is : o ≡ Some first
  then : f first ≡ Some y

bound : {X Y : Type 0} (f : X → Option Y) (o : Option X) (y : Y) → option_and_then f o ≡ Some y → IsBound f o y
bound f None y h = absurd (cc)
bound f (Some x) y h = record { first = x; is = refl; then = h }

next-from : (outcome : Outcome) (next : State) → next_state outcome ≡ Some next → outcome ≡ Next next
next-from (Next n) next h = let same : n ≡ next = cc in ap Next same
next-from (Alarm kind) next h = absurd (cc)
next-from End next h = absurd (cc)

module _ (flow : Flow) (pairs : ℕ → State → State → Type 0) (sound : IsSound flow) (closed : IsClosed flow pairs) where
  -- a frame is at a call from which the frame above it may have come
  pub record IsCaller (caller callee : Frame) : Type 0 where
    pub enters : MayEnter flow caller.point (point_at flow callee.point).function.0
    pub pair : pairs caller.point caller.entered callee.entered

  abbrev pub AreCallers : Frame → List Frame → Type 0
  AreCallers callee [] = ⊤
  AreCallers callee (caller ∷ below) = IsCaller caller callee × AreCallers caller below

  pub record IsCovered (c : Configuration) : Type 0 where
    pub pair : pairs c.top.point c.top.entered c.state
    pub callers : AreCallers c.top c.below

  -- callers stay callers where the frame above goes along an edge
  callers-along : (top : Frame) (below : List Frame) (k : ℕ) (edge : Edge) → HasEdge flow top.point k edge
      → AreCallers top below → AreCallers (frame_along top edge) below
  callers-along top [] k edge has callers = callers
  callers-along top (caller ∷ below) k edge has callers =
      let stays = edge-stays flow sound top.point k edge has in (
        record { enters = subst (MayEnter flow caller.point) (sym stays.own) callers.0.enters; pair = callers.0.pair },
        callers.1,
      )

  -- one lemma per kind of move
  covered-along_edge : (c d : Configuration) (k : ℕ) → kind_at flow c.top.point ≡ Plain
      → moved_at flow Plain c (TakeEdge k) ≡ Some d → IsCovered c → IsCovered d
  covered-along_edge c d k is h covered =
      let m = mapped (along c c.state) (slice_get (point_at flow c.top.point).edges k) d h in
      subst IsCovered m.2 (record {
        pair = closed.along_edge c.top.point c.top.entered c.state covered.pair is k m.0 m.1;
        callers = callers-along c.top c.below k m.0 m.1 covered.callers;
      })

  covered-by_act : (c d : Configuration) (op : Op) (name : ActName) → kind_at flow c.top.point ≡ Act op name
      → moved_at flow (Act op name) c (TakeEdge zero) ≡ Some d → IsCovered c → IsCovered d
  covered-by_act c d op name is h covered =
      let b = bound (λ next. option_map (along c next) (slice_get (point_at flow c.top.point).edges 0))
      (next_state (act op c.state)) d h in
      let m = mapped (along c b.first) (slice_get (point_at flow c.top.point).edges 0) d b.then in
      let acts = next-from (act op c.state) b.first b.is in
      let leads : Leads flow c.top.point c.state b.first = record { op = op; name = name; is_act = is; acts = acts } in
      subst IsCovered m.2 (record {
        pair = closed.by_act c.top.point c.top.entered c.state b.first covered.pair leads m.0 m.1;
        callers = callers-along c.top c.below 0 m.0 m.1 covered.callers;
      })

  covered-into_call_by : (c d : Configuration) (target call : ℕ) (b : Bool)
      → names_target (point_at flow c.top.point).targets target ≡ b → kind_at flow c.top.point ≡ Call call
      → cond b (Some (entered flow c target)) None ≡ Some d → IsCovered c → IsCovered d
  covered-into_call_by c d target call false named is h covered = absurd (cc)
  covered-into_call_by c d target call true named is h covered =
      let may : MayEnter flow c.top.point target = record { call = call; is_call = is; named = named } in
      let own = (sound.functions target (target-below flow sound c.top.point target may)).first in
      let same : entered flow c target ≡ d = cc in
      subst IsCovered same (record {
        pair = closed.into_call c.top.point c.top.entered c.state covered.pair target may;
        callers = (
          record { enters = subst (MayEnter flow c.top.point) (sym own.own) may; pair = covered.pair },
          covered.callers,
        );
      })

  -- a return, which is matched: the frame below is the caller
  covered-to_caller : (top : Frame) (state : State) (caller : Frame) (below : List Frame) (d : Configuration)
      → kind_at flow top.point ≡ Exit
      → option_map (returned state caller below) (slice_get (point_at flow caller.point).edges 0) ≡ Some d
      → pairs top.point top.entered state → IsCaller caller top → AreCallers caller below → IsCovered d
  covered-to_caller top state caller below d is h pair by callers =
      let m = mapped (returned state caller below) (slice_get (point_at flow caller.point).edges 0) d h in
      let function : ℕ = (point_at flow top.point).function.0 in
      let at_exit : pairs (exit_of flow function) top.entered state =
      subst (λ p. pairs p top.entered state) (sym (exit-named flow sound top.point is)) pair in
      subst IsCovered m.2 (record {
        pair =
            closed.over_call caller.point caller.entered top.entered state by.pair function by.enters at_exit m.0 m.1;
        callers = callers-along caller below 0 m.0 m.1 callers;
      })

  covered-back : (top : Frame) (state : State) (below : List Frame) (d : Configuration) → kind_at flow top.point ≡ Exit
      → moved_at flow Exit (record { top = top; below = below; state = state }) ReturnToCaller ≡ Some d
      → pairs top.point top.entered state → AreCallers top below → IsCovered d
  covered-back top state [] d is h pair callers = absurd (cc)
  covered-back top state (caller ∷ below) d is h pair callers =
      covered-to_caller top state caller below d is h pair callers.0 callers.1

  covered-at : (c d : Configuration) (kind : PointKind) (move : Move) → kind_at flow c.top.point ≡ kind
      → moved_at flow kind c move ≡ Some d → IsCovered c → IsCovered d
  covered-at c d Plain (TakeEdge k) is h covered = covered-along_edge c d k is h covered
  covered-at c d (Act op name) (TakeEdge zero) is h covered = covered-by_act c d op name is h covered
  covered-at c d (Act op name) (TakeEdge (suc k)) is h covered = absurd (cc)
  covered-at c d (Call call) (EnterTarget target) is h covered =
      covered-into_call_by c d target call (names_target (point_at flow c.top.point).targets target) refl is h covered
  covered-at c d Exit ReturnToCaller is h covered =
      covered-back c.top c.state c.below d is h covered.pair covered.callers
  covered-at _ _ _ _ _ h _ = absurd (cc)

  covered-walk_by : (d : Configuration) (moves : List Move) (o : Option Configuration)
      → ((next : Configuration) → o ≡ Some next → IsCovered next)
      → ((next : Configuration) → walked flow next moves ≡ Some d → IsCovered next → IsCovered d)
      → option_and_then (λ next. walked flow next moves) o ≡ Some d → IsCovered d
  covered-walk_by d moves None step rest h = absurd (cc)
  covered-walk_by d moves (Some next) step rest h = rest next h (step next refl)

  -- a walk from a covered configuration leads to a covered one
  pub covered-walk : (c d : Configuration) (moves : List Move) → walked flow c moves ≡ Some d → IsCovered c
      → IsCovered d
  covered-walk c d [] h covered = let same : c ≡ d = cc in subst IsCovered same covered
  covered-walk c d (move ∷ moves) h covered =
      covered-walk_by d moves (moved flow c move)
      (λ next is. covered-at c next (kind_at flow c.top.point) move refl is covered)
      (λ next rest on. covered-walk next d moves rest on) h

  -- each configuration that a walk from a root reaches is covered
  pub covered-reached : (roots : List Root) → HasRoots flow roots pairs → (c : Configuration) → Reaches flow roots c
      → IsCovered c
  covered-reached roots entered c r =
      covered-walk (start flow r.root) c r.moves r.walked (record { pair = entered r.root r.listed; callers = tt })

  -- what is reached is in the relation
  pub related-from_ReachesPair : (roots : List Root) → HasRoots flow roots pairs → (p : ℕ) (i j : State)
      → ReachesPair flow roots p i j → pairs p i j
  related-from_ReachesPair roots entered p i j r =
      let covered = covered-reached roots entered r.configuration r.reached in
      let at : pairs p i r.configuration.state =
      subst (λ (top : Frame). pairs top.point top.entered r.configuration.state) r.top covered.pair in
      subst (pairs p i) r.state at

pub covers : ClosedCoversWalks
covers flow roots test sound entered closed p i j r =
    related-from_ReachesPair flow (holds test) sound closed roots entered p i j r
