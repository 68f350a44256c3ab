-- Moves of walks follow, and what follows is a move.
use Rattle.std.proofs.Common.{◌≡◌, ℕ, zero, suc, Bool, true, false, cond, List, ◌∷◌, Option, Some, None, slice_get}
use Rattle.std.proofs.Common.{refl, sym, ap, ◌∙◌, subst}
use Rattle.std.specs.Prelude.{option_map, option_and_then}
use Rattle.ck_base.specs.declared.spans.FnId.{FnId}
use Rattle.ck_base.specs.declared.states.State.{State}
use Rattle.ck_base.specs.Act.{act, next_state}
use Rattle.ck_graph.specs.declared.points.Edge.{Edge as EdgeOf}
use Rattle.ck_graph.specs.declared.points.PointKind.{PointKind}
use Rattle.ck_graph.specs.declared.points.PointKind.TheVariants.{Plain, Act, Call as CallPoint, Exit}
use Rattle.ck_graph.specs.Flow.{Flow, point_at}
use Rattle.ck_graph.specs.Walk.{Frame, Configuration, TakeEdge, EnterTarget, names_target, along, entered, moved_at}
use Rattle.ck_graph.specs.Steps.{kind_at}
use Rattle.ck_graph.specs.MatchedPath.{running}
use Rattle.ck_segments.specs.declared.segments.Step.TheVariants.{Edge, Enter}
use Rattle.ck_segments.specs.Follows.{TakesEdge, EdgeLeads, Follows}
use Rattle.ck_segments.specs.Runs.{StateLeads}
use Rattle.ck_segments.specs.Laws.{MovesFollow}

-- the edge along which a configuration goes
edge-of : (flow : Flow) (c d : Configuration) (state : State) (k : ℕ) (o : Option EdgeOf) →
    slice_get (point_at flow c.top.point).edges k ≡ o → option_map (along c state) o ≡ Some d →
    EdgeLeads flow c.top.point k d.top.point
edge-of flow c d state k None is h = absurd (cc)
edge-of flow c d state k (Some edge) is h =
    let same : along c state edge ≡ d = cc in
    record { edge = edge; has = is; leads = ap (λ (x : Configuration). x.top.point) same }

act-edge : (flow : Flow) (c d : Configuration) (next : Option State) →
    option_and_then (λ n. option_map (along c n) (slice_get (point_at flow c.top.point).edges 0)) next ≡ Some d →
    EdgeLeads flow c.top.point 0 d.top.point
act-edge flow c d None h = absurd (cc)
act-edge flow c d (Some next) h = edge-of flow c d next 0 (slice_get (point_at flow c.top.point).edges 0) refl h

follows-edge : (flow : Flow) (c d : Configuration) (k : ℕ) (kind : PointKind) → kind_at flow c.top.point ≡ kind →
    moved_at flow kind c (TakeEdge k) ≡ Some d → Follows flow c.top.point (Edge k) d.top.point
follows-edge flow c d k Plain is h = (
  subst (λ x. TakesEdge x k) (sym is) tt,
  edge-of flow c d c.state k (slice_get (point_at flow c.top.point).edges k) refl h,
)
follows-edge flow c d zero (Act op name) is h =
    (subst (λ x. TakesEdge x 0) (sym is) refl, act-edge flow c d (next_state (act op c.state)) h)
follows-edge flow c d (suc k) (Act op name) is h = absurd (cc)
follows-edge flow c d k (CallPoint call) is h = absurd (cc)
follows-edge flow c d k Exit is h = absurd (cc)

named-by : (flow : Flow) (c d : Configuration) (target : ℕ) (b : Bool) →
    cond b (Some (entered flow c target)) None ≡ Some d → (b ≡ true) × (entered flow c target ≡ d)
named-by flow c d target true h = let same : entered flow c target ≡ d = cc in (refl, same)
named-by flow c d target false h = absurd (cc)

follows-into : (flow : Flow) (c d : Configuration) (target : FnId) (kind : PointKind) →
    kind_at flow c.top.point ≡ kind →
    moved_at flow kind c (EnterTarget target.0) ≡ Some d → Follows flow c.top.point (Enter target) d.top.point
follows-into flow c d target Plain is h = absurd (cc)
follows-into flow c d target (Act op name) is h = absurd (cc)
follows-into flow c d target (CallPoint call) is h =
    let named = named-by flow c d target.0 (names_target (point_at flow c.top.point).targets target.0) h in
    (record { call = call; is_call = is; named = named.0 }, ap (λ (x : Configuration). x.top.point) named.1)
follows-into flow c d target Exit is h = absurd (cc)

taken : (flow : Flow) (p k q : ℕ) (i j e : State) (below : List Frame) (kind : PointKind) → kind_at flow p ≡ kind →
    TakesEdge kind k → EdgeLeads flow p k q → StateLeads kind i j →
    moved_at flow kind (running p e below i) (TakeEdge k) ≡ Some (running q e below j)
taken flow p k q i j e below Plain is takes leads state =
    ap (option_map (along (running p e below i) i)) leads.has ∙
    (ap (λ (x : ℕ). Some (running x e below i)) leads.leads ∙ ap (λ (s : State). Some (running q e below s)) state)
taken flow p zero q i j e below (Act op name) is takes leads state =
    let c : Configuration = running p e below i in
    ap (λ outcome. option_and_then (λ n. option_map (along c n) (slice_get (point_at flow p).edges 0))
    (next_state outcome)) state ∙
    (ap (option_map (along c j)) leads.has ∙ ap (λ (x : ℕ). Some (running x e below j)) leads.leads)
taken flow p (suc k) q i j e below (Act op name) is takes leads state = absurd (cc)
taken flow p k q i j e below (CallPoint call) is takes leads state = absurd takes
taken flow p k q i j e below Exit is takes leads state = absurd takes

pub follow : (flow : Flow) → MovesFollow flow
follow flow = record {
  along_edge = λ c d k h. follows-edge flow c d k (kind_at flow c.top.point) refl h;
  into_call = λ c d target h. follows-into flow c d target (kind_at flow c.top.point) refl h;
  edge_taken = λ p k q i j e below follows state. taken flow p k q i j e below (kind_at flow p) refl follows.0
      follows.1 state;
  call_entered = λ p q target i e below follows.
      let c : Configuration = running p e below i in
      ap (λ kind. moved_at flow kind c (EnterTarget target.0)) follows.0.is_call ∙
      (ap (λ b. cond b (Some (entered flow c target.0)) None) follows.0.named ∙
      ap (λ (x : ℕ). Some (running x i (record { point = p; entered = e } ∷ below) i)) follows.1);
}
