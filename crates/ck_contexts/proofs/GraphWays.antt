-- The ways through a synthetic function in a graph are those through its steps.
use Rattle.std.proofs.Common.{◌≡◌, ◌↔◌, ℕ, zero, suc, ◌+◌, ◌*◌, ◌<◌, ◌≤◌, List, [], ◌∷◌, Some, length, get_or}
use Rattle.std.proofs.Common.{slice_get}
use Rattle.std.proofs.Common.{refl, sym, ap, ◌∙◌, subst, inl, inr, arith}
use Rattle.std.specs.List.{Contains}
use Rattle.std.proofs.Math.Nat.{mul-suc}
use Rattle.std.proofs.lemmas.Bool.{cases_lt}
use Rattle.std.proofs.lemmas.List.Elements.{All-contains_itself, All-head}
use Rattle.std.proofs.lemmas.Option.{slice_get_within, slice_get-get_or, get_or_from_slice_get}
use Rattle.ck_base.specs.declared.ops.Op.{Op}
use Rattle.ck_base.specs.declared.spans.FnId.{FnId}
use Rattle.ck_graph.specs.declared.points.ActName.{ActName}
use Rattle.ck_graph.specs.declared.points.Edge.{Edge}
use Rattle.ck_graph.specs.declared.points.FunctionPart.{FunctionPart}
use Rattle.ck_graph.specs.declared.points.Label.TheVariants as label
use Rattle.ck_graph.specs.declared.points.PointKind.TheVariants as kind
use Rattle.ck_graph.specs.Flow.{Flow, Point, point_at, function_at, point_count, function_count, no_point}
use Rattle.ck_graph.specs.Steps.{kind_at, first_of, HasEdge}
use Rattle.ck_contexts.specs.declared.contexts.Context.{Context}
use Rattle.ck_contexts.specs.declared.placing.Placing.{Placing}
use Rattle.ck_contexts.specs.declared.steps.Step.{Step}
use Rattle.ck_contexts.specs.declared.steps.Step.TheVariants.{Act, Call, Pick}
use Rattle.ck_contexts.specs.Actions.{Action, Acts, Calls, Does, ends, passes, acts, calls, AreDone, EntriesDo}
use Rattle.ck_contexts.specs.Extended.{edge, picks, point, point_of_step, points_from, placing, with_context}
use Rattle.ck_contexts.specs.Extended.{extended}
use Rattle.ck_contexts.specs.Synthetic.{handler_return, steps, functions_of}
use Rattle.ck_contexts.proofs.EntryWays.{done-from, done-to}
use Rattle.ck_contexts.proofs.InnerSteps.{IsInner, steps-inner}
use Rattle.ck_contexts.proofs.PlacedPoints.{IsWithin, point-at_step, point-at_exit, edges-within, step-ends_not}
use Rattle.ck_contexts.proofs.Grown.{point_count-with_context, function_count-with_context}
use Rattle.ck_contexts.proofs.SoundExtension.{old-point, new-point, old-function, new-function}
use Rattle.ck_contexts.proofs.StepWays.{PickLeads, Goes, at_end, by_act, by_call, by_pick}

-- the edges of picks
picks-at : (at : Placing) (k place size n j : ℕ) → j < n
    → slice_get (picks at k place size n) j ≡ Some (edge at (place + size * j) (label.Pick (k + j)))
picks-at at k place size zero j below = absurd (omega (arith, below))
picks-at at k place size (suc n) zero below =
    ap (λ q. Some (edge at q (label.Pick k))) (omega arith)
    ∙ ap (λ k. Some (edge at (place + size * 0) (label.Pick k))) (omega arith)
picks-at at k place size (suc n) (suc j) below =
    let more = mul-suc size j in
    picks-at at (k + 1) (place + size) size n j (omega arith)
    ∙ (ap (λ q. Some (edge at q (label.Pick (k + 1 + j)))) (omega arith)
    ∙ ap (λ k. Some (edge at (place + size * suc j) (label.Pick k))) (omega arith))

picks-below : (at : Placing) (k place size n j : ℕ) (e : Edge) → slice_get (picks at k place size n) j ≡ Some e → j < n
picks-below at k place size zero j e has = absurd (cc)
picks-below at k place size (suc n) zero e has = omega arith
picks-below at k place size (suc n) (suc j) e has =
    let rest = picks-below at (k + 1) (place + size) size n j e has in omega arith

-- a step by its point's kind and edge
act-by_point : (at : Placing) (q : ℕ) (s : Step) (op : Op) (name : ActName) (e : Edge)
    → (point_of_step at q s).kind ≡ kind.Act op name → slice_get (point_of_step at q s).edges 0 ≡ Some e
    → (next : ℕ) × (s ≡ Act op name next) × (e.to.0 ≡ at.first + next)
act-by_point at q (Act o m next) op name e is has =
    let to : edge at next label.Plain ≡ e = cc in (next, cc, ap (λ (e : Edge). e.to.0) (sym to))
act-by_point at q (Call number f next) op name e is has = absurd (cc)
act-by_point at q (Pick after part size n) op name e is has = absurd (cc)

call-by_point : (at : Placing) (q : ℕ) (s : Step) (number : ℕ) (f : FnId) (e : Edge)
    → (point_of_step at q s).kind ≡ kind.Call number → Contains (point_of_step at q s).targets f
    → slice_get (point_of_step at q s).edges 0 ≡ Some e
    → (next : ℕ) × (s ≡ Call number f next) × (e.to.0 ≡ at.first + next)
call-by_point at q (Act o m next) number f e is listed has = absurd (cc)
call-by_point at q (Call k g next) number f e is listed has =
    let to : edge at next label.Plain ≡ e = cc in
    let zeroth : listed.0 ≡ 0 = omega (arith, listed.1) in
    let same : g ≡ f = sym (ap (λ k. get_or (g ∷ []) k f) zeroth) ∙ listed.2 in
    (next, cc, ap (λ (e : Edge). e.to.0) (sym to))
call-by_point at q (Pick after part size n) number f e is listed has = absurd (cc)

record IsPick (at : Placing) (s : Step) (e : Edge) : Type 0 where
  after : ℕ
  part : ℕ
  size : ℕ
  count : ℕ
  place : ℕ
  is : s ≡ Pick after part size count
  leads : PickLeads after part size count place
  to : e.to.0 ≡ at.first + place

pick-by_point : (at : Placing) (q j : ℕ) (s : Step) (e : Edge) → (point_of_step at q s).kind ≡ kind.Plain
    → slice_get (point_of_step at q s).edges j ≡ Some e → IsPick at s e
pick-by_point at q j (Act o m next) e is has = absurd (cc)
pick-by_point at q j (Call k g next) e is has = absurd (cc)
pick-by_point at q zero (Pick after part size n) e is has =
    let to : edge at after (label.Pick 0) ≡ e = cc in
    record {
      after = after;
      part = part;
      size = size;
      count = n;
      place = after;
      is = refl;
      leads = inl refl;
      to = ap (λ (e : Edge). e.to.0) (sym to);
    }
pick-by_point at q (suc j) (Pick after part size n) e is has =
    let below : j < n = picks-below at 1 part size n j e has in
    let read = picks-at at 1 part size n j below in
    let to : edge at (part + size * j) (label.Pick (1 + j)) ≡ e = cc in
    record {
      after = after;
      part = part;
      size = size;
      count = n;
      place = part + size * j;
      is = refl;
      leads = inr (j, below, refl);
      to = ap (λ (e : Edge). e.to.0) (sym to);
    }

-- in a graph that has the points of the synthetic function
module _ (number : ℕ) (flow : Flow) (c : Context) (new : Flow)
    (keeps : (k : ℕ) → k ≤ length (steps number c)
    → point_at new (point_count flow + k) ≡ get_or (points_from (placing number flow c) 0 (steps number c)) k no_point)
  where
    abbrev at : Placing
    at = placing number flow c

    abbrev ss : List Step
    ss = steps number c

    -- the point of a step
    point-of : (k : ℕ) (s : Step) → slice_get ss k ≡ Some s
        → point_at new (point_count flow + k) ≡ point_of_step at (0 + k) s
    point-of k s is =
        let below : k < length ss = slice_get_within ss k s is in
        keeps k (omega arith) ∙ (point-at_step at 0 k ss s below
        ∙ ap (point_of_step at (0 + k)) (get_or_from_slice_get ss k s s is))

    point-of_exit : (k : ℕ) → k ≡ length ss → point_at new (point_count flow + k) ≡ point at (0 + k) kind.Exit [] []
    point-of_exit k last = keeps k (omega arith) ∙ point-at_exit at 0 k ss last

    -- an edge leads to a place up to the exit
    place-within : (k j place : ℕ) (s : Step) (e : Edge) → slice_get ss k ≡ Some s
        → slice_get (point_of_step at (0 + k) s).edges j ≡ Some e → e.to.0 ≡ point_count flow + place
        → place ≤ length ss
    place-within k j place s e is has to =
        let inner : IsInner at (functions_of c) s =
        subst (IsInner at (functions_of c)) (get_or_from_slice_get ss k s s is)
        (steps-inner at number c (omega arith) k s (slice_get_within ss k s is)) in
        let edges : List Edge = (point_of_step at (0 + k) s).edges in
        let within : IsWithin at e =
        subst (IsWithin at) (get_or_from_slice_get edges j e e has)
        (edges-within at (functions_of c) (0 + k) s inner j e (slice_get_within edges j e has)) in
        omega (arith, within.before)

    -- what is at a place: a step, or the exit
    record IsStepAt (p k : ℕ) : Type 0 where
      s : Step
      listed : slice_get ss k ≡ Some s
      is : point_at new p ≡ point_of_step at (0 + k) s

    step-at : (p k : ℕ) → p ≡ point_count flow + k → k ≤ length ss → (kind_at new p ≡ kind.Exit → ⊥) → IsStepAt p k
    step-at p k at_k within goes_on = elim (cases_lt k (length ss)) [
      | inl below ↦
          let s : Step = get_or ss k (handler_return 0) in
          let listed : slice_get ss k ≡ Some s = slice_get-get_or ss k (handler_return 0) below in
          record { s = s; listed = listed; is = ap (point_at new) at_k ∙ point-of k s listed }
      | inr past ↦
          absurd (goes_on
          (ap (λ (p : Point). p.kind) (ap (point_at new) at_k ∙ point-of_exit k (omega arith))))
    ]

    -- from the graph to the steps
    exit-from : (p k : ℕ) → p ≡ point_count flow + k → kind_at new p ≡ kind.Exit → length ss ≤ k
    exit-from p k at_k is = elim (cases_lt k (length ss)) [
      | inl below ↦
          let s : Step = get_or ss k (handler_return 0) in
          let read = ap (point_at new) at_k ∙ point-of k s (slice_get-get_or ss k (handler_return 0) below) in
          absurd (step-ends_not at (0 + k) s (sym (ap (λ (p : Point). p.kind) read) ∙ is))
      | inr past ↦ past
    ]

    act-from : (p k : ℕ) (op : Op) (name : ActName) (e : Edge) (rest : List Action) → IsStepAt p k
        → kind_at new p ≡ kind.Act op name → HasEdge new p 0 e
        → ((next : ℕ) → e.to.0 ≡ point_count flow + next → next ≤ length ss → Goes ss next rest)
        → Goes ss k (Acts op name ∷ rest)
    act-from p k op name e rest one is has again =
        let kind_is = sym (ap (λ (p : Point). p.kind) one.is) ∙ is in
        let edge_is = sym (ap (λ (p : Point). slice_get p.edges 0) one.is) ∙ has in
        let way = act-by_point at (0 + k) one.s op name e kind_is edge_is in
        by_act k op name way.0 rest (one.listed ∙ ap (λ s. Some s) way.1)
        (again way.0 way.2 (place-within k 0 way.0 one.s e one.listed edge_is way.2))

    call-from : (p k number : ℕ) (f : FnId) (e : Edge) (rest : List Action) → IsStepAt p k
        → kind_at new p ≡ kind.Call number → Contains (point_at new p).targets f → HasEdge new p 0 e
        → ((next : ℕ) → e.to.0 ≡ point_count flow + next → next ≤ length ss → Goes ss next rest)
        → Goes ss k (Calls f ∷ rest)
    call-from p k number f e rest one is listed has again =
        let kind_is = sym (ap (λ (p : Point). p.kind) one.is) ∙ is in
        let edge_is = sym (ap (λ (p : Point). slice_get p.edges 0) one.is) ∙ has in
        let named = subst (λ (p : Point). Contains p.targets f) one.is listed in
        let way = call-by_point at (0 + k) one.s number f e kind_is named edge_is in
        by_call k number f way.0 rest (one.listed ∙ ap (λ s. Some s) way.1)
        (again way.0 way.2 (place-within k 0 way.0 one.s e one.listed edge_is way.2))

    pick-goes : (k j : ℕ) (s : Step) (e : Edge) (rest : List Action) → slice_get ss k ≡ Some s
        → slice_get (point_of_step at (0 + k) s).edges j ≡ Some e → (way : IsPick at s e)
        → (way.place ≤ length ss → Goes ss way.place rest) → Goes ss k rest
    pick-goes k j s e rest listed has way again =
        by_pick k way.after way.part way.size way.count way.place rest (listed ∙ ap (λ s. Some s) way.is) way.leads
        (again (place-within k j way.place s e listed has way.to))

    pick-from : (p k j : ℕ) (e : Edge) (rest : List Action) → IsStepAt p k → kind_at new p ≡ kind.Plain
        → HasEdge new p j e
        → ((next : ℕ) → e.to.0 ≡ point_count flow + next → next ≤ length ss → Goes ss next rest) → Goes ss k rest
    pick-from p k j e rest one is has again =
        let kind_is = sym (ap (λ (p : Point). p.kind) one.is) ∙ is in
        let edge_is = sym (ap (λ (p : Point). slice_get p.edges j) one.is) ∙ has in
        let way : IsPick at one.s e = pick-by_point at (0 + k) j one.s e kind_is edge_is in
        pick-goes k j one.s e rest one.listed edge_is way (λ fits. again way.place way.to fits)

    from-graph : (p : ℕ) (actions : List Action) → Does new p actions → (k : ℕ) → p ≡ point_count flow + k
        → k ≤ length ss → Goes ss k actions
    from-graph p actions (ends q is) k at_k within = at_end k (exit-from p k at_k is)
    from-graph p actions (passes q j e rest is has does) k at_k within =
        pick-from p k j e rest (step-at p k at_k within (λ exit. cc)) is has
        (λ next to fits. from-graph e.to.0 rest does next to fits)
    from-graph p actions (acts q op name e rest is has does) k at_k within =
        act-from p k op name e rest (step-at p k at_k within (λ exit. cc)) is has
        (λ next to fits. from-graph e.to.0 rest does next to fits)
    from-graph p actions (calls q n f e rest is listed has does) k at_k within =
        call-from p k n f e rest (step-at p k at_k within (λ exit. cc)) is listed has
        (λ next to fits. from-graph e.to.0 rest does next to fits)

    -- from the steps to the graph
    edge-to : (k j : ℕ) (s : Step) (e : Edge) → slice_get ss k ≡ Some s
        → slice_get (point_of_step at (0 + k) s).edges j ≡ Some e → HasEdge new (point_count flow + k) j e
    edge-to k j s e is has = ap (λ (p : Point). slice_get p.edges j) (point-of k s is) ∙ has

    kind-to : (k : ℕ) (s : Step) → slice_get ss k ≡ Some s
        → kind_at new (point_count flow + k) ≡ (point_of_step at (0 + k) s).kind
    kind-to k s is = ap (λ (p : Point). p.kind) (point-of k s is)

    pick-to : (k after part size n q : ℕ) (rest : List Action) → slice_get ss k ≡ Some (Pick after part size n)
        → PickLeads after part size n q
        → (q ≤ length ss → Does new (point_count flow + q) rest) → Does new (point_count flow + k) rest
    pick-to k after part size n q rest is leads again = elim leads [
      | inl on ↦
          let s : Step = Pick after part size n in
          let e : Edge = edge at after (label.Pick 0) in
          let q_is : q ≡ after = on in
          let fits : q ≤ length ss =
          place-within k 0 q s e is refl (ap (λ q. point_count flow + q) (sym q_is)) in
          passes (point_count flow + k) 0 e rest (kind-to k s is) (edge-to k 0 s e is refl)
          (subst (λ q. Does new (point_count flow + q) rest) q_is (again fits))
      | inr part_of ↦
          let s : Step = Pick after part size n in
          let j : ℕ = part_of.0 in
          let e : Edge = edge at (part + size * j) (label.Pick (1 + j)) in
          let q_is : q ≡ part + size * j = part_of.2 in
          let has : slice_get (point_of_step at (0 + k) s).edges (suc j) ≡ Some e =
          picks-at at 1 part size n j part_of.1 in
          let fits : q ≤ length ss =
          place-within k (suc j) q s e is has (ap (λ q. point_count flow + q) (sym q_is)) in
          passes (point_count flow + k) (suc j) e rest (kind-to k s is) (edge-to k (suc j) s e is has)
          (subst (λ q. Does new (point_count flow + q) rest) q_is (again fits))
    ]

    to-graph : (k : ℕ) (actions : List Action) → Goes ss k actions → k ≤ length ss
        → Does new (point_count flow + k) actions
    to-graph k actions (at_end p past) within =
        ends (point_count flow + k) (ap (λ (p : Point). p.kind) (point-of_exit k (omega arith)))
    to-graph k actions (by_act p op name next rest is goes) within =
        let e : Edge = edge at next label.Plain in
        acts (point_count flow + k) op name e rest (kind-to k (Act op name next) is)
        (edge-to k 0 (Act op name next) e is refl)
        (to-graph next rest goes (place-within k 0 next (Act op name next) e is refl refl))
    to-graph k actions (by_call p n f next rest is goes) within =
        let s : Step = Call n f next in
        let e : Edge = edge at next label.Plain in
        let named : Contains (f ∷ []) f = All-head (Contains (f ∷ [])) f [] (All-contains_itself (f ∷ [])) in
        calls (point_count flow + k) n f e rest (kind-to k s is)
        (subst (λ (p : Point). Contains p.targets f) (sym (point-of k s is)) named) (edge-to k 0 s e is refl)
        (to-graph next rest goes (place-within k 0 next s e is refl refl))
    to-graph k actions (by_pick p after part size n q rest is leads goes) within =
        pick-to k after part size n q rest is leads (λ fits. to-graph q rest goes fits)

-- what a graph has, it has with more contexts too
point-kept : (number : ℕ) (flow : Flow) (cs : List Context) (p : ℕ) → p < point_count flow
    → point_at (extended number flow cs) p ≡ point_at flow p
point-kept number flow [] p below = refl
point-kept number flow (c ∷ cs) p below =
    let more = point_count-with_context number flow c in
    point-kept (number + length (functions_of c)) (with_context number flow c) cs p (omega arith)
    ∙ old-point number flow c p below

function-kept : (number : ℕ) (flow : Flow) (cs : List Context) (f : ℕ) → f < function_count flow
    → function_at (extended number flow cs) f ≡ function_at flow f
function-kept number flow [] f below = refl
function-kept number flow (c ∷ cs) f below =
    let more = function_count-with_context number flow c in
    function-kept (number + length (functions_of c)) (with_context number flow c) cs f (omega arith)
    ∙ old-function number flow c f below

-- the first of some contexts
module _ (number : ℕ) (flow : Flow) (c : Context) (cs : List Context) where
  abbrev whole : Flow
  whole = extended (number + length (functions_of c)) (with_context number flow c) cs

  first-kept : (k : ℕ) → k ≤ length (steps number c)
      → point_at whole (point_count flow + k)
      ≡ get_or (points_from (placing number flow c) 0 (steps number c)) k no_point
  first-kept k within =
      let more = point_count-with_context number flow c in
      point-kept (number + length (functions_of c)) (with_context number flow c) cs (point_count flow + k)
      (omega arith) ∙ new-point number flow c k

  begins : first_of whole (function_count flow + 0) ≡ point_count flow + 0
  begins =
      let more = function_count-with_context number flow c in
      let last : function_count flow + 0 ≡ function_count flow = omega arith in
      let zeroth : point_count flow ≡ point_count flow + 0 = omega arith in
      ap (first_of whole) last
      ∙ (ap (λ (f : FunctionPart). f.first.0)
      (function-kept (number + length (functions_of c)) (with_context number flow c) cs (function_count flow)
      (omega arith) ∙ new-function number flow c) ∙ zeroth)

  first-does : (actions : List Action)
      → Does whole (first_of whole (function_count flow + 0)) actions ↔ AreDone c actions
  first-does actions = (
    λ does. done-from number c actions
        (from-graph number flow c whole first-kept (first_of whole (function_count flow + 0)) actions does 0 begins
        (omega arith)),
    λ done. subst (λ p. Does whole p actions) (sym begins)
        (to-graph number flow c whole first-kept 0 actions (done-to number c actions done) (omega arith)),
  )

pub entries-do : EntriesDo
entries-do number flow [] k context actions is = absurd (cc)
entries-do number flow (c ∷ cs) zero context actions is =
    let same : c ≡ context = cc in
    subst (λ context. Does (extended number flow (c ∷ cs))
    (first_of (extended number flow (c ∷ cs)) (function_count flow + 0)) actions ↔ AreDone context actions) same
    (first-does number flow c cs actions)
entries-do number flow (c ∷ cs) (suc k) context actions is =
    let more = function_count-with_context number flow c in
    let at : function_count (with_context number flow c) + k ≡ function_count flow + suc k = omega arith in
    subst (λ f. Does (extended number flow (c ∷ cs)) (first_of (extended number flow (c ∷ cs)) f) actions
    ↔ AreDone context actions) at
    (entries-do (number + length (functions_of c)) (with_context number flow c) cs k context actions is)
