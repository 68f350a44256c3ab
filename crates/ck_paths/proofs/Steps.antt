-- The reasons that the search gives hold.
use Rattle.std.proofs.Common.{◌≡◌, ℕ, ◌<◌, List, Some, length, slice_get, refl, sym, ap, ◌∙◌, subst, arith}
use Rattle.std.proofs.lemmas.Option.{slice_get_within}
use Rattle.ck_base.specs.declared.ops.Op.{Op}
use Rattle.ck_base.specs.declared.spans.PointId.{PointId}
use Rattle.ck_base.specs.declared.states.State.{State}
use Rattle.ck_base.specs.declared.states.Outcome.TheVariants.{Next}
use Rattle.ck_base.specs.Act.{act}
use Rattle.ck_graph.specs.declared.points.Edge.{Edge}
use Rattle.ck_graph.specs.declared.points.PointKind.TheVariants.{Plain, Act}
use Rattle.ck_graph.specs.declared.entries.Root.{Root}
use Rattle.ck_graph.specs.Flow.{Flow, point_at, function_at, function_count}
use Rattle.ck_graph.specs.Faults.{IsSound, FitsKind}
use Rattle.ck_graph.specs.Steps.{kind_at, first_of, exit_of, HasEdge, MayEnter}
use Rattle.ck_graph.proofs.SoundGraphs.{edge-stays, target-below, there-from_edge}
use Rattle.ck_segments.specs.Follows.{TakesEdge}
use Rattle.ck_segments.specs.Runs.{StateLeads}
use Rattle.ck_paths.specs.declared.found.Place.{Place}
use Rattle.ck_paths.specs.Found.{IsAt}
use Rattle.ck_paths.specs.Justified.{StartsAt, GoesAlong, Enters, Returns, function_of}
use Rattle.ck_paths.specs.Search.{LeadsOn, IsActOf}

pub leads-plain : (flow : Flow) (place : Place) → kind_at flow place.point.0 ≡ Plain → LeadsOn flow place place.to
leads-plain flow place is k edge has =
    (subst (λ kind. TakesEdge kind k) (sym is) tt, subst (λ kind. StateLeads kind place.to place.to) (sym is) refl)

pub leads-act : (flow : Flow) (place : Place) (op : Op) (next : State) → IsSound flow →
    IsActOf flow place.point.0 op → act op place.to ≡ Next next → LeadsOn flow place next
leads-act flow place op next sound is acts k edge has =
    let p : ℕ = place.point.0 in
    let kind : kind_at flow p ≡ Act op is.0 = is.1 in
    let one : length (point_at flow p).edges ≡ 1 =
    subst (λ x. FitsKind x (length (point_at flow p).edges)) kind
    (sound.points p (there-from_edge flow p k edge has)).fits in
    let zero : k ≡ 0 = omega (arith, one, slice_get_within (point_at flow p).edges k edge has) in
    (subst (λ x. TakesEdge x k) (sym kind) zero, subst (λ x. StateLeads x place.to next) (sym kind) acts)

-- a place goes along an edge
pub goes-along : (flow : Flow) (places : List Place) (b k : ℕ) (before place : Place) (edge : Edge) →
    IsSound flow → IsAt places b before → HasEdge flow before.point.0 k edge → LeadsOn flow before place.to →
    place.point ≡ edge.to → place.from ≡ before.from → GoesAlong flow places (length places) b k place
goes-along flow places b k before place edge sound at has leads point from =
    let on = leads k edge has in
    record {
      before = before;
      at = at;
      earlier = slice_get_within places b before at;
      one_call = record {
        entered = sym from;
        function =
            sym (ap (λ (p : PointId). (point_at flow p.0).function.0) point ∙
            (edge-stays flow sound before.point.0 k edge has).own);
      };
      runs = ((on.0, record { edge = edge; has = has; leads = sym (ap (λ (p : PointId). p.0) point) }), on.1);
    }

-- a call at a place enters a function
pub enters : (flow : Flow) (places : List Place) (c target : ℕ) (caller place : Place) → IsSound flow →
    IsAt places c caller → MayEnter flow caller.point.0 target → place.point.0 ≡ first_of flow target →
    place.from ≡ caller.to → place.to ≡ caller.to → Enters flow places (length places) c place
enters flow places c target caller place sound at may point from to =
    let own = (sound.functions target (target-below flow sound caller.point.0 target may)).first.own in
    let function : function_of flow place ≡ target = ap (λ (p : ℕ). (point_at flow p).function.0) point ∙ own in
    record {
      caller = caller;
      at = at;
      earlier = slice_get_within places c caller at;
      enters = subst (MayEnter flow caller.point.0) (sym function) may;
      state = sym from;
      entry = record { first = ap (first_of flow) function ∙ sym point; state = from ∙ sym to };
    }

-- a call goes over a function to whose exit a place belongs
pub returns : (flow : Flow) (places : List Place) (c x target : ℕ) (caller exit place : Place) (edge : Edge) →
    IsSound flow → IsAt places c caller → IsAt places x exit → MayEnter flow caller.point.0 target →
    exit.point.0 ≡ exit_of flow target → exit.from ≡ caller.to → HasEdge flow caller.point.0 0 edge →
    place.point ≡ edge.to → place.from ≡ caller.from → place.to ≡ exit.to →
    Returns flow places (length places) c x place
returns flow places c x target caller exit place edge sound caller_at exit_at may exit_is called has point from to =
    let function = sound.functions target (target-below flow sound caller.point.0 target may) in
    let own : function_of flow exit ≡ target =
    ap (λ (p : ℕ). (point_at flow p).function.0) exit_is ∙ function.exit.own in
    record {
      caller = caller;
      caller_at = caller_at;
      caller_earlier = slice_get_within places c caller caller_at;
      exit = exit;
      exit_at = exit_at;
      exit_earlier = slice_get_within places x exit exit_at;
      one_call = record {
        entered = sym from;
        function =
            sym (ap (λ (p : PointId). (point_at flow p.0).function.0) point ∙
            (edge-stays flow sound caller.point.0 0 edge has).own);
      };
      enters = subst (MayEnter flow caller.point.0) (sym own) may;
      leads = record { edge = edge; has = has; leads = sym (ap (λ (p : PointId). p.0) point) };
      is_exit = exit_is ∙ ap (exit_of flow) (sym own);
      goes_in = sym called;
      comes_out = sym to;
    }

-- a root enters its function at a place
pub starts-at : (flow : Flow) (roots : List Root) (k : ℕ) (root : Root) (place : Place) → IsSound flow →
    root.function.0 < function_count flow → slice_get roots k ≡ Some root →
    place.point ≡ (function_at flow root.function.0).first → place.from ≡ root.start → place.to ≡ root.start →
    StartsAt flow roots k place
starts-at flow roots k root place sound below listed point from to =
    let f : ℕ = root.function.0 in
    let own : function_of flow place ≡ f =
    ap (λ (p : PointId). (point_at flow p.0).function.0) point ∙ (sound.functions f below).first.own in
    record {
      root = root;
      listed = listed;
      function = own;
      start = from;
      entry = record {
        first = ap (first_of flow) own ∙ sym (ap (λ (p : PointId). p.0) point);
        state = from ∙ sym to;
      };
    }
