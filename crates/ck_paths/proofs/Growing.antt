-- A list of places that grows keeps what its reasons say.
use Rattle.std.proofs.Common.{ℕ, List, [], ◌∷◌, ◌++◌, length, refl, sym, ◌∙◌, subst, inl, inr}
use Rattle.ck_base.specs.declared.spans.PointId.{PointId}
use Rattle.ck_base.specs.declared.states.State.{State}
use Rattle.ck_graph.specs.declared.entries.Root.{Root}
use Rattle.ck_graph.specs.Flow.{Flow}
use Rattle.ck_paths.specs.declared.found.Place.{Place}
use Rattle.ck_paths.specs.declared.found.Reason.{Reason}
use Rattle.ck_paths.specs.declared.found.Reason.TheVariants.{AtRoot, ByEdge, IntoCall, OverCall}
use Rattle.ck_paths.specs.Found.{IsAt, HasPlace, Extends, IsAdded, Adds, was_there, one_more}
use Rattle.ck_paths.specs.Justified.{Holds, AreJustified}
use Rattle.ck_paths.specs.Search.{IsReady, Grows}
use Rattle.ck_paths.proofs.Lists.{at-push, at-append, at-last}

pub holds-kept : (flow : Flow) (roots : List Root) (old new : List Place) (n : ℕ) (place : Place) (reason : Reason) →
    Extends old new → Holds flow roots old n place reason → Holds flow roots new n place reason
holds-kept flow roots old new n place (AtRoot k) kept h = h
holds-kept flow roots old new n place (ByEdge b k) kept h = record {
  before = h.before;
  at = kept b h.before h.at;
  earlier = h.earlier;
  one_call = h.one_call;
  runs = h.runs;
}
holds-kept flow roots old new n place (IntoCall c) kept h = record {
  caller = h.caller;
  at = kept c h.caller h.at;
  earlier = h.earlier;
  enters = h.enters;
  state = h.state;
  entry = h.entry;
}
holds-kept flow roots old new n place (OverCall c x) kept h = record {
  caller = h.caller;
  caller_at = kept c h.caller h.caller_at;
  caller_earlier = h.caller_earlier;
  exit = h.exit;
  exit_at = kept x h.exit h.exit_at;
  exit_earlier = h.exit_earlier;
  one_call = h.one_call;
  enters = h.enters;
  leads = h.leads;
  is_exit = h.is_exit;
  goes_in = h.goes_in;
  comes_out = h.comes_out;
}

justified-more : (flow : Flow) (roots : List Root) (old : List Place) (place : Place) →
    Holds flow roots old (length old) place place.reason → AreJustified flow roots old →
    AreJustified flow roots (old ++ place ∷ [])
justified-more flow roots old place holds all n y at = elim (at-push old place n y at) [
  | inl before ↦ holds-kept flow roots old (old ++ place ∷ []) n y y.reason (at-append old (place ∷ []))
      (all n y before)
  | inr new ↦ subst (λ (k : ℕ). Holds flow roots (old ++ place ∷ []) k y y.reason) (sym new.0)
      (subst (λ (x : Place). Holds flow roots (old ++ place ∷ []) (length old) x x.reason) new.1
      (holds-kept flow roots old (old ++ place ∷ []) (length old) place place.reason (at-append old (place ∷ []))
      holds))
]

pub justified-added : (flow : Flow) (roots : List Root) (point : PointId) (from to : State) (reason : Reason)
    (old new : List Place) → IsAdded point from to reason old new →
    ((same : ℕ) → let place : Place = record {
      point = point;
      from = from;
      to = to;
      reason = reason;
      same =
          same;
    } in Holds flow roots old (length old) place reason) → AreJustified flow roots old →
    AreJustified flow roots new
justified-added flow roots point from to reason old new (was_there same has) holds all =
    subst (AreJustified flow roots) (sym same) all
justified-added flow roots point from to reason old new (one_more same is) holds all =
    subst (AreJustified flow roots) (sym is) (justified-more flow roots old
    (record { point = point; from = from; to = to; reason = reason; same = same }) (holds same) all)

pub extends-added : (point : PointId) (from to : State) (reason : Reason) (old new : List Place) →
    IsAdded point from to reason old new → Extends old new
extends-added point from to reason old new (was_there same has) n y at = subst (λ xs. IsAt xs n y) (sym same) at
extends-added point from to reason old new (one_more same is) n y at =
    subst (λ xs. IsAt xs n y) (sym is) (at-append old (record
    { point = point; from = from; to = to; reason = reason; same = same } ∷ []) n y at)

pub has-added : (point : PointId) (from to : State) (reason : Reason) (old new : List Place) →
    IsAdded point from to reason old new → HasPlace new point.0 from to
has-added point from to reason old new (was_there same has) = subst (λ xs. HasPlace xs point.0 from to) (sym same) has
has-added point from to reason old new (one_more same is) =
    let place : Place = record { point = point; from = from; to = to; reason = reason; same = same } in
    subst (λ xs. HasPlace xs point.0 from to) (sym is) (record
    { number = length old; place = place; at = at-last old place; point_is = refl; from_is = refl; to_is = refl })

pub has-kept : (old new : List Place) (p : ℕ) (from to : State) → Extends old new → HasPlace old p from to →
    HasPlace new p from to
has-kept old new p from to kept h = record {
  number = h.number;
  place = h.place;
  at =
      kept h.number h.place h.at;
  point_is = h.point_is;
  from_is = h.from_is;
  to_is = h.to_is;
}

pub grows-added : (flow : Flow) (point : PointId) (from to : State) (reason : Reason) (old new : List Place)
    (old_last new_last : List ℕ) → IsReady flow old old_last → Adds point from to reason old old_last new new_last →
    ((same : ℕ) → let place : Place = record {
      point = point;
      from = from;
      to = to;
      reason = reason;
      same =
          same;
    } in (roots : List Root) → Holds flow roots old (length old) place reason) → Grows flow old new new_last
grows-added flow point from to reason old new old_last new_last ready adds holds = record {
  ready = record { linked = adds.linked; size = adds.size ∙ ready.size };
  kept = extends-added point from to reason old new adds.added;
  justified = λ roots all. justified-added flow roots point from to reason old new adds.added
      (λ same. holds same roots) all;
}

pub Grows-none : (flow : Flow) (places : List Place) (last : List ℕ) → IsReady flow places last →
    Grows flow places places last
Grows-none flow places last ready = record { ready = ready; kept = λ n y at. at; justified = λ roots all. all }

pub Grows-then : (flow : Flow) (old mid new : List Place) (mid_last new_last : List ℕ) → Grows flow old mid mid_last →
    Grows flow mid new new_last → Grows flow old new new_last
Grows-then flow old mid new mid_last new_last first then = record {
  ready = then.ready;
  kept = λ n y at. then.kept n y (first.kept n y at);
  justified = λ roots all. then.justified roots (first.justified roots all);
}
