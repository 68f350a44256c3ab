-- One step more at the front of a trace, by the reason of the place to which it leads.
use Rattle.std.proofs.Common.{◌≡◌, ℕ, zero, suc, ◌<◌, ◌≤◌, List, [], ◌∷◌, Some, length, slice_get, get_or, refl, sym}
use Rattle.std.proofs.Common.{ap, ◌∙◌, subst, inl, inr, arith}
use Rattle.std.specs.Prelude.{slice_index_or, option_map}
use Rattle.std.specs.List.{Contains}
use Rattle.std.proofs.lemmas.List.Elements.{All-nil, All-cons}
use Rattle.std.proofs.lemmas.Bool.{cases_lt}
use Rattle.std.proofs.lemmas.Option.{slice_get-map, slice_get-get_or, slice_get_within, get_or_from_slice_get}
use Rattle.ck_base.specs.declared.spans.FnId.{FnId}
use Rattle.ck_base.specs.declared.states.State.{State}
use Rattle.ck_graph.specs.declared.entries.Root.{Root}
use Rattle.ck_graph.specs.Flow.{Flow}
use Rattle.ck_graph.specs.Steps.{MayEnter}
use Rattle.ck_segments.specs.declared.segments.Step.{Step}
use Rattle.ck_segments.specs.declared.segments.Step.TheVariants.{Edge, Call}
use Rattle.ck_segments.specs.Runs.{Through, StepRuns, StepsRun}
use Rattle.ck_paths.specs.declared.found.Place.{Place}
use Rattle.ck_paths.specs.declared.found.Reason.TheVariants.{ByEdge, OverCall}
use Rattle.ck_paths.specs.Found.{IsAt}
use Rattle.ck_paths.specs.Justified.{AreJustified, AreInOneCall, GoesAlong, Returns}
use Rattle.ck_paths.specs.Citing.{by_edge, before as further_back, IsListed, AreAscending}
use Rattle.ck_paths.specs.Tracing.{no_place, own_function, does_at, does_of, IsInside, IsTrace, LeadsFrom, IsTraced}
use Rattle.ck_paths.proofs.Citations.{one, holds, cites-edge, cites-over}

there : (places : List Place) (n : ℕ) → n < length places → (place : Place) × IsAt places n place
there [] n below = absurd (omega (arith, below))
there (p ∷ places) zero below = (p, refl)
there (p ∷ places) (suc n) below = there places n (omega (arith, below))

-- at first there are no steps
pub traced-none : (flow : Flow) (places : List Place) (exits : List ℕ) (n : ℕ) → n < length places →
    IsTraced flow places exits n n []
traced-none flow places exits n below =
    let t = there places n below in
    record {
      trace = record {
        from = t.0;
        from_at = t.1;
        to = t.0;
        to_at = t.1;
        one_call = record { entered = refl; function = refl };
        runs = (refl, refl);
        inside = All-nil IsInside;
      };
      earlier = omega arith;
      up = λ on x h. h;
      down = λ on x h. inr h;
    }

one_call-then : (flow : Flow) (a b c : Place) → AreInOneCall flow a b → AreInOneCall flow b c → AreInOneCall flow a c
one_call-then flow a b c first then = record {
  entered = first.entered ∙ then.entered;
  function = first.function ∙ then.function;
}

-- a step from an earlier place, and the trace from there on
trace-cons : (flow : Flow) (places : List Place) (exits : List ℕ) (a b n : ℕ) (before place : Place) (step : Step)
    (steps : List Step) → IsAt places b before → IsAt places a place → AreInOneCall flow before place →
    StepRuns flow (does_of flow places exits) before.point.0 before.to step place.point.0 place.to → IsInside step →
    IsTrace flow places exits a n steps → IsTrace flow places exits b n (step ∷ steps)
trace-cons flow places exits a b n before place step steps at_b at one_call runs inside trace =
    let through : List Through = does_of flow places exits in
    let same : trace.from ≡ place = one places a trace.from place trace.from_at at in
    record {
      from = before;
      from_at = at_b;
      to = trace.to;
      to_at = trace.to_at;
      one_call =
          one_call-then flow before place trace.to one_call
          (subst (λ (p : Place). AreInOneCall flow p trace.to) same trace.one_call);
      runs = (
        place.point.0,
        place.to,
        runs,
        subst (λ (p : Place). StepsRun flow through p.point.0 p.to steps trace.to.point.0 trace.to.to) same trace.runs,
      );
      inside = All-cons IsInside step steps inside trace.inside;
    }

pub leads-edge : (flow : Flow) (roots : List Root) (places : List Place) (exits : List ℕ) (a b k : ℕ) (place : Place) →
    AreJustified flow roots places → IsAt places a place → place.reason ≡ ByEdge b k →
    LeadsFrom flow places exits a b (Edge k)
leads-edge flow roots places exits a b k place all at is =
    let g : GoesAlong flow places a b k place = holds flow roots places all a place (ByEdge b k) at is in
    record {
      earlier = g.earlier;
      more = λ n steps trace.
          trace-cons flow places exits a b n g.before place (Edge k) steps g.at at g.one_call g.runs tt trace;
      up = λ on x h. by_edge a b k x place at is h;
      down = λ on x h. inr (cites-edge places on a b k x place at is h);
    }

-- what a segment does that leads to the exit of this number
pub does-there : (flow : Flow) (places : List Place) (exits : List ℕ) (s x : ℕ) (place : Place) → IsAt places x place →
    slice_get exits s ≡ Some x → slice_get (does_of flow places exits) s ≡ Some (does_at flow place)
does-there flow places exits s x place at listed =
    let does = λ (y : ℕ). does_at flow (slice_index_or places y no_place) in
    let read : slice_index_or places x no_place ≡ place = get_or_from_slice_get places x place no_place at in
    slice_get-map does exits s ∙ (ap (option_map does) listed ∙ ap (λ (p : Place). Some (does_at flow p)) read)

pub leads-call : (flow : Flow) (roots : List Root) (places : List Place) (exits : List ℕ) (a c x segment : ℕ)
    (target : FnId) (place exit : Place) → AreJustified flow roots places → IsAt places a place →
    place.reason ≡ OverCall c x → IsAt places x exit → target ≡ own_function flow exit →
    slice_get exits segment ≡ Some x → LeadsFrom flow places exits a c (Call target segment)
leads-call flow roots places exits a c x segment target place exit all at is exit_at named listed =
    let r : Returns flow places a c x place = holds flow roots places all a place (OverCall c x) at is in
    let same : r.exit ≡ exit = one places x r.exit exit r.exit_at exit_at in
    let does : does_at flow exit ≡ record { function = target; entered = r.caller.to; left = place.to } =
    ap (λ (f : FnId). record { function = f; entered = exit.from; left = exit.to }) (sym named) ∙
    (ap (λ (s : State). record { function = target; entered = s; left = exit.to })
    (sym (r.goes_in ∙ ap (λ (p : Place). p.from) same)) ∙
    ap (λ (s : State). record { function = target; entered = r.caller.to; left = s })
    (sym (ap (λ (p : Place). p.to) same) ∙ r.comes_out)) in
    let enters : MayEnter flow r.caller.point.0 target.0 =
    subst (λ (f : FnId). MayEnter flow r.caller.point.0 f.0) (sym named)
    (subst (λ (p : Place). MayEnter flow r.caller.point.0 (own_function flow p).0) same r.enters) in
    record {
      earlier = r.caller_earlier;
      more = λ n steps trace.
          trace-cons flow places exits a c n r.caller place (Call target segment) steps r.caller_at at r.one_call
          ((enters, r.leads), does-there flow places exits segment x exit exit_at listed ∙ ap Some does) tt trace;
      up = λ on y h. further_back a c x y place at is h;
      down = λ on y h. elim (cites-over places on a c x y place at is h) [
        | inl here ↦ inl (target, segment, refl, listed ∙ ap Some here)
        | inr further ↦ inr further
      ];
    }

-- a trace that goes one step further back
pub traced-more : (flow : Flow) (places : List Place) (exits : List ℕ) (a b n : ℕ) (step : Step) (steps : List Step) →
    LeadsFrom flow places exits a b step → IsTraced flow places exits a n steps →
    IsTraced flow places exits b n (step ∷ steps)
traced-more flow places exits a b n step steps leads traced = record {
  trace = leads.more n steps traced.trace;
  earlier = omega (arith, leads.earlier, traced.earlier);
  up = λ on x h. traced.up on x (leads.up on x h);
  down = λ on x h. elim (traced.down on x h) [
    | inl done ↦ inl (done.0, contains-cons step steps done.0 done.1, done.2)
    | inr further ↦ elim (leads.down on x further) [
      | inl here ↦ inl (step, (0, omega arith, refl), here)
      | inr rest ↦ inr rest
    ]
  ];
} where
  contains-cons : (y : Step) (xs : List Step) (z : Step) → Contains xs z → Contains (y ∷ xs) z
  contains-cons y xs z h = (suc h.0, omega (arith, h.1), h.2)

-- a binary search finds what is there
pub found-there : (exits : List ℕ) (x k : ℕ) → get_or exits k 0 ≡ x → k < length exits → slice_get exits k ≡ Some x
found-there exits x k is within = slice_get-get_or exits k 0 within ∙ ap Some is

pub never-lost : (exits : List ℕ) (x i : ℕ) → ((k : ℕ) → k < i → get_or exits k 0 < x) →
    ((k : ℕ) → i ≤ k → k < length exits → x < get_or exits k 0) → IsListed exits x → ⊥
never-lost exits x i low high (k, is) =
    let read : get_or exits k 0 ≡ x = get_or_from_slice_get exits k x 0 is in
    elim (cases_lt k i) [
      | inl before ↦ omega (arith, low k before, read)
      | inr after ↦ omega (arith, high k after (slice_get_within exits k x is), read)
    ]

pub never-falls : (exits : List ℕ) → AreAscending exits → (i j : ℕ) → i ≤ j → j < length exits →
    get_or exits i 0 ≤ get_or exits j 0
never-falls exits up i j upto within = elim (cases_lt i j) [
  | inl before ↦ omega (arith, up i j before within)
  | inr same ↦ let e : i ≡ j = omega (arith, upto, same) in omega (arith, ap (λ (k : ℕ). get_or exits k 0) e)
]
