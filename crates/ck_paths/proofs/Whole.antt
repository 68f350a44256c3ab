-- The segments of a path are in form and fit the states.
use Rattle.std.proofs.Common.{◌≡◌, ℕ, ◌<◌, ◌⊎◌, ◌++◌, suc, true, false, List, [], ◌∷◌, Some, length, get_or, slice_get}
use Rattle.std.proofs.Common.{take, refl, sym, ap, ◌∙◌, subst, inl, inr, arith}
use Rattle.std.specs.Prelude.{slice_index_or}
use Rattle.std.specs.List.{Contains}
use Rattle.std.proofs.lemmas.Bool.{cases_lt}
use Rattle.std.proofs.lemmas.List.{take-map, length-map}
use Rattle.std.proofs.lemmas.List.Elements.{Contains-append_left, Contains-append_right}
use Rattle.std.proofs.lemmas.Option.{same_Some, slice_get-get_or, slice_get_within, get_or_from_slice_get}
use Rattle.ck_base.specs.declared.spans.FnId.{FnId}
use Rattle.ck_base.specs.declared.states.State.{State}
use Rattle.ck_graph.specs.declared.entries.Root.{Root}
use Rattle.ck_graph.specs.Flow.{Flow}
use Rattle.ck_graph.specs.Faults.{IsSound}
use Rattle.ck_graph.specs.Steps.{first_of, exit_of}
use Rattle.ck_segments.specs.declared.segments.Step.{Step}
use Rattle.ck_segments.specs.declared.segments.Step.TheVariants.{Call, Enter}
use Rattle.ck_segments.specs.Plain.{PlainSegment}
use Rattle.ck_segments.specs.Follows.{StepsLead}
use Rattle.ck_segments.specs.Form.{GoesInto, IsFinished, AreUnfinished, IsCited, AreInForm}
use Rattle.ck_segments.specs.Runs.{Through, StepsRun, RunsThrough, RunOn, StartsIn, Fit}
use Rattle.ck_paths.specs.declared.found.Place.{Place}
use Rattle.ck_paths.specs.declared.found.Reason.TheVariants.{AtRoot}
use Rattle.ck_paths.specs.Found.{IsAt}
use Rattle.ck_paths.specs.Justified.{AreJustified, StartsAt, function_of}
use Rattle.ck_paths.specs.Citing.{Cites, AreAscending, AreExitsFor}
use Rattle.ck_paths.specs.Search.{IsReady}
use Rattle.ck_paths.specs.Tracing.{IsEnteredFrom, IsSegmentInto, no_place, own_function, does_at, does_of, HasCallTo}
use Rattle.ck_paths.specs.Tracing.{IsSegmentTo, AreToExits, AreOpen}
use Rattle.ck_paths.proofs.Lists.{take-get, get-take}
use Rattle.ck_paths.proofs.Citations.{one, cites-root, cites-caller}
use Rattle.ck_paths.proofs.Traces.{does-there}
use Rattle.ck_paths.proofs.SegmentRuns.{AreMatched, RunsTo, same-function, lead-from_runs, stays-from_runs, runs-to}
use Rattle.ck_paths.proofs.SegmentRuns.{runs-into}

-- a number is at one place of an ascending list
pub one-place : (xs : List ℕ) (i j x : ℕ) → AreAscending xs → slice_get xs i ≡ Some x → slice_get xs j ≡ Some x → i ≡ j
one-place xs i j x up at_i at_j =
    let i_is : get_or xs i 0 ≡ x = get_or_from_slice_get xs i x 0 at_i in
    let j_is : get_or xs j 0 ≡ x = get_or_from_slice_get xs j x 0 at_j in
    elim (cases_lt i j) [
      | inl less ↦ absurd (omega (arith, up i j less (slice_get_within xs j x at_j), i_is, j_is))
      | inr more ↦ elim (cases_lt j i) [
        | inl greater ↦ absurd (omega (arith, up j i greater (slice_get_within xs i x at_i), i_is, j_is))
        | inr less ↦ omega (arith, more, less)
      ]
    ]

module _ (flow : Flow) (sound : IsSound flow) (roots : List Root) (places : List Place) (last : List ℕ)
    (ready : IsReady flow places last) (all : AreJustified flow roots places) (n : ℕ) (exits : List ℕ)
    (are : AreExitsFor flow places n exits) (finished : List PlainSegment)
    (to_exits : AreToExits flow places exits finished) where
  -- the exit, the segment and what it does, of a number
  record Finished (s : ℕ) (segment : PlainSegment) : Type 0 where
    x : ℕ
    listed : slice_get exits s ≡ Some x
    place : Place
    at : IsAt places x place
    is_exit : place.point.0 ≡ exit_of flow (function_of flow place)
    entry : ℕ
    start : Place
    leads : IsSegmentTo flow places (take s exits) entry x segment
    runs : RunsTo flow (does_of flow places (take s exits)) start segment.function segment.steps place

  finished-at : (s x : ℕ) (segment : PlainSegment) → slice_get exits s ≡ Some x → slice_get finished s ≡ Some segment →
      Finished s segment
  finished-at s x segment listed there =
      let each = to_exits.each s x listed in
      let exit = are.there x (s, listed) in
      let same : each.0 ≡ segment = same_Some each.0 segment (sym each.1 ∙ there) in
      let leads : IsSegmentTo flow places (take s exits) each.2 x segment =
      subst (λ (g : PlainSegment). IsSegmentTo flow places (take s exits) each.2 x g) same each.3 in
      record {
        x = x;
        listed = listed;
        place = exit.place;
        at = exit.at;
        is_exit = exit.is_exit;
        entry = each.2;
        start = leads.entered.place;
        leads = leads;
        runs =
            runs-to flow sound places last ready (take s exits) each.2 x segment leads leads.entered.place exit.place
            leads.entered.at exit.at;
      }

  finished-of : (s : ℕ) (segment : PlainSegment) → slice_get finished s ≡ Some segment → Finished s segment
  finished-of s segment there =
      let within : s < length exits = omega (arith, slice_get_within finished s segment there, to_exits.same) in
      finished-at s (get_or exits s 0) segment (slice_get-get_or exits s 0 within) there

  -- what a number of `does_of` is
  does-is : (s : ℕ) (segment : PlainSegment) → (f : Finished s segment) →
      slice_get (does_of flow places exits) s ≡ Some (does_at flow f.place)
  does-is s segment f = does-there flow places exits s f.x f.place f.at f.listed

  -- the segments are of the functions that the calls enter, also those before a number
  matched : AreMatched (does_of flow places exits) finished
  matched = record {
    each = λ s does is.
        let within : s < length exits =
        omega (
          arith,
          slice_get_within (does_of flow places exits) s does is,
          length-map exits
              (λ x. does_at flow (slice_index_or places x no_place)),
        ) in
        let each = to_exits.each s (get_or exits s 0) (slice_get-get_or exits s 0 within) in
        let f = finished-at s (get_or exits s 0) each.0 (slice_get-get_or exits s 0 within) each.1 in
        let same : does_at flow f.place ≡ does = same_Some (does_at flow f.place) does
        (sym (does-is s each.0 f) ∙ is) in
        (each.0, each.1, f.runs.own ∙ ap (λ (d : Through). d.function) same);
  }

  does-take : (s : ℕ) → does_of flow places (take s exits) ≡ take s (does_of flow places exits)
  does-take s = sym (take-map (λ x. does_at flow (slice_index_or places x no_place)) s exits)

  matched-before : (s : ℕ) → AreMatched (does_of flow places (take s exits)) (take s finished)
  matched-before s = record {
    each = λ k does is.
        let at = get-take (does_of flow places exits) s k does
        (ap (λ (ts : List Through). slice_get ts k) (sym (does-take s)) ∙ is) in
        let m = matched.each k does at.1 in
        (m.0, take-get finished s k m.0 at.0 m.1, m.2);
  }

  pub is-finished : (s : ℕ) (segment : PlainSegment) → slice_get finished s ≡ Some segment →
      IsFinished flow (take s finished) segment
  is-finished s segment there =
      let f = finished-of s segment there in
      let through : List Through = does_of flow places (take s exits) in
      let first : ℕ = first_of flow segment.function.0 in
      let exit : f.place.point.0 ≡ exit_of flow segment.function.0 =
      f.is_exit ∙ ap (λ (g : FnId). exit_of flow g.0) (sym f.runs.own) in
      record {
        path = record {
          function = f.runs.there;
          steps =
              subst (StepsLead flow first segment.steps) exit
              (lead-from_runs flow through segment.steps first f.start.from f.place.point.0 f.place.to f.runs.runs);
        };
        stays =
            stays-from_runs flow through (take s finished) (matched-before s) segment.steps first f.start.from
            f.place.point.0 f.place.to f.runs.inside f.runs.runs;
      }

  runs-through : (s : ℕ) (segment : PlainSegment) (does : Through) → slice_get finished s ≡ Some segment →
      slice_get (does_of flow places exits) s ≡ Some does →
      RunsThrough flow (take s (does_of flow places exits)) segment does
  runs-through s segment does there is =
      let f = finished-of s segment there in
      let same : does_at flow f.place ≡ does = same_Some (does_at flow f.place) does (sym (does-is s segment f) ∙ is) in
      let exit : f.place.point.0 ≡ exit_of flow segment.function.0 =
      f.is_exit ∙ ap (λ (g : FnId). exit_of flow g.0) (sym f.runs.own) in
      let first : ℕ = first_of flow segment.function.0 in
      subst (RunsThrough flow (take s (does_of flow places exits)) segment) same
      (record {
        function = f.runs.own;
        steps =
            subst (λ (ts : List Through). StepsRun flow ts first f.place.from segment.steps
            (exit_of flow segment.function.0) f.place.to) (does-take s)
            (subst (λ (q : ℕ). StepsRun flow (does_of flow places (take s exits)) first f.place.from segment.steps q
            f.place.to) exit
            (subst (λ (i : State). StepsRun flow (does_of flow places (take s exits)) first i segment.steps
            f.place.point.0 f.place.to) f.runs.entered f.runs.runs));
      })

  -- a finished segment has the calls that its exit's way back cites
  finished-cites : (s e x : ℕ) → slice_get exits s ≡ Some e → Cites places false e x →
      (segment : PlainSegment) × Contains finished segment × HasCallTo (take s exits) segment.steps x
  finished-cites s e x listed cites =
      let each = to_exits.each s e listed in
      let leads = each.3 in
      let inside : Contains finished each.0 =
      let within = slice_get_within finished s each.0 each.1 in
      (s, within, get_or_from_slice_get finished s each.0 each.0 each.1) in
      let entered = leads.entered in
      elim (leads.traced.down false x cites) [
        | inl call ↦ (each.0, inside, call)
        | inr further ↦ elim entered.cause [
          | inl root ↦ absurd (cites-root places false each.2 root.0 x entered.place entered.at root.1 further)
          | inr call ↦
              let no : false ≡ true = (cites-caller places false each.2 call.0 x entered.place entered.at call.1
              further).0 in
              absurd (cc)
        ]
      ]

  -- the first of open segments is of the function that is entered there
  function-of : (segments : List PlainSegment) (e : ℕ) (callee : Place) → IsAt places e callee →
      AreOpen flow places exits e segments n → StartsIn (own_function flow callee) segments
  function-of [] e callee at are_open = are_open
  function-of (segment ∷ []) e callee at are_open =
      are_open.function ∙ ap (own_function flow) (one places e are_open.entered.place callee are_open.entered.at at)
  function-of (segment ∷ (next ∷ rest)) e callee at (d, c, from, into, going_on) =
      into.function ∙ ap (own_function flow) (one places e into.entered.place callee into.entered.at at)

  module _ (end : Place) (end_at : IsAt places n end) where
    -- an unfinished segment has each call that the way back cites, or the way goes on
    open-cites : (segments : List PlainSegment) (entry x : ℕ) → AreOpen flow places exits entry segments n →
        Cites places true n x →
        ((segment : PlainSegment) × Contains segments segment × HasCallTo exits segment.steps x) ⊎ Cites places true
        entry x
    open-cites [] entry x are_open cites = absurd are_open
    open-cites (segment ∷ []) entry x are_open cites = elim (are_open.traced.down true x cites) [
      | inl call ↦ inl (segment, (0, omega arith, refl), call)
      | inr further ↦ inr further
    ]
    open-cites (segment ∷ (next ∷ rest)) entry x (e, c, from, into, going_on) cites =
        elim (open-cites (next ∷ rest) e x going_on cites) [
          | inl later ↦ inl (later.0, (suc-place later.1), later.2)
          | inr on_way ↦
              let caller = cites-caller places true e c x from.place from.at from.cause on_way in
              elim (into.traced.down true x caller.1) [
                | inl call ↦ inl (segment, (0, omega arith, refl), in-whole call)
                | inr further ↦ inr further
              ]
        ] where
          suc-place : {y : PlainSegment} → Contains (next ∷ rest) y → Contains (segment ∷ (next ∷ rest)) y
          suc-place h = (suc h.0, omega (arith, h.1), h.2)

          in-whole : HasCallTo exits into.before x → HasCallTo exits segment.steps x
          in-whole h = (
            h.0,
            subst (λ (steps : List Step). Contains steps h.0) (sym into.ends)
                (Contains-append_left into.before (Enter next.function ∷ []) h.0 h.1),
            h.2,
          )

    -- the unfinished segments run on, from the state in which the first one's function is entered
    runs-on : (segments : List PlainSegment) (entry : ℕ) (start : Place) → IsAt places entry start →
        AreOpen flow places exits entry segments n →
        RunOn flow (does_of flow places exits) start.from segments end.point.0 end.to
    runs-on [] entry start at are_open = absurd are_open
    runs-on (segment ∷ []) entry start at are_open =
        (runs-to flow sound places last ready exits entry n segment are_open start end at end_at).runs
    runs-on (segment ∷ (next ∷ rest)) entry start at (e, c, from, into, going_on) =
        let callee = from.place in
        let own : next.function ≡ own_function flow callee = function-of (next ∷ rest) e callee from.at going_on in
        let runs = runs-into flow sound places last ready roots all exits entry c e next.function segment into from
        start callee at from.at own in
        (callee.from, runs.runs, runs-on (next ∷ rest) e callee from.at going_on)

    -- a segment before the last goes into the next one's function
    pub goes-into : (segment next : PlainSegment) (rest : List PlainSegment) (entry e c : ℕ) (start : Place) →
        IsAt places entry start → (from : IsEnteredFrom places e c) →
        IsSegmentInto flow places exits entry c next.function segment →
        AreOpen flow places exits e (next ∷ rest) n → GoesInto flow finished segment next
    goes-into segment next rest entry e c start at from into going_on =
        let callee = from.place in
        let own : next.function ≡ own_function flow callee = function-of (next ∷ rest) e callee from.at going_on in
        let runs = runs-into flow sound places last ready roots all exits entry c e next.function segment into from
        start callee at from.at own in
        let through : List Through = does_of flow places exits in
        let first : ℕ = first_of flow segment.function.0 in
        record {
          path = record {
            function = runs.there;
            steps =
                lead-from_runs flow through segment.steps first start.from (first_of flow next.function.0) callee.from
                runs.runs;
          };
          before = runs.before;
          stays =
              stays-from_runs flow through finished matched runs.before first start.from runs.caller.point.0
              runs.caller.to
              runs.inside runs.inner;
          ends = runs.ends;
        }

    -- the unfinished segments are in form
    pub going-on : (segments : List PlainSegment) (entry : ℕ) (start : Place) → IsAt places entry start →
        AreOpen flow places exits entry segments n → AreUnfinished flow finished segments
    going-on [] entry start at are_open = absurd are_open
    going-on (segment ∷ []) entry start at are_open =
        let runs = runs-to flow sound places last ready exits entry n segment are_open start end at end_at in
        let through : List Through = does_of flow places exits in
        let first : ℕ = first_of flow segment.function.0 in
        record {
          to = end.point.0;
          path = record {
            function = runs.there;
            steps = lead-from_runs flow through segment.steps first start.from end.point.0 end.to runs.runs;
          };
          stays =
              stays-from_runs flow through finished matched segment.steps first start.from end.point.0 end.to
              runs.inside
              runs.runs;
        }
    going-on (segment ∷ (next ∷ rest)) entry start at (e, c, from, into, going_on) = (
      goes-into segment next rest entry e c start at from into going_on,
      going-on (next ∷ rest) e from.place from.at going_on,
    )

    -- each finished segment is cited
    pub cited-finished : (unfinished : List PlainSegment) (entry k : ℕ) (start : Place) → IsAt places entry start →
        start.reason ≡ AtRoot k → AreOpen flow places exits entry unfinished n →
        (s : ℕ) → s < length finished → IsCited (finished ++ unfinished) s
    cited-finished unfinished entry k start at root are_open s below =
        let within : s < length exits = omega (arith, below, to_exits.same) in
        let x : ℕ = get_or exits s 0 in
        let listed : slice_get exits s ≡ Some x = slice_get-get_or exits s 0 within in
        elim (are.cited x (s, listed)) [
          | inl direct ↦ elim (open-cites unfinished entry x are_open direct) [
            | inl call ↦ by-call call.0 (Contains-append_right finished unfinished call.0 call.1) exits (λ r y is. is)
                call.2 listed
            | inr further ↦ absurd (cites-root places true entry k x start at root further)
          ]
          | inr through ↦
              let r : ℕ = through.1.0 in
              let call = finished-cites r through.0 x through.1.1 through.2 in
              by-call call.0 (Contains-append_left finished unfinished call.0 call.1) (take r exits)
              (λ m y is. (get-take exits r m y is).1) call.2 listed
        ] where
          by-call : (segment : PlainSegment) → Contains (finished ++ unfinished) segment → (some : List ℕ) →
              ((m y : ℕ) → slice_get some m ≡ Some y → slice_get exits m ≡ Some y) →
              HasCallTo some segment.steps (get_or exits s 0) → slice_get exits s ≡ Some (get_or exits s 0) →
              IsCited (finished ++ unfinished) s
          by-call segment there some whole call listed =
              let target : FnId = call.2.0 in
              let m : ℕ = call.2.1 in
              let same : m ≡ s = one-place exits m s (get_or exits s 0) are.ascending
              (whole m (get_or exits s 0) call.2.3) listed in
              record {
                segment = segment;
                there = there;
                target = target;
                cites =
                    subst (λ (j : ℕ). Contains segment.steps (Call target j)) same
                    (subst (λ (step : Step). Contains segment.steps step) call.2.2 call.1);
              }

    unfoldable pub in-form : (unfinished : List PlainSegment) (entry k : ℕ) (start : Place) → IsAt places entry start →
        start.reason ≡ AtRoot k → AreOpen flow places exits entry unfinished n →
        (list : List PlainSegment) → list ≡ finished ++ unfinished → AreInForm flow list
    in-form unfinished entry k start at root are_open list parts = record {
      finished = finished;
      unfinished = unfinished;
      parts = parts;
      each_finished = is-finished;
      going_on = going-on unfinished entry start at are_open;
      each_cited = λ s below.
          subst (λ (xs : List PlainSegment). IsCited xs s) (sym parts)
          (cited-finished unfinished entry k start at root are_open s below);
    }

    pub fits : (unfinished : List PlainSegment) (entry k : ℕ) (start : Place) → IsAt places entry start →
        start.reason ≡ AtRoot k → (starts : StartsAt flow roots k start) →
        AreOpen flow places exits entry unfinished n →
        Fit flow starts.root finished unfinished end.point.0 end.to
    fits unfinished entry k start at root starts are_open = record {
      through = does_of flow places exits;
      same = omega (arith, to_exits.same, length-map exits (λ x. does_at flow (slice_index_or places x no_place)));
      each_through = runs-through;
      starts =
          subst (λ (f : FnId). StartsIn f unfinished)
          (same-function (own_function flow start) starts.root.function starts.function)
          (function-of unfinished entry start at are_open);
      run =
          subst (λ (i : State). RunOn flow (does_of flow places exits) i unfinished end.point.0 end.to) starts.start
          (runs-on unfinished entry start at are_open);
    }
