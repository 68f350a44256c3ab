-- The lists of calls, as they are filled.
use Rattle.std.proofs.Common.{◌≡◌, ◌⊎◌, ◌↔◌, ℕ, zero, suc, ◌+◌, ◌<◌, ◌≤◌, ◌≢◌, List, [], ◌∷◌, ◌++◌, Some, length, set}
use Rattle.std.proofs.Common.{get_or, slice_get, refl, sym, ap, ◌∙◌, subst, inl, inr, arith, get_or-set_same}
use Rattle.std.proofs.Common.{get_or-set_other}
use Rattle.std.specs.List.{Contains}
use Rattle.std.proofs.lemmas.Bool.{cases_eq, cases_lt}
use Rattle.std.proofs.lemmas.List.{length-append, length-set, length-map, map-set, get_or-map}
use Rattle.std.proofs.lemmas.List.Elements.{Contains-get_or, Contains-push, Contains-push_cases, Contains-append_left}
use Rattle.std.proofs.lemmas.Option.{slice_get-get_or, slice_get_within}
use Rattle.std.specs.declared.alloc.Global.{Global}
use Rattle.std.specs.declared.vec.Vec.{Vec}
use Rattle.ck_base.specs.declared.spans.FnId.{FnId}
use Rattle.ck_base.specs.declared.spans.PointId.{PointId}
use Rattle.ck_graph.specs.declared.points.PointKind.TheVariants.{Call}
use Rattle.ck_graph.specs.Flow.{Flow, point_at, function_count}
use Rattle.ck_graph.specs.Walk.{names_target}
use Rattle.ck_graph.specs.Steps.{kind_at, MayEnter}
use Rattle.ck_summary.specs.Solution.{callers_at, items_of, lists_of, AreCallers}
use Rattle.ck_summary.specs.Callers.{AddsCaller}
use Rattle.ck_summary.proofs.Targets.{MayEnter-from_place, named-place}

pub callers_at-set_same : (lists : List (List PointId)) (i : ℕ) (calls : List PointId) → i < length lists →
    callers_at (set lists i calls) i ≡ calls
unfolding callers_at
callers_at-set_same lists i calls within = get_or-set_same lists i calls [] within

pub callers_at-set_other : (lists : List (List PointId)) (i j : ℕ) (calls : List PointId) → j ≢ i →
    callers_at (set lists i calls) j ≡ callers_at lists j
unfolding callers_at
callers_at-set_other lists i j calls ne = get_or-set_other lists i j calls [] ne

-- a list of calls, as it is read in memory
pub callers_at-items : (items : List (Vec PointId Global)) (i : ℕ) (calls : Vec PointId Global) → i < length items →
    calls ≡ get_or items i calls → calls.items ≡ callers_at (lists_of items) i
unfolding callers_at
callers_at-items items i calls within is = ap items_of is ∙ sym (get_or-map items_of items i calls [] within)

-- a call point was added to one list
pub added-one : (lists : List (List PointId)) (i : ℕ) (point : PointId) → i < length lists → (f : ℕ) (call : PointId) →
    Contains (callers_at (set lists i (callers_at lists i ++ point ∷ [])) f) call ↔
    (Contains (callers_at lists f) call ⊎ ((call ≡ point) × (f ≡ i)))
added-one lists i point within f call =
    let calls : List PointId = callers_at lists i ++ point ∷ [] in
    let same : callers_at (set lists i calls) i ≡ calls = callers_at-set_same lists i calls within in
    elim (cases_eq f i) [
      | inl e ↦
          let at : callers_at (set lists i calls) f ≡ calls = ap (callers_at (set lists i calls)) e ∙ same in (
            λ there. elim
                (Contains-push_cases (callers_at lists i) point call (subst (λ l. Contains l call) at there)) [
                  | inl old ↦ inl (subst (λ x. Contains (callers_at lists x) call) (sym e) old)
                  | inr new ↦ inr (sym new, e)
                ],
            λ w. subst (λ l. Contains l call) (sym at) (elim w [
              | inl old ↦ Contains-append_left (callers_at lists i) (point ∷ []) call
                  (subst (λ x. Contains (callers_at lists x) call) e old)
              | inr new ↦ subst (Contains calls) (sym new.0) (Contains-push (callers_at lists i) point)
            ]),
          )
      | inr ne ↦
          let at : callers_at (set lists i calls) f ≡ callers_at lists f = callers_at-set_other lists i f calls ne in (
            λ there. inl (subst (λ l. Contains l call) at there),
            λ w. elim w [
              | inl old ↦ subst (λ l. Contains l call) (sym at) old
              | inr new ↦ absurd (ne new.1)
            ],
          )
    ]

-- one of the first n targets is this function
pub record IsTargetBelow (targets : List FnId) (n function : ℕ) : Type 0 where
  pub place : ℕ
  pub below : place < n
  pub target : FnId
  pub there : slice_get targets place ≡ Some target
  pub is : target.0 ≡ function

-- the point was added to the lists of the first n targets
pub record AddedSoFar (point : PointId) (targets : List FnId) (old new : List (List PointId)) (n : ℕ) : Type 0 where
  pub functions : length new ≡ length old
  pub exactly : (f : ℕ) (call : PointId) →
      Contains (callers_at new f) call ↔
      (Contains (callers_at old f) call ⊎ ((call ≡ point) × IsTargetBelow targets n f))

pub added-none : (point : PointId) (targets : List FnId) (lists : List (List PointId)) →
    AddedSoFar point targets lists lists 0
added-none point targets lists = record {
  functions = refl;
  exactly = λ f call. (
    λ there. inl there,
    λ w. elim w [ inl old ↦ old | inr new ↦ absurd (omega (arith, new.1.below)) ],
  );
}

-- what is in the lists after one more target was in them before, or comes from a target
added_more-only : (point : PointId) (targets : List FnId) (old mid : List (List PointId)) (n : ℕ) (target : FnId) →
    slice_get targets n ≡ Some target → target.0 < length mid → AddedSoFar point targets old mid n →
    (f : ℕ) (call : PointId) →
    Contains (callers_at (set mid target.0 (callers_at mid target.0 ++ point ∷ [])) f) call →
    Contains (callers_at old f) call ⊎ ((call ≡ point) × IsTargetBelow targets (n + 1) f)
added_more-only point targets old mid n target there within before f call has =
    elim ((added-one mid target.0 point within f call).0 has) [
      | inl was ↦ elim ((before.exactly f call).0 was) [
        | inl o ↦ inl o
        | inr x ↦ inr (
          x.0,
          record {
            place = x.1.place;
            below = omega (arith, x.1.below);
            target = x.1.target;
            there = x.1.there;
            is = x.1.is;
          },
        )
      ]
      | inr new ↦ inr (
        new.0,
        record { place = n; below = omega arith; target = target; there = there; is = sym new.1 },
      )
    ]

-- the lists after one more target have what was in them before, and what comes from a target
added_more-all : (point : PointId) (targets : List FnId) (old mid : List (List PointId)) (n : ℕ) (target : FnId) →
    slice_get targets n ≡ Some target → target.0 < length mid → AddedSoFar point targets old mid n →
    (f : ℕ) (call : PointId) →
    Contains (callers_at old f) call ⊎ ((call ≡ point) × IsTargetBelow targets (n + 1) f) →
    Contains (callers_at (set mid target.0 (callers_at mid target.0 ++ point ∷ [])) f) call
added_more-all point targets old mid n target there within before f call w =
    (added-one mid target.0 point within f call).1 (elim w [
      | inl o ↦ inl ((before.exactly f call).1 (inl o))
      | inr x ↦ elim (cases_lt x.1.place n) [
        | inl below ↦
            let t : IsTargetBelow targets n f =
            record { place = x.1.place; below = below; target = x.1.target; there = x.1.there; is = x.1.is } in
            inl ((before.exactly f call).1 (inr (x.0, t)))
        | inr last ↦
            let place : x.1.place ≡ n = omega (arith, last, x.1.below) in
            let read : Some x.1.target ≡ Some target = sym x.1.there ∙ (ap (slice_get targets) place ∙ there) in
            let same : x.1.target ≡ target = cc in
            inr (x.0, sym x.1.is ∙ ap (λ (t : FnId). t.0) same)
      ]
    ])

pub added-more : (point : PointId) (targets : List FnId) (old mid : List (List PointId)) (n : ℕ) (target : FnId) →
    slice_get targets n ≡ Some target → target.0 < length mid → AddedSoFar point targets old mid n →
    AddedSoFar point targets old (set mid target.0 (callers_at mid target.0 ++ point ∷ [])) (n + 1)
added-more point targets old mid n target there within before = record {
  functions = length-set mid target.0 (callers_at mid target.0 ++ point ∷ []) ∙ before.functions;
  exactly = λ f call. (
    added_more-only point targets old mid n target there within before f call,
    added_more-all point targets old mid n target there within before f call,
  );
}

-- a call point was pushed in memory
pub added-pushed : (point : PointId) (targets : List FnId) (old : List (List PointId))
    (items : List (Vec PointId Global)) (n : ℕ) (target : FnId) (was is : Vec PointId Global) →
    slice_get targets n ≡ Some target → target.0 < length old → AddedSoFar point targets old (lists_of items) n →
    was ≡ get_or items target.0 was → is.items ≡ was.items ++ point ∷ [] →
    AddedSoFar point targets old (lists_of (set items target.0 is)) (n + 1)
added-pushed point targets old items n target was is there within before read pushed =
    let lists : List (List PointId) = lists_of items in
    let below : target.0 < length items = omega (arith, within, before.functions, length-map items items_of) in
    let calls : is.items ≡ callers_at lists target.0 ++ point ∷ [] = pushed ∙
    ap (λ x. x ++ point ∷ []) (callers_at-items items target.0 was below read) in
    subst (λ new. AddedSoFar point targets old new (n + 1))
    (sym (map-set items_of items target.0 is ∙ ap (set lists target.0) calls))
    (added-more point targets old lists n target there (omega (arith, within, before.functions)) before)

pub length-pushed : (items new : List (Vec PointId Global)) (calls : Vec PointId Global) → new ≡ items ++ calls ∷ [] →
    length new ≡ length items + 1
length-pushed items new calls is = ap length is ∙ length-append items (calls ∷ [])

-- one more list, which is empty
pub none-pushed : (items new : List (Vec PointId Global)) (calls : Vec PointId Global) → new ≡ items ++ calls ∷ [] →
    calls.items ≡ [] → ((f : ℕ) → callers_at (lists_of items) f ≡ []) → (f : ℕ) → callers_at (lists_of new) f ≡ []
unfolding callers_at
none-pushed items new calls is empty none f = ap (λ x. get_or (lists_of x) f []) is ∙ appended items none f where
  appended : (xs : List (Vec PointId Global)) → ((k : ℕ) → get_or (lists_of xs) k [] ≡ []) → (k : ℕ) →
      get_or (lists_of (xs ++ calls ∷ [])) k [] ≡ []
  appended [] before zero = empty
  appended [] before (suc k) = refl
  appended (x ∷ xs) before zero = before zero
  appended (x ∷ xs) before (suc k) = appended xs (λ j. before (suc j)) k

pub no_calls : (lists : List (List PointId)) → ((f : ℕ) → callers_at lists f ≡ []) → (f : ℕ) (call : PointId) →
    Contains (callers_at lists f) call → ⊥
no_calls lists none f call there =
    let nothing : Contains [] call = subst (λ l. Contains l call) (none f) there in
    absurd (omega (arith, nothing.1))

-- the calls of a function, read one after the other
pub called : (flow : Flow) (lists : List (List PointId)) (f : ℕ) (calls : List PointId) (n : ℕ) (d : PointId) →
    AreCallers flow lists → f < function_count flow → calls ≡ callers_at lists f → n < length calls →
    MayEnter flow (get_or calls n d).0 f
called flow lists f calls n d are below is within =
    (are.exactly f below (get_or calls n d)).0
    (subst (λ l. Contains l (get_or calls n d)) is (Contains-get_or calls n d within))

pub adds-from_all : (point : PointId) (targets : List FnId) (old new : List (List PointId)) (n : ℕ) →
    length targets ≤ n → AddedSoFar point targets old new n → AddsCaller point targets old new
adds-from_all point targets old new n all so_far = record {
  functions = so_far.functions;
  exactly = λ f call.
      let is = so_far.exactly f call in (
        λ has. elim (is.0 has) [
          | inl o ↦ inl o
          | inr x ↦
              let within : x.1.place < length targets = slice_get_within targets x.1.place x.1.target x.1.there in
              let read : Some (get_or targets x.1.place x.1.target) ≡ Some x.1.target =
              sym (slice_get-get_or targets x.1.place x.1.target within) ∙ x.1.there in
              let same : get_or targets x.1.place x.1.target ≡ x.1.target = cc in
              inr (x.0, (x.1.target, (x.1.place, within, same), x.1.is))
        ],
        λ w. is.1 (elim w [
          | inl o ↦ inl o
          | inr x ↦
              let t = x.1 in
              inr (
                x.0,
                record {
                  place = t.1.0;
                  below = omega (arith, all, t.1.1);
                  target = t.0;
                  there =
                      slice_get-get_or targets t.1.0 t.0 t.1.1 ∙ ap Some t.1.2;
                  is = t.2;
                },
              )
        ]),
      );
}

-- the calls at points below n
pub record CallersBelow (flow : Flow) (lists : List (List PointId)) (n : ℕ) : Type 0 where
  pub functions : length lists ≡ function_count flow
  pub exactly : (f : ℕ) (call : PointId) → f < function_count flow →
      Contains (callers_at lists f) call ↔ ((call.0 < n) × MayEnter flow call.0 f)

pub callers-none : (flow : Flow) (lists : List (List PointId)) → length lists ≡ function_count flow →
    ((f : ℕ) (call : PointId) → Contains (callers_at lists f) call → ⊥) → CallersBelow flow lists 0
callers-none flow lists functions none = record {
  functions = functions;
  exactly = λ f call below. (λ has. absurd (none f call has), λ w. absurd (omega (arith, w.0)));
}

number-one : (a b : PointId) → a.0 ≡ b.0 → a ≡ b
number-one a b e = ap (λ n. let point : PointId = record { 0 = n } in point) e

pub callers-call : (flow : Flow) (old new : List (List PointId)) (point : PointId) (targets : List FnId) (call : ℕ) →
    kind_at flow point.0 ≡ Call call → targets ≡ (point_at flow point.0).targets → CallersBelow flow old point.0 →
    AddsCaller point targets old new → CallersBelow flow new (point.0 + 1)
callers-call flow old new point targets call is same before adds = record {
  functions = adds.functions ∙ before.functions;
  exactly = λ f c below.
      let was = before.exactly f c below in (
        λ has. elim ((adds.exactly f c).0 has) [
          | inl o ↦ let w = was.0 o in (omega (arith, w.0), w.1)
          | inr x ↦
              let t = x.1 in
              let may : MayEnter flow point.0 t.0.0 =
              MayEnter-from_place flow point.0 targets t.1.0 t.0 (call, is) same
              (slice_get-get_or targets t.1.0 t.0 t.1.1 ∙ ap Some t.1.2) in
              let at : c.0 ≡ point.0 = ap (λ (p : PointId). p.0) x.0 in
              (omega (arith, at), subst (λ q. MayEnter flow q f) (sym at) (subst (MayEnter flow point.0) t.2 may))
        ],
        λ w. (adds.exactly f c).1 (elim (cases_lt c.0 point.0) [
          | inl below ↦ inl (was.1 (below, w.1))
          | inr last ↦
              let at : c.0 ≡ point.0 = omega (arith, last, w.0) in
              let may : MayEnter flow point.0 f = subst (λ q. MayEnter flow q f) at w.1 in
              let place = named-place targets f (ap (λ ts. names_target ts f) same ∙ may.named) in
              let within : place.0 < length targets = slice_get_within targets place.0 place.1 place.2 in
              let read : Some (get_or targets place.0 place.1) ≡ Some place.1 =
              sym (slice_get-get_or targets place.0 place.1 within) ∙ place.2 in
              let here : get_or targets place.0 place.1 ≡ place.1 = cc in
              inr (number-one c point at, (place.1, (place.0, within, here), place.3))
        ]),
      );
}

pub callers-other : (flow : Flow) (lists : List (List PointId)) (n : ℕ) →
    ((call : ℕ) → kind_at flow n ≡ Call call → ⊥) → CallersBelow flow lists n → CallersBelow flow lists (n + 1)
callers-other flow lists n other before = record {
  functions = before.functions;
  exactly = λ f c below.
      let was = before.exactly f c below in (
        λ has. let w = was.0 has in (omega (arith, w.0), w.1),
        λ w. was.1 (elim (cases_lt c.0 n) [
          | inl below ↦ (below, w.1)
          | inr last ↦ absurd (let at : c.0 ≡ n =
              omega (arith, last, w.0) in other w.1.call (ap (kind_at flow) (sym at) ∙ w.1.is_call))
        ]),
      );
}

pub callers-from_all : (flow : Flow) (lists : List (List PointId)) (n : ℕ) → ((p f : ℕ) → MayEnter flow p f → p < n) →
    CallersBelow flow lists n → AreCallers flow lists
callers-from_all flow lists n all so_far = record {
  functions = so_far.functions;
  exactly = λ f below call. let is =
      so_far.exactly f call below in (λ has. (is.0 has).1, λ may. is.1 (all call.0 f may, may));
}
