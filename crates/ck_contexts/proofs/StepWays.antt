-- Ways through a list of steps: what they do from a place on, and how a pick calls any list of its functions.
use Rattle.std.proofs.Common.{◌≡◌, ℕ, zero, suc, ◌+◌, ◌*◌, ◌<◌, ◌≤◌, ◌⊎◌, List, [], ◌∷◌, ◌++◌, Some, None}
use Rattle.std.proofs.Common.{length, get_or, slice_get, refl, sym, ap, ◌∙◌, subst, inl, inr, arith}
use Rattle.std.specs.List.{All, Contains, flat_map}
use Rattle.std.proofs.lemmas.List.{append_assoc, length-append, get_or_default}
use Rattle.std.proofs.lemmas.List.Elements.{All-nil, All-cons, All-head, All-tail}
use Rattle.std.proofs.lemmas.Option.{slice_get_past, slice_get_within, slice_get-get_or}
use Rattle.ck_base.specs.declared.ops.Op.{Op}
use Rattle.ck_base.specs.declared.spans.FnId.{FnId}
use Rattle.ck_graph.specs.declared.points.ActName.{ActName}
use Rattle.ck_contexts.specs.declared.steps.Step.{Step}
use Rattle.ck_contexts.specs.declared.steps.Step.TheVariants.{Act, Call, Pick}
use Rattle.ck_contexts.specs.Actions.{Action, Acts, Calls}

-- a pick leads to a place
abbrev pub PickLeads : ℕ → ℕ → ℕ → ℕ → ℕ → Type 0
PickLeads after part size n q = (q ≡ after) ⊎ ((j : ℕ) × (j < n) × (q ≡ part + size * j))

-- a way from a place to the end of the list does these actions
pub data Goes (ss : List Step) : ℕ → List Action → Type 0 where
  at_end : (p : ℕ) → length ss ≤ p → Goes ss p []
  by_act :
      (p : ℕ) (op : Op) (name : ActName) (next : ℕ) (actions : List Action) →
      slice_get ss p ≡ Some (Act op name next) → Goes ss next actions → Goes ss p (Acts op name ∷ actions)
  by_call :
      (p number : ℕ) (f : FnId) (next : ℕ) (actions : List Action) →
      slice_get ss p ≡ Some (Call number f next) → Goes ss next actions → Goes ss p (Calls f ∷ actions)
  by_pick :
      (p after part size n q : ℕ) (actions : List Action) → slice_get ss p ≡ Some (Pick after part size n) →
      PickLeads after part size n q → Goes ss q actions → Goes ss p actions

module _ (ss : List Step) where
  -- after each step
  pub act-next : (p : ℕ) (op : Op) (name : ActName) (next : ℕ) (actions : List Action)
      → slice_get ss p ≡ Some (Act op name next) → Goes ss p actions
      → (rest : List Action) × (actions ≡ Acts op name ∷ rest) × Goes ss next rest
  act-next p op name next actions is (at_end q past) =
      let none : slice_get ss p ≡ None = slice_get_past ss p past in absurd (cc)
  act-next p op name next actions is (by_act q o m n rest was goes) =
      let to : n ≡ next = cc in (rest, cc, subst (λ n. Goes ss n rest) to goes)
  act-next p op name next actions is (by_call q k f n rest was goes) = absurd (cc)
  act-next p op name next actions is (by_pick q a b s n r rest was leads goes) = absurd (cc)

  pub call-next : (p number : ℕ) (f : FnId) (next : ℕ) (actions : List Action)
      → slice_get ss p ≡ Some (Call number f next) → Goes ss p actions
      → (rest : List Action) × (actions ≡ Calls f ∷ rest) × Goes ss next rest
  call-next p number f next actions is (at_end q past) =
      let none : slice_get ss p ≡ None = slice_get_past ss p past in absurd (cc)
  call-next p number f next actions is (by_act q o m n rest was goes) = absurd (cc)
  call-next p number f next actions is (by_call q k g n rest was goes) =
      let to : n ≡ next = cc in (rest, cc, subst (λ n. Goes ss n rest) to goes)
  call-next p number f next actions is (by_pick q a b s n r rest was leads goes) = absurd (cc)

  pub pick-next : (p after part size n : ℕ) (actions : List Action) → slice_get ss p ≡ Some (Pick after part size n)
      → Goes ss p actions → (q : ℕ) × PickLeads after part size n q × Goes ss q actions
  pick-next p after part size n actions is (at_end q past) =
      let none : slice_get ss p ≡ None = slice_get_past ss p past in absurd (cc)
  pick-next p after part size n actions is (by_act q o m k rest was goes) = absurd (cc)
  pick-next p after part size n actions is (by_call q k g m rest was goes) = absurd (cc)
  pick-next p after part size n actions is (by_pick q a b s m r rest was leads goes) =
      let at : a ≡ after = cc in
      let first : b ≡ part = cc in
      let sized : s ≡ size = cc in
      let many : m ≡ n = cc in (
        r,
        subst (λ m. PickLeads after part size m r) many (subst (λ s. PickLeads after part s m r) sized
            (subst (λ b. PickLeads after b s m r) first (subst (λ a. PickLeads a b s m r) at leads))),
        goes,
      )

  pub end-next : (p : ℕ) (actions : List Action) → length ss ≤ p → Goes ss p actions → actions ≡ []
  end-next p actions past (at_end q was) = refl
  end-next p actions past (by_act q o m n rest was goes) = absurd (omega (arith, slice_get_within ss p _ was))
  end-next p actions past (by_call q k f n rest was goes) = absurd (omega (arith, slice_get_within ss p _ was))
  end-next p actions past (by_pick q a b s n r rest was leads goes) =
      absurd (omega (arith, slice_get_within ss p _ was))

-- a pick at m, whose parts come back to it, each with what is round its call; what is done after it is fixed
module _ (ss : List Step) (m after part size : ℕ) (fs : List FnId) (around : FnId → List Action) (last : List Action)
    (pick : slice_get ss m ≡ Some (Pick after part size (length fs)))
  where
    abbrev AnyCalled : List Action → Type 0
    AnyCalled actions = (called : List FnId) × All (Contains fs) called × (actions ≡ flat_map around called ++ last)

    module _ (some : (f : FnId) → 0 < length (around f))
        (body : (k : ℕ) (f : FnId) (actions : List Action) → slice_get fs k ≡ Some f → Goes ss (part + size * k) actions
        → (rest : List Action) × (actions ≡ around f ++ rest) × Goes ss m rest)
        (out : (actions : List Action) → Goes ss after actions → actions ≡ last)
      where
        any-from_part : (actions : List Action)
            → ((rest : List Action) → length rest < length actions → Goes ss m rest → AnyCalled rest)
            → (j : ℕ) → j < length fs → Goes ss (part + size * j) actions → AnyCalled actions
        any-from_part actions again j below goes =
            let d : FnId = record { 0 = 0 } in
            let f : FnId = get_or fs j d in
            let next = body j f actions (slice_get-get_or fs j d below) goes in
            let rest : List Action = next.0 in
            let less : length rest < length actions =
            omega (arith, some f, ap length next.1, length-append (around f) rest) in
            let more = again rest less next.2 in (
              f ∷ more.0,
              All-cons (Contains fs) f more.0 (j, below, get_or_default fs j f d below) more.1,
              next.1 ∙ (ap (λ r. around f ++ r) more.2 ∙ sym (append_assoc (around f) (flat_map around more.0) last)),
            )

        any-by : (actions : List Action)
            → ((rest : List Action) → length rest < length actions → Goes ss m rest → AnyCalled rest)
            → Goes ss m actions → AnyCalled actions
        any-by actions again goes =
            let next = pick-next ss m after part size (length fs) actions pick goes in
            elim next.1 [
              | inl is ↦
                  ([], All-nil (Contains fs), out actions (subst (λ q. Goes ss q actions) is next.2))
              | inr part_of ↦
                  any-from_part actions again part_of.0 part_of.1 (subst (λ q. Goes ss q actions) part_of.2 next.2)
            ]

        any-within : (most : ℕ) (actions : List Action) → length actions ≤ most → Goes ss m actions → AnyCalled actions
        any-within zero actions few goes = any-by actions (λ rest less g. absurd (omega arith)) goes
        any-within (suc most) actions few goes =
            any-by actions (λ rest less g. any-within most rest (omega arith) g) goes

        pub any-from : (actions : List Action) → Goes ss m actions → AnyCalled actions
        any-from actions goes = any-within (length actions) actions (omega arith) goes

    module _ (body : (k : ℕ) (f : FnId) (rest : List Action) → slice_get fs k ≡ Some f → Goes ss m rest
        → Goes ss (part + size * k) (around f ++ rest)) (out : Goes ss after last)
      where
        pub any-to : (called : List FnId) → All (Contains fs) called → Goes ss m (flat_map around called ++ last)
        any-to [] own = by_pick m after part size (length fs) after last pick (inl refl) out
        any-to (f ∷ called) own =
            let at = All-head (Contains fs) f called own in
            let rest : List Action = flat_map around called ++ last in
            let goes : Goes ss m rest = any-to called (All-tail (Contains fs) f called own) in
            let named : slice_get fs at.0 ≡ Some f = slice_get-get_or fs at.0 f at.1 ∙ ap (λ g. Some g) at.2 in
            by_pick m after part size (length fs) (part + size * at.0) (flat_map around (f ∷ called) ++ last) pick
            (inr (at.0, at.1, refl))
            (subst (λ actions. Goes ss (part + size * at.0) actions)
            (sym (append_assoc (around f) (flat_map around called) last)) (body at.0 f rest named goes))
