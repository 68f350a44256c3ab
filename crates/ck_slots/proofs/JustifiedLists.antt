-- What a justified list has reaches its holder.
use Rattle.std.proofs.Common.{◌≡◌, ⊎_elim, eqb-true, sym, subst}
use Rattle.std.specs.List.{list_any}
use Rattle.std.specs.Prelude.{ℕ, true, List, [], ◌∷◌, ◌==◌, Option, Contains, flat_map}
use Rattle.ck_prog.specs.Calls.{CallSite}
use Rattle.ck_slots.specs.Givens.{TypedProject, Given, givens, calls_through, by_target, may_be_called, result_holder}
use Rattle.ck_slots.specs.Holders.{Holder, same_holder}
use Rattle.ck_slots.specs.Laws.{JustifiedListsReach, JustifiedListsHaveTargets}
use Rattle.ck_slots.specs.Listed.{Reached, all_givens, by_call_through, coming, gives, is_among, is_justified}
use Rattle.ck_slots.specs.Listed.{is_listed, is_number, listed_if_any, targets, targets_of_call}
use Rattle.ck_slots.specs.Origins.{Origin, Nowhere, Named, Held, Either, ResultOf}
use Rattle.ck_slots.specs.Reaching as reaching
use Rattle.ck_slots.specs.Reaching.{Reaches, ComesFrom, IsTarget}
use Rattle.ck_slots.proofs.Facts.{from_number, from_holder, from_holder_if_any, is_one_holder}
use Rattle.ck_slots.proofs.Tests.{among, any_append, any_flat_map, both, from_filter, one, some}
use Rattle.ck_types.specs.Types.{CType}

module _ (p : TypedProject) where
  -- each function of a list reaches its holder
  abbrev Hold : List Reached → Type 0
  Hold known = (n : ℕ) (h : Holder) → is_listed known n h ≡ true → Reaches p n h

  comes : (known : List Reached) → Hold known → (o : Origin) (n : ℕ) → is_among n (coming p known o) ≡ true
      → ComesFrom p n o
  comes known hold Nowhere n e = absurd (cc)
  comes known hold (Named name) n e = reaching.ByName name (from_number n _ e)
  comes known hold (Held h) n e = reaching.ByRead (hold n h (from_holder known n h e))
  comes known hold (Either a b) n e =
      ⊎_elim (λ l. reaching.ByFirst (comes known hold a n l)) (λ r. reaching.BySecond (comes known hold b n r))
      (any_append (is_number n) (coming p known a) (coming p known b) e)
  comes known hold (ResultOf type called) n e =
      let at =
      any_flat_map (is_number n) (λ m. listed_if_any known (result_holder p m)) (targets p known type called) e in
      let passed = from_filter (may_be_called p type) at.0 (coming p known called) (among at.0 _ at.1) in
      let holder = from_holder_if_any known n (result_holder p at.0) at.2 in
      reaching.ByResult (reaching.ByType passed.1 (comes known hold called at.0 passed.0)) holder.1
      (hold n holder.0 holder.2)

  target : (known : List Reached) → Hold known → (type : Option CType) (called : Origin) (m : ℕ)
      → is_among m (targets p known type called) ≡ true → IsTarget p type called m
  target known hold type called m e =
      let passed = from_filter (may_be_called p type) m (coming p known called) e in
      reaching.ByType passed.1 (comes known hold called m passed.0)

  module _ (known : List Reached) (hold : Hold known) (k : Reached) where
    from_given : (g : Given) → gives p known k g ≡ true → Contains (givens p) g → Reaches p k.function k.holder
    from_given g e at =
        let parts = both (same_holder k.holder g.to) _ e in
        subst (Reaches p k.function) (sym (is_one_holder k.holder g.to parts.0))
        (reaching.ByGiven g at (comes known hold g.from k.function parts.1))

    from_argument : (c : CallSite) (m : ℕ) (g : Given) → gives p known k g ≡ true → Contains (calls_through p) c
        → Contains (targets_of_call p known c) m → Contains (by_target p m c) g → Reaches p k.function k.holder
    from_argument c m g e call called at =
        let parts = both (same_holder k.holder g.to) _ e in
        subst (Reaches p k.function) (sym (is_one_holder k.holder g.to parts.0))
        (reaching.ByArgument c g call (target known hold _ _ m (among m _ called)) at
        (comes known hold g.from k.function parts.1))

    through : list_any (gives p known k) (flat_map (by_call_through p known) (calls_through p)) ≡ true
        → Reaches p k.function k.holder
    through e =
        let call = any_flat_map (gives p known k) (by_call_through p known) (calls_through p) e in
        let targets = targets_of_call p known call.0 in
        let called = any_flat_map (gives p known k) (λ m. by_target p m call.0) targets call.2 in
        let at = some (gives p known k) (by_target p called.0 call.0) called.2 in
        from_argument call.0 called.0 at.0 at.2 call.1 called.1 at.1

    follows : list_any (gives p known k) (all_givens p known) ≡ true → Reaches p k.function k.holder
    follows e =
        ⊎_elim (λ l. let at = some (gives p known k) (givens p) l in from_given at.0 at.2 at.1) through
        (any_append (gives p known k) (givens p) _ e)

  holds : (known : List Reached) → is_justified p known ≡ true → Hold known
  holds [] justified n h e = absurd (cc)
  holds (k ∷ known) justified n h e =
      let parts = both (list_any (gives p known k) (all_givens p known)) _ justified in
      let first = follows known (holds known parts.1) k parts.0 in
      ⊎_elim (λ s. same first (both (n == k.function) _ s)) (holds known parts.1 n h) (one _ _ e)
    where
      same : Reaches p k.function k.holder → (n == k.function ≡ true) × (same_holder h k.holder ≡ true)
          → Reaches p n h
      same first parts =
          subst (λ m. Reaches p m h) (sym (eqb-true n k.function parts.0))
          (subst (Reaches p k.function) (sym (is_one_holder h k.holder parts.1)) first)

pub justified_lists_reach : JustifiedListsReach
justified_lists_reach p known justified n h e = holds p known justified n h e

pub justified_lists_have_targets : JustifiedListsHaveTargets
justified_lists_have_targets p known justified type called m e =
    target p known (holds p known justified) type called m e
