-- A closed list has all that reaches a holder.
use Rattle.std.proofs.Common.{◌≡◌, ap, ◌∙◌}
use Rattle.std.specs.Prelude.{ℕ, true, List, Contains}
use Rattle.ck_slots.specs.Givens.{TypedProject, Given, givens, calls_through, by_target, may_be_called}
use Rattle.ck_slots.specs.Givens.{result_holder}
use Rattle.ck_slots.specs.Holders.{Holder}
use Rattle.ck_slots.specs.Laws.{ClosedListsCover, ClosedListsHaveTargets}
use Rattle.ck_slots.specs.Listed.{Reached, by_call_through, coming, is_among, is_closed, is_kept}
use Rattle.ck_slots.specs.Listed.{is_listed, is_number, listed_if_any, targets, targets_of_call}
use Rattle.ck_slots.specs.Origins.{Origin}
use Rattle.ck_slots.specs.Reaching as reaching
use Rattle.ck_slots.specs.Reaching.{Reaches, ComesFrom, IsTarget}
use Rattle.ck_slots.proofs.Facts.{at_holder, by_number}
use Rattle.ck_slots.proofs.Tests.{all_append, all_contains, all_flat_map, among_filter, any_append_left}
use Rattle.ck_slots.proofs.Tests.{any_append_right, contained_number, flat_map_any}

module _ (p : TypedProject) (known : List Reached) (closed : is_closed p known ≡ true) where
  kept : (n : ℕ) (g : Given) → is_kept p known g ≡ true → is_among n (coming p known g.from) ≡ true
      → is_listed known n g.to ≡ true
  kept n g e among =
      all_contains (λ m. is_listed known m g.to) (coming p known g.from) n e (contained_number n _ among)

  given_kept : (g : Given) → Contains (givens p) g → is_kept p known g ≡ true
  given_kept g at =
      let parts = all_append (is_kept p known) (givens p) _ closed in
      all_contains (is_kept p known) (givens p) g parts.0 at

  argument_kept : (c : _) (m : ℕ) (g : Given) → Contains (calls_through p) c
      → is_among m (targets_of_call p known c) ≡ true → Contains (by_target p m c) g → is_kept p known g ≡ true
  argument_kept c m g call target at =
      let parts = all_append (is_kept p known) (givens p) _ closed in
      let of_call = all_flat_map (is_kept p known) (by_call_through p known) (calls_through p) c parts.1 call in
      let of_target = all_flat_map (is_kept p known) (λ k. by_target p k c) (targets_of_call p known c) m of_call
      (contained_number m _ target) in
      all_contains (is_kept p known) (by_target p m c) g of_target at

  mutual
    covers : (n : ℕ) (h : Holder) → Reaches p n h → is_listed known n h ≡ true
    covers n h (reaching.ByGiven g at from) = kept n g (given_kept g at) (comes n g.from from)
    covers n h (reaching.ByArgument {m = m} c g call target at from) =
        kept n g (argument_kept c m g call (has_target _ _ m target) at) (comes n g.from from)

    comes : (n : ℕ) (o : Origin) → ComesFrom p n o → is_among n (coming p known o) ≡ true
    comes n o (reaching.ByName e number) = by_number n _ number
    comes n o (reaching.ByRead {h = h} reaches) = at_holder known n h (covers n h reaches)
    comes n o (reaching.ByFirst {a = a} {b = b} from) =
        any_append_left (is_number n) (coming p known a) _ (comes n a from)
    comes n o (reaching.BySecond {a = a} {b = b} from) =
        any_append_right (is_number n) (coming p known a) _ (comes n b from)
    comes n o (reaching.ByResult {m = m} {type = type} {called = called} {h = h} target holder reaches) =
        flat_map_any (is_number n) (λ k. listed_if_any known (result_holder p k)) (targets p known type called) m
        (contained_number m _ (has_target type called m target))
        (ap (λ at. is_among n (listed_if_any known at)) holder ∙ at_holder known n h (covers n h reaches))

    has_target : (type : _) (called : Origin) (m : ℕ) → IsTarget p type called m
        → is_among m (targets p known type called) ≡ true
    has_target type called m (reaching.ByType typed from) =
        among_filter (may_be_called p type) m (coming p known called) (comes m called from) typed

pub closed_lists_cover : ClosedListsCover
closed_lists_cover p known closed n h reaches = covers p known closed n h reaches

pub closed_lists_have_targets : ClosedListsHaveTargets
closed_lists_have_targets p known closed type called m target = has_target p known closed type called m target
