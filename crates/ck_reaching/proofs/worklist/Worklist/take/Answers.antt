use Rattle.std.proofs.Common.{◌≡◌, ◌⊎◌, ◌<◌, ◌+◌, ◌∷◌, [], ℕ, Some, false, length}
use Rattle.std.proofs.Common.{set, refl, ap, subst, inl, inr, arith}
use Rattle.std.proofs.lemmas.List.{length-append}
use Rattle.ck_reaching.specs.Listing.{Listing, IsListed, size_of}
use Rattle.ck_reaching.proofs.ListingLemmas.{taken-below, stacked-taken, others-taken, no_other-taken}
use Rattle.ck_reaching.proofs.worklist.Worklist.take.Goals as goal

pub index_mut-requires : goal.index_mut-requires
index_mut-requires c =
    let old : Listing = record { stack = c.self.inside.stack.items; flags = c.self.inside.listed.items } in
    let below : c.in_ok-number.number < size_of old =
    taken-below old c.pop.new.self.items c.in_ok-number.number c.in_ok-number.ensures.items c.self.invariant in
    omega arith

pub invariant_of-self-2 : goal.invariant_of-self-2
invariant_of-self-2 c =
    let number = c.in_ok-number.number in
    let old : Listing = record { stack = c.self.inside.stack.items; flags = c.self.inside.listed.items } in
    let new : Listing = record { stack = c.pop.new.self.items; flags = set old.flags number false } in
    stacked-taken old new number c.in_ok-number.ensures.items refl c.self.invariant

pub returns-clause-taken : goal.returns-clause-taken
returns-clause-taken c =
    let number = c.in_ok-number.number in
    let old : Listing = record { stack = c.self.inside.stack.items; flags = c.self.inside.listed.items } in
    let stack = c.pop.new.self.items in
    subst (λ (l : Listing). (number < size_of l) × (length stack + 1 ≡ length l.stack)) c.self.view_is (
      taken-below old stack number c.in_ok-number.ensures.items c.self.invariant,
      omega (arith, ap length c.in_ok-number.ensures.items, length-append stack (number ∷ [])),
    )

pub returns-clause-others : goal.returns-clause-others
returns-clause-others c =
    let number = c.in_ok-number.number in
    let old : Listing = record { stack = c.self.inside.stack.items; flags = c.self.inside.listed.items } in
    let new : Listing = record { stack = c.pop.new.self.items; flags = set old.flags number false } in
    let below = taken-below old new.stack number c.in_ok-number.ensures.items c.self.invariant in
    subst (λ (l : Listing). (n : ℕ) → IsListed l n → IsListed new n ⊎ (Some number ≡ Some n)) c.self.view_is
    (λ n is. elim (others-taken old new number below refl n is) [ inl kept ↦ inl kept | inr e ↦ inr (ap Some e) ])

pub returns-clause-no_other : goal.returns-clause-no_other
returns-clause-no_other c =
    let number = c.in_ok-number.number in
    let old : Listing = record { stack = c.self.inside.stack.items; flags = c.self.inside.listed.items } in
    let new : Listing = record { stack = c.pop.new.self.items; flags = set old.flags number false } in
    let below = taken-below old new.stack number c.in_ok-number.ensures.items c.self.invariant in
    subst (λ (l : Listing). (n : ℕ) → IsListed new n → IsListed l n) c.self.view_is
    (no_other-taken old new number below refl)
