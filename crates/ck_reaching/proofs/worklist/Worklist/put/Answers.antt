use Rattle.std.proofs.Common.{◌<◌, ◌∙◌, true, false, set, refl, sym, subst}
use Rattle.std.proofs.lemmas.List.{get_or_read}
use Rattle.ck_reaching.specs.Listing.{Listing, IsNoted, flag_at, size_of}
use Rattle.ck_reaching.proofs.ListingLemmas.{noted-put, noted-same, stacked-put}
use Rattle.ck_reaching.proofs.worklist.Worklist.put.Goals as goal

pub invariant_of-self-then-not-index : goal.invariant_of-self-then-not-index
invariant_of-self-then-not-index c =
    let number = c.args.number in
    let old : Listing = record { stack = c.self.inside.stack.items; flags = c.self.inside.listed.items } in
    let new : Listing = record { stack = c.push.new.self.items; flags = set old.flags number true } in
    let within : number < size_of old = subst (λ l. number < size_of l) (sym c.self.view_is) c.requires in
    stacked-put old new number within c.in_ok-push.ensures.items refl c.self.invariant

pub returns-in_ok-push : goal.returns-in_ok-push
returns-in_ok-push c =
    let number = c.args.number in
    let old : Listing = record { stack = c.self.inside.stack.items; flags = c.self.inside.listed.items } in
    let new : Listing = record { stack = c.push.new.self.items; flags = set old.flags number true } in
    let within : number < size_of old = subst (λ l. number < size_of l) (sym c.self.view_is) c.requires in
    subst (λ l. IsNoted number l new) c.self.view_is (noted-put old new number within c.in_ok-push.ensures.items refl)

pub returns-else-not-index : goal.returns-else-not-index
unfolding flag_at
returns-else-not-index c =
    let number = c.args.number in
    let old : Listing = record { stack = c.self.inside.stack.items; flags = c.self.inside.listed.items } in
    let within : number < size_of old = subst (λ l. number < size_of l) (sym c.self.view_is) c.requires in
    let read = get_or_read old.flags number c.index.result.now within c.index.ensures false in
    subst (λ l. IsNoted number l l) c.self.view_is
    (noted-same old number (sym read ∙ c.if-not-index.false))
