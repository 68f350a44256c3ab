use Rattle.ck_reaching.specs.Listing.{Listing}
use Rattle.ck_reaching.proofs.ListingLemmas.{none-listed, stacked-none}
use Rattle.ck_reaching.proofs.worklist.Worklist.new.Goals as goal

pub invariant_of-result : goal.invariant_of-result
invariant_of-result c =
    let l : Listing = record { stack = c.new.result.items; flags = c.in_ok-listed.listed.items } in
    stacked-none l c.args.size c.new.ensures.items (c.in_ok-listed.ensures.items_if_clones_equal (λ y e. e))

pub returns-clause-empty : goal.returns-clause-empty
returns-clause-empty c =
    let l : Listing = record { stack = c.new.result.items; flags = c.in_ok-listed.listed.items } in
    none-listed l c.args.size (c.in_ok-listed.ensures.items_if_clones_equal (λ y e. e))
