use Rattle.std.proofs.Common.{[], ◌++◌, refl, ap}
use Rattle.ck_readers.proofs.Loops.{so_far_start}
use Rattle.ck_readers.specs.SourceView.{words}
use Rattle.ck_type_readers.specs.Steps.{pointer_step, pointer_loop}
use Rattle.ck_type_readers.proofs.Loops.{pointers_go, pointer_row, goes_on, stops_here, ends_here}
use Rattle.ck_type_readers.proofs.pointers.pointer_parts.Goals as goal

pub row-init : goal.row-init
row-init g c =
    so_far_start [] (pointer_step (words c.args.source.now)) (pointer_loop (words c.args.source.now))
    (◌++◌ (g.T.Building.tokens c.no_tokens-stars.result)) c.args.source.now.tokens c.args.at _
    (λ rest. ap (λ ts. ts ++ rest) c.no_tokens-stars.ensures) refl

pub returns-in-None : goal.returns-in-None
returns-in-None g c =
    pointer_row (words c.args.source.now) g.T.Building.tokens (stops_here (λ y. ◌++◌ (g.T.Building.tokens y))
    c.pointer_part.new.stars (pointers_go (words c.args.source.now)) c.row-test.true c.len-step-end.ensures
    c.row.invariant (rw c.in-None.is at c.in_ok-pointer_part.ensures))

pub row-preserved : goal.row-preserved
row-preserved g c =
    goes_on (pointers_go (words c.args.source.now)) c.row-test.true c.len-step-end.ensures c.row.invariant
    (rw c.in-Some.is at c.in_ok-pointer_part.ensures)

pub returns : goal.returns
returns g c =
    pointer_row (words c.args.source.now) g.T.Building.tokens (ends_here (λ y. ◌++◌ (g.T.Building.tokens y))
    c.row.stars (pointers_go (words c.args.source.now)) c.row-test.false c.len-step-end.ensures c.row.invariant)
