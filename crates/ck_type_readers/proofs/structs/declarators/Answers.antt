use Rattle.std.proofs.Common.{refl}
use Rattle.ck_grammar.specs.ReadingTypes.{declarator_loop}
use Rattle.ck_grammar.specs.Trees as plain
use Rattle.ck_readers.proofs.Loops.{so_far_start}
use Rattle.ck_readers.specs.SourceView.{words}
use Rattle.ck_type_readers.specs.Steps.{declarator_step}
use Rattle.ck_type_readers.proofs.Loops.{declarators_go, goes_on, stops_here, ends_here}
use Rattle.ck_type_readers.proofs.structs.declarators.Goals as goal

pub row-init : goal.row-init
row-init g c inner reads =
    so_far_start plain.NoDeclarators (declarator_step (words c.args.source.now) inner)
    (declarator_loop (words c.args.source.now) inner) (g.T.Building.declarators c.no_declarators-row.result)
    c.args.source.now.tokens c.args.at _ c.no_declarators-row.ensures refl

pub returns-in-None : goal.returns-in-None
returns-in-None g c inner reads =
    stops_here g.T.Building.declarators c.next_declarator.new.row (declarators_go (words c.args.source.now) inner)
    c.row-test.true c.len-step-end.ensures (c.row.invariant inner reads)
    (rw c.in-None.is at (c.in_ok-next_declarator.ensures inner reads))

pub row-preserved : goal.row-preserved
row-preserved g c inner reads =
    goes_on (declarators_go (words c.args.source.now) inner) c.row-test.true c.len-step-end.ensures
    (c.row.invariant inner reads) (rw c.in-Some.is at (c.in_ok-next_declarator.ensures inner reads))

pub returns : goal.returns
returns g c inner reads =
    ends_here g.T.Building.declarators c.row.row (declarators_go (words c.args.source.now) inner) c.row-test.false
    c.len-step-end.ensures (c.row.invariant inner reads)
