use Rattle.std.proofs.Common.{refl}
use Rattle.ck_grammar.specs.ReadingTypes.{member_loop}
use Rattle.ck_grammar.specs.Trees as plain
use Rattle.ck_readers.proofs.Loops.{so_far_start}
use Rattle.ck_readers.specs.SourceView.{words}
use Rattle.ck_type_readers.specs.Steps.{member_step}
use Rattle.ck_type_readers.proofs.Loops.{members_go, goes_on, stops_here, ends_here}
use Rattle.ck_type_readers.proofs.structs.member_declarations.Goals as goal

pub row-init : goal.row-init
row-init g c of inner specified declared =
    so_far_start plain.NoMembers (member_step (words c.args.source.now) of inner)
    (member_loop (words c.args.source.now) of inner) (g.T.Building.members c.no_members-row.result)
    c.args.source.now.tokens c.args.at _ c.no_members-row.ensures refl

pub returns-in-None : goal.returns-in-None
returns-in-None g c of inner specified declared =
    stops_here g.T.Building.members c.member.new.row (members_go (words c.args.source.now) of inner)
    c.row-test.true c.len-step-end.ensures (c.row.invariant of inner specified declared)
    (rw c.in-None.is at (c.in_ok-member.ensures of inner specified declared))

pub row-preserved : goal.row-preserved
row-preserved g c of inner specified declared =
    goes_on (members_go (words c.args.source.now) of inner) c.row-test.true c.len-step-end.ensures
    (c.row.invariant of inner specified declared)
    (rw c.in-Some.is at (c.in_ok-member.ensures of inner specified declared))

pub returns : goal.returns
returns g c of inner specified declared =
    ends_here g.T.Building.members c.row.row (members_go (words c.args.source.now) of inner) c.row-test.false
    c.len-step-end.ensures (c.row.invariant of inner specified declared)
