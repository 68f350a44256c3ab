use Rattle.std.proofs.Common.{sym, ◌∙◌}
use Rattle.ck_readers.specs.SourceView.{words}
use Rattle.ck_type_readers.proofs.EnumeratorLoops.{starts, none_here, last_plain, last_comma, goes_on, none_left}
use Rattle.ck_type_readers.proofs.enums.enumerators.Goals as goal

pub row-init : goal.row-init
row-init g c value reads =
    starts (words c.args.source.now) value (g.T.Building.earlier c.no_enumerators-row.result)
    c.args.source.now.tokens c.args.at c.no_enumerators-row.ensures

pub returns-in_default : goal.returns-in_default
returns-in_default g c value reads =
    none_here (words c.args.source.now) value g.T.Building.last_of g.T.Building.before_others c.row-test.true
    c.len-step-end.ensures (c.row.invariant value reads)
    (rw c.in_default.is at (c.in_ok-found.ensures value reads))

pub returns-in_default-mark : goal.returns-in_default-mark
returns-in_default-mark g c value reads =
    last_plain (words c.args.source.now) value g.T.Building.last_of g.T.Building.before_others
    g.T.Building.enumerators _ c.row-test.true c.len-step-end.ensures (c.row.invariant value reads)
    (rw c.in-Some.is at (c.in_ok-found.ensures value reads)) c.in_default-mark.ensures c.all_enumerators-all.ensures

pub returns-then-not-is_name : goal.returns-then-not-is_name
returns-then-not-is_name g c value reads =
    last_comma (words c.args.source.now) value g.T.Building.last_of g.T.Building.before_others
    g.T.Building.enumerators _ c.row-test.true c.len-step-end.ensures (c.row.invariant value reads)
    (rw c.in-Some.is at (c.in_ok-found.ensures value reads)) c.in-Some-mark.ensures
    (sym c.is_name.ensures ∙ c.if-not-is_name.true) c.all_enumerators-all-then-not-is_name.ensures

pub row-preserved : goal.row-preserved
row-preserved g c value reads =
    goes_on (words c.args.source.now) value g.T.Building.last_of g.T.Building.before_others c.row-test.true
    c.len-step-end.ensures (c.row.invariant value reads) (rw c.in-Some.is at (c.in_ok-found.ensures value reads))
    c.in-Some-mark.ensures (sym c.is_name.ensures ∙ c.if-not-is_name.false) c.in_ok-push_enumerator.ensures

pub returns : goal.returns
returns g c value reads =
    none_left (words c.args.source.now) value c.row-test.false c.len-step-end.ensures (c.row.invariant value reads)
