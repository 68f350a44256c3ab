use Rattle.std.proofs.Common.{subst}
use Rattle.std.specs.Prelude.{[]}
use Rattle.ck_kinds.specs.Callers.{IsCaller, AreInOrder, IsRankOf, tables, rows}
use Rattle.ck_kinds.specs.declared.callers.Caller.{Caller}
use Rattle.ck_kinds.proofs.Numbered.{numbered, number_where_found, number_where_missing, function-below}
use Rattle.ck_prog.specs.PathOrder.{CallsAscend}
use Rattle.ck_prog.specs.Paths.{Path}
use Rattle.ck_tables.specs.Program.{functions}
use Rattle.ck_kinds.proofs.callers.Caller.call_number.Goals as goal

ordered : CallsAscend → (s : Caller) → IsCaller s → (π : Path) → AreInOrder s π
ordered up s fits π =
    let (f, there) = function-below (functions (tables s)) s.function.0 fits.there in
    let w = numbered up (tables s) (rows s) fits.typed s.function.0 f there π in
    record { number = w.number; before = record { found = w.found; rank = w.rank } }

pub calls_before-number-requires-clause-in_order : goal.calls_before-number-requires-clause-in_order
calls_before-number-requires-clause-in_order c =
    ordered c.calls_ascend.ensures c.args.self.now c.requires c.args.path.now

pub calls_before-requires-clause-in_order : goal.calls_before-requires-clause-in_order
calls_before-requires-clause-in_order c = ordered c.calls_ascend.ensures c.args.self.now c.requires []

pub returns-then-has_call_at : goal.returns-then-has_call_at
returns-then-has_call_at c = λ f there.
    let s = c.args.self.now in
    let π = c.args.path.now in
    let n = c.calls_before-number.result in
    number_where_found c.calls_ascend.ensures (tables s) (rows s) c.requires.typed s.function.0 f there π n
    (subst (IsRankOf s π n) c.if-has_call_at.true c.has_call_at.ensures)

pub returns : goal.returns
returns c = λ f there.
    let s = c.args.self.now in
    let π = c.args.path.now in
    let n = c.calls_before-number.result in
    let first = c.calls_before.ensures in
    number_where_missing c.calls_ascend.ensures (tables s) (rows s) c.requires.typed s.function.0 f there π n
    c.calls_before.result first.found (subst (IsRankOf s π n) c.if-has_call_at.false c.has_call_at.ensures) first.rank
