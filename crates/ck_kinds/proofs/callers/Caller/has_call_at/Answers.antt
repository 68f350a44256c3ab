use Rattle.std.proofs.Common.{◌≤◌, length, subst, sym, ◌∙◌, ap, arith}
use Rattle.std.specs.Ordering.{is_eq}
use Rattle.ck_kinds.specs.CallOrder.{against, call_place}
use Rattle.ck_kinds.specs.Callers.{IsRankOf, rows}
use Rattle.ck_kinds.proofs.Ranks.{rank-past, rank-here}
use Rattle.ck_call_rows.specs.TypedRows.{place_of_row}
use Rattle.ck_kinds.proofs.callers.Caller.has_call_at.Goals as goal

pub returns-then-number-self : goal.returns-then-number-self
returns-then-number-self c =
    let s = c.args.self.now in
    let π = c.args.path.now in
    let n = c.args.number in
    let before = c.requires.before in
    let count = c.requires.caller.count in
    let past : length (rows s).calls.rows.items ≤ n = omega (arith, count, c.if-number-self.true) in
    let e = rank-past (against (call_place s.function.0 π)) place_of_row (rows s).calls.rows.items n before.found
    before.rank past in
    subst (IsRankOf s π n) e before.rank

pub returns : goal.returns
returns c =
    let s = c.args.self.now in
    let π = c.args.path.now in
    let n = c.args.number in
    let before = c.requires.before in
    let e = rank-here (against (call_place s.function.0 π)) place_of_row (rows s).calls.rows.items n before.found
    c.call.result.now before.rank c.call.ensures.row in
    subst (IsRankOf s π n) (e ∙ ap is_eq (sym c.compare.ensures) ∙ sym c.is_eq.ensures) before.rank
