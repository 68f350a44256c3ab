use Rattle.std.proofs.Common.{◌≡◌, ◌+◌, ◌-◌, ◌/◌, ap, sym, ◌∙◌, subst, arith}
use Rattle.std.specs.Ordering.{is_lt}
use Rattle.ck_kinds.specs.CallOrder.{against, call_place}
use Rattle.ck_kinds.specs.Callers.{IsRankOf, rows}
use Rattle.ck_kinds.proofs.Ranks.{rank-within, rank-less, rank-other}
use Rattle.ck_call_rows.specs.TypedRows.{place_of_row}
use Rattle.ck_kinds.proofs.callers.Caller.calls_before.Goals as goal

pub search-init : goal.search-init
search-init c =
    let s = c.args.self.now in
    let count = c.requires.caller.count in
    record {
      most = omega arith;
      between = λ n found rank.
          let h = rank-within (against (call_place s.function.0 c.args.path.now)) place_of_row
          (rows s).calls.rows.items n found rank in
          (omega arith, omega (arith, h, count));
    }

pub search-preserved-then-is_lt : goal.search-preserved-then-is_lt
search-preserved-then-is_lt c =
    let s = c.args.self.now in
    let middle = c.search.low + (c.search.high - c.search.low) / 2 in
    let less = ap is_lt (sym c.compare.ensures) ∙ sym c.is_lt.ensures ∙ c.if-is_lt.true in
    record {
      most = c.search.invariant.most;
      between = λ n found rank.
          let h = c.search.invariant.between n found rank in
          let before = rank-less (against (call_place s.function.0 c.args.path.now)) place_of_row
          (rows s).calls.rows.items middle n found c.call.result.now rank c.call.ensures.row less in
          (omega (arith, before), h.1);
    }

pub search-preserved : goal.search-preserved
search-preserved c =
    let s = c.args.self.now in
    let middle = c.search.low + (c.search.high - c.search.low) / 2 in
    let other = ap is_lt (sym c.compare.ensures) ∙ sym c.is_lt.ensures ∙ c.if-is_lt.false in
    let most = c.search.invariant.most in
    record {
      most = omega (arith, most, c.search-test.true);
      between = λ n found rank.
          let h = c.search.invariant.between n found rank in (
            h.0,
            rank-other (against (call_place s.function.0 c.args.path.now)) place_of_row (rows s).calls.rows.items
                middle n found c.call.result.now rank c.call.ensures.row other,
          );
    }

pub returns : goal.returns
returns c =
    let s = c.args.self.now in
    let here = c.requires.in_order in
    let n = here.number in
    let h = c.search.invariant.between n here.before.found here.before.rank in
    let same : n ≡ c.search.low = omega (arith, h.0, h.1, c.search-test.false) in
    record {
      found = here.before.found;
      rank = subst (λ k. IsRankOf s c.args.path.now k here.before.found) same here.before.rank;
    }
