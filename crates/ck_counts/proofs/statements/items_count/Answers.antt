use Rattle.std.proofs.Common.{◌≡◌, ◌<◌, ◌≤◌, ◌-◌, [], length, drop, get_or, refl, sym, subst, arith, true}
use Rattle.std.proofs.lemmas.List.{get_or_default}
use Rattle.ck_points.specs.Functions.{status_in}
use Rattle.ck_tables.specs.Program.{body_readings}
use Rattle.ck_tables.specs.StmtTable.{statement_at, items_of, item_below, items_below}
use Rattle.ck_tables.specs.declared.stmts.Item.{Item}
use Rattle.ck_tables.specs.declared.stmts.Item.TheVariants.{Declaration}
use Rattle.ck_counts.specs.BodyPoints.{items_points}
use Rattle.ck_counts.specs.Rows.{item_points, item_status}
use Rattle.ck_counts.specs.Weights.{IsCounted}
use Rattle.ck_counts.proofs.Lists.{element-at, drop-none, drop-back}
use Rattle.ck_counts.proofs.Rows.{items-more}
use Rattle.ck_counts.proofs.statements.items_count.Goals as goal

pub each-init : goal.each-init
each-init c =
    let row = c.args.row.now in
    let l = c.args.program.now.linked in
    let b = body_readings l in
    let f = statement_at b l.stmts in
    record {
      low = omega arith;
      known = c.requires.known;
      are =
          subst
          (λ is. IsCounted c.plain-all.result (items_points (items_of b f is)) (status_in (items_of b f is)))
          (sym (drop-none row (length row) (omega arith))) (c.plain-all.ensures 0 c.of.ensures);
    }

pub item_count-requires-clause-there : goal.item_count-requires-clause-there
item_count-requires-clause-there c =
    let n = length c.args.counted.now in
    let low = c.each.invariant.low in
    let some = c.each-test.true in
    let within : c.each.left - 1 < length c.args.row.now = omega (arith, low, some) in
    element-at (item_below n) (λ y. item_below n y ≡ true) (λ y h. h) (items_below n) (λ y ys. refl) c.args.row.now
    (c.each.left - 1) (Declaration (record { 0 = 0 })) c.requires.there within

pub each-preserved : goal.each-preserved
each-preserved c =
    let row = c.args.row.now in
    let l = c.args.program.now.linked in
    let b = body_readings l in
    let f = statement_at b l.stmts in
    let left = c.each.left in
    let none : Item = Declaration (record { 0 = 0 }) in
    let x = get_or row (left - 1) none in
    let low = c.each.invariant.low in
    let some = c.each-test.true in
    let within : left - 1 < length row = omega (arith, low, some) in
    let rest = items_of b f (drop left row) in
    record {
      low = omega (arith, low);
      known = c.in_ok-item_count.ensures.known;
      are =
          items-more b f c.and-all.result x (drop left row) (drop (left - 1) row)
          (drop-back row left x (omega (arith, some)) low (get_or_default row (left - 1) none x within))
          (c.and-all.ensures (item_points b f x) (items_points rest) (item_status b f x) (status_in rest)
          c.in_ok-item_count.ensures.is c.each.invariant.are);
    }

pub returns-clause-are : goal.returns-clause-are
returns-clause-are c =
    let row = c.args.row.now in
    let l = c.args.program.now.linked in
    let b = body_readings l in
    let f = statement_at b l.stmts in
    let none : c.each.left ≡ 0 = let over = c.each-test.false in omega (arith, over) in
    subst (λ k. IsCounted c.each.all (items_points (items_of b f (drop k row))) (status_in (items_of b f (drop k row))))
    none c.each.invariant.are
