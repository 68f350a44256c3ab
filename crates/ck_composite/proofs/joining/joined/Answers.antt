use Rattle.std.proofs.Common.{◌≡◌, IfNone, IfSome, ap, subst, arith, ◌∙◌, false}
use Rattle.std.specs.Prelude.{◌==◌}
use Rattle.ck_compatible.proofs.ClosedPairs.{apart-incompatible, closed-compatible, number-itself}
use Rattle.ck_compatible.specs.Pairs.{AreApart, IsClosed, pair_of}
use Rattle.ck_composite.specs.Made.{number_made}
use Rattle.ck_composite.proofs.Numbers.{IsJoined, joined-numbers, number-itself as composite-itself}
use Rattle.ck_composite.proofs.PairOrder.{ordered-pairs}
use Rattle.ck_types.proofs.Tables.{type-there}
use Rattle.ck_composite.proofs.joining.joined.Goals as goal

pub returns-then-a-b-clause-compatible : goal.returns-then-a-b-clause-compatible
returns-then-a-b-clause-compatible c =
    number-itself c.args.types.now c.args.a.0 c.args.b.0 (grind (arith, c.if-a-b.true))

pub returns-then-a-b-clause-composite : goal.returns-then-a-b-clause-composite
returns-then-a-b-clause-composite c =
    composite-itself c.args.types.now c.args.a.0 c.args.b.0 (grind (arith, c.if-a-b.true))

pub agreeing_pairs-requires-clause-first : goal.agreeing_pairs-requires-clause-first
agreeing_pairs-requires-clause-first c = type-there c.args.types.now c.args.a.0 c.requires.first

pub agreeing_pairs-requires-clause-second : goal.agreeing_pairs-requires-clause-second
agreeing_pairs-requires-clause-second c = type-there c.args.types.now c.args.b.0 c.requires.second

pub returns-in_default-clause-compatible : goal.returns-in_default-clause-compatible
returns-in_default-clause-compatible c =
    apart-incompatible c.args.types.now c.args.a.0 c.args.b.0 c.requires.first c.requires.second
    (subst (λ found. IfNone found (AreApart c.args.types.now c.args.a.0 c.args.b.0)) c.in_default.is
    c.in_ok-pairs.ensures.apart)

pub numbers_made-requires : goal.numbers_made-requires
numbers_made-requires c =
    ordered-pairs c.args.types.now c.args.a.0 c.args.b.0 c.in-Some.pairs.keys c.put_in_order.new.pairs.keys
    (subst (λ found. IfSome found (λ pairs. IsClosed c.args.types.now c.args.a.0 c.args.b.0 pairs.keys)) c.in-Some.is
    c.in_ok-pairs.ensures.agreeing)
    c.in_ok-put_in_order.ensures

pub returns : goal.returns
returns c =
    let closed : IsClosed c.args.types.now c.args.a.0 c.args.b.0 c.in-Some.pairs.keys =
    subst (λ found. IfSome found (λ pairs. IsClosed c.args.types.now c.args.a.0 c.args.b.0 pairs.keys)) c.in-Some.is
    c.in_ok-pairs.ensures.agreeing in
    let differ : (c.args.a.0 == c.args.b.0) ≡ false = grind (arith, c.if-a-b.false) in
    let is : IsJoined c.args.types.now c.numbers_made.new.types c.args.a.0 c.args.b.0 c.number_made.result =
    joined-numbers c.args.types.now c.numbers_made.new.types c.put_in_order.new.pairs.keys c.in_ok-made.made.items
    c.args.a.0 c.args.b.0 c.number_made.result c.node-first.ensures.table c.requires.first c.requires.second differ
    (c.in_ok-put_in_order.ensures.there (pair_of c.args.a.0 c.args.b.0) closed.begun) c.in_ok-made.ensures.made
    c.in_ok-made.ensures.whole (c.number_made.ensures
    ∙ ap (λ ms. number_made c.put_in_order.new.pairs.keys ms c.args.a.0 c.args.b.0) c.deref.ensures.value) in
    record {
      kept = c.in_ok-made.ensures.grown.kept;
      types = c.in_ok-made.ensures.grown.types;
      lists = c.in_ok-made.ensures.grown.lists;
      table = c.in_ok-made.ensures.grown.table;
      compatible = closed-compatible c.args.types.now c.args.a.0 c.args.b.0 c.in-Some.pairs.keys c.requires.first
          c.requires.second closed;
      composite = is.composite;
      named = is.named;
    }
