use Rattle.std.proofs.Common.{IfNone, IfSome, arith, subst}
use Rattle.ck_compatible.proofs.ClosedPairs.{apart-incompatible, closed-compatible, number-itself}
use Rattle.ck_compatible.specs.Pairs.{AreApart, IsClosed}
use Rattle.ck_types.proofs.Tables.{type-there}
use Rattle.ck_compatible.proofs.comparison.compatible.Goals as goal

pub returns-then-a-b : goal.returns-then-a-b
returns-then-a-b c = record {
  answer = number-itself c.args.types.now c.args.a.0 c.args.b.0 (grind (arith, c.if-a-b.true));
}

pub agreeing_pairs-requires-clause-first : goal.agreeing_pairs-requires-clause-first
agreeing_pairs-requires-clause-first c = type-there c.args.types.now c.args.a.0 c.requires.first

pub agreeing_pairs-requires-clause-second : goal.agreeing_pairs-requires-clause-second
agreeing_pairs-requires-clause-second c = type-there c.args.types.now c.args.b.0 c.requires.second

pub returns-in-Some : goal.returns-in-Some
returns-in-Some c = record {
  answer = closed-compatible c.args.types.now c.args.a.0 c.args.b.0 c.in-Some._pairs.keys c.requires.first
      c.requires.second (subst (λ found. IfSome found (λ pairs. IsClosed c.args.types.now c.args.a.0 c.args.b.0
      pairs.keys)) c.in-Some.is c.in_ok-_pairs.ensures.agreeing);
}

pub returns-in-None : goal.returns-in-None
returns-in-None c = record {
  answer = apart-incompatible c.args.types.now c.args.a.0 c.args.b.0 c.requires.first c.requires.second
      (subst (λ found. IfNone found (AreApart c.args.types.now c.args.a.0 c.args.b.0)) c.in-None.is
      c.in_ok-_pairs.ensures.apart);
}
