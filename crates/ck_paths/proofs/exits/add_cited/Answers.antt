use Rattle.std.proofs.Common.{inl, inr, arith}
use Rattle.ck_paths.proofs.Pending.{walked-more, cited-all}
use Rattle.ck_paths.proofs.exits.add_cited.Goals as goal

pub back-init : goal.back-init
back-init c = record {
  there = c.requires.there;
  walked = record { kept = λ x h. h; up = λ x h. h; down = λ x h. inr h; only = λ x h. inl h };
}

pub back-preserved : goal.back-preserved
back-preserved c = record {
  there = omega (arith, c.in-Some.ensures.earlier, c.back.invariant.there);
  walked =
      walked-more c.args.found.now.places.items c.args.on c.args.number c.back.at c.in-Some.back.from
      c.in-Some.back.exit c.args.pending.now c.back.pending c.add_exit.new.pending c.back.invariant.walked
      c.in-Some.ensures c.in_ok-add_exit.ensures;
}

pub returns : goal.returns
returns c =
    cited-all c.args.found.now.places.items c.args.on c.args.number c.back.at c.args.pending.now c.back.pending
    c.back.invariant.walked c.in_default.ensures
