use Rattle.std.proofs.Common.{ℕ, arith, rules, ◌∙◌}
use Rattle.std.proofs.lemmas.List.{length-take}
use Rattle.ck_io.proofs.Reading.{prefix_is_all, prefix_more}
use Rattle.ck_io.proofs.folders.read_all.Goals as goal

pub returns-then-branch-eq0-clause-read : goal.returns-then-branch-eq0-clause-read
returns-then-branch-eq0-clause-read g c =
    prefix_is_all _ _ _ _ _ _ _ _ _ c.loop-chunk.invariant.kept (omega arith) c.in_ok-read_more.ensures.appended
    c.requires c.loop-chunk.invariant.prefix c.if-branch-eq0.true (search rules) c.in_ok-read_more.ensures.read

pub loop-chunk-preserved : goal.loop-chunk-preserved
loop-chunk-preserved g c = record {
  within = omega (arith, length-take {A = ℕ}, c.in_ok-read_more.ensures.within, c.in_ok-read_more.ensures.len);
  chunk = omega arith;
  kept = cc;
  no_fault = c.in_ok-read_more.ensures.no_fault (λ is. cc) ∙ c.loop-chunk.invariant.no_fault;
  prefix = prefix_more _ _ _ _ _ _ _ _ _ c.loop-chunk.invariant.kept (omega arith) c.in_ok-read_more.ensures.appended
      c.loop-chunk.invariant.prefix c.in_ok-read_more.ensures.read;
}
