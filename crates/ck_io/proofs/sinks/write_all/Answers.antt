use Rattle.std.proofs.Common.{arith, length, ◌∙◌}
use Rattle.std.proofs.lemmas.Slice.{between_to_end}
use Rattle.ck_io.proofs.Appending.{appends_more, within_more}
use Rattle.ck_io.proofs.sinks.write_all.Goals as goal

pub loop-written-preserved : goal.loop-written-preserved
loop-written-preserved g c =
    let rest = between_to_end c.args.bytes.now c.loop-written.written (length c.args.bytes.now) (omega arith) in
    record {
      within = within_more _ _ _ _ c.loop-written.invariant.within rest c.in_ok-written.ensures.within;
      not_failed = c.in_ok-written.ensures.not_failed ∙ c.loop-written.invariant.not_failed;
      taken = appends_more _ _ _ _ _ _ _ c.loop-written.invariant.taken rest c.in_ok-written.ensures.takes;
    }
