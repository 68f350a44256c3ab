use Rattle.std.proofs.Common.{◌≡◌, ◌-◌, arith, take, drop, length, length-drop}
use Rattle.std.proofs.lemmas.List.{length-take-le}
use Rattle.std.proofs.lemmas.List.Sums.{prefix_len-le-length}
use Rattle.ck_lexer.specs.Runs.{is_in}
use Rattle.ck_lexer.proofs.BlockLemmas.{run-ends, run-goes_on}
use Rattle.ck_lexer.proofs.runs.class_run.Goals as goal

pub returns-then-run-lt-BLOCK : goal.returns-then-run-lt-BLOCK
returns-then-run-lt-BLOCK c =
    let run = run-ends (is_in c.args.class.now) c.args.bytes.now c.wide.end 32 c.run_in_block-run.result
    (omega arith) c.run_in_block-run.ensures (omega arith) in
    omega (arith, run, c.wide.invariant.rest)

pub wide-preserved : goal.wide-preserved
wide-preserved c =
    let run = run-goes_on (is_in c.args.class.now) c.args.bytes.now c.wide.end 32 c.run_in_block-run.result
    (omega arith) c.run_in_block-run.ensures (omega arith) in
    record {
      begun = omega arith;
      within = omega arith;
      rest = omega (arith, run, c.wide.invariant.rest);
    }

pub overflow_add-result-2 : goal.overflow_add-result-2
overflow_add-result-2 c =
    let d = c.args.bytes.now in
    let end = c.wide.end in
    let long : length (take (length d - end) (drop end d)) ≡ length d - end = length-take-le (length d - end)
    (drop end d) (omega (arith, length-drop end d)) in
    omega (
      arith,
      prefix_len-le-length (is_in c.args.class.now)
          (take (length d - end) (drop end d)),
      long,
      c.run.ensures,
    )
