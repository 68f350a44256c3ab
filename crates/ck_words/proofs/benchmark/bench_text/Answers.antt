use Rattle.std.proofs.Common.{◌≡◌, arith}
use Rattle.std.specs.List.{flat_map}
use Rattle.std.specs.Fmt.{decimal}
use Rattle.ck_words.specs.BenchText as spec
use Rattle.ck_words.proofs.BenchLines.{first_text, more_callers, last_line, main_text}
use Rattle.ck_words.proofs.benchmark.bench_text.Goals as goal

pub loop-callee-init : goal.loop-callee-init
loop-callee-init c =
    first_text c.new-text.result.items c.as_bytes.result.now c.extend_from_slice.new.self.items c.new-text.ensures.items
    c.as_bytes.ensures.value c.in_ok-extend_from_slice.ensures.items

pub loop-callee-preserved : goal.loop-callee-preserved
loop-callee-preserved c =
    more_callers c.loop-callee.callee (flat_map spec.line spec.first_lines) c.loop-callee.text.items
    c.push_caller.new.text.items c.loop-callee.invariant c.in_ok-push_caller.ensures

pub returns : goal.returns
returns c =
    let all : c.loop-callee.callee ≡ c.args.number = omega (arith, c.loop-callee-test.false) in
    let known = c.loop-callee.invariant in
    let written = rw c.as_bytes-2.ensures.value at c.in_ok-extend_from_slice-2.ensures.items in
    last_line spec.first_lines (spec.caller_lines c.args.number) (spec.main_line c.args.number) c.loop-callee.text.items
    c.extend_from_slice-2.new.self.items (rw all at known)
    (main_text (decimal c.args.number) c.loop-callee.text.items _ _ c.in_ok-main.ensures.ok written)
