-- The text so far is the first lines and those of the functions up to this one.
use Rattle.std.proofs.Common.{◌≡◌, ◌++◌}
use Rattle.std.specs.List.{flat_map}
use Rattle.ck_words.specs.BenchText.{caller_lines, first_lines, line}
use Rattle.ck_words.proofs.benchmark.bench_text.Given as goal

abbrev pub invariant-loop-callee : goal.invariant-loop-callee
invariant-loop-callee l = l.text.items ≡ flat_map line first_lines ++ flat_map line (caller_lines l.callee)
