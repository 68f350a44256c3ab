use Rattle.std.proofs.Common.{◌≤◌, vec_len}
use Rattle.ck_paths_tests.proofs.drawings.edges_to.Given as goal

abbrev pub invariant-loop-name : goal.invariant-loop-name
invariant-loop-name l = vec_len l.edges ≤ 100
