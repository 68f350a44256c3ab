use Rattle.std.proofs.Common.{◌≤◌, vec_len}
use Rattle.ck_texts_tests.proofs.projects.edges_of.Given as goal

abbrev pub invariant-loop-to : goal.invariant-loop-to
invariant-loop-to l = vec_len l.edges ≤ 100
