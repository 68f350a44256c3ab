use Rattle.std.proofs.Common.{ℕ, ◌<◌}
use Rattle.ck_graph.specs.Flow.{point_at}
use Rattle.ck_texts.specs.Views.{names_of}
use Rattle.ck_texts_tests.specs.Fitting.{Fits}
use Rattle.ck_texts_tests.proofs.fitting.points_fit.Given as goal

abbrev pub invariant-loop-number : goal.invariant-loop-number
invariant-loop-number l = (n : ℕ) → n < l.number → Fits (names_of l.book) l.size (point_at l.graph n)
