use Rattle.std.proofs.Common.{◌≡◌, ◌+◌, ◌*◌, ◌++◌, drop}
use Rattle.ck_contexts.specs.Synthetic.{unlocked_calls}
use Rattle.ck_contexts.proofs.drawing.add_unlocked_calls.Given as goal

-- the calls so far, and those of the functions from k on
abbrev pub invariant-loop-k : goal.invariant-loop-k
invariant-loop-k l =
    l.steps.items ++ unlocked_calls (3 + 3 * l.k) (l.number + l.k) (drop l.k l.functions) 2
    ≡ l.fn.steps.items ++ unlocked_calls 3 l.number l.functions 2
