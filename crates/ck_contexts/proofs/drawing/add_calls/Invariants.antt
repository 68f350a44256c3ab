use Rattle.std.proofs.Common.{◌≡◌, ◌+◌, ◌++◌, drop}
use Rattle.ck_contexts.specs.Synthetic.{calls}
use Rattle.ck_contexts.proofs.drawing.add_calls.Given as goal

-- the calls so far, and those of the functions from k on
abbrev pub invariant-loop-k : goal.invariant-loop-k
invariant-loop-k l =
    l.steps.items ++ calls (l.number + l.k) (drop l.k l.functions) l.next
    ≡ l.fn.steps.items ++ calls l.number l.functions l.next
