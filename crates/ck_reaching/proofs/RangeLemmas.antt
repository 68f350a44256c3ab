-- Numbers stay in range where a cell is added.
use Rattle.std.proofs.Common.{◌+◌, arith}
use Rattle.std.proofs.lemmas.List.Elements.{All-weaker}
use Rattle.ck_reaching.specs.Rules.{System, IsInRange, IsCellBelow, IsCalleeWithin, IsNameWithin, IsFlowWithin}
use Rattle.ck_reaching.specs.Rules.{IsCallWithin, function_count}

pub IsInRange-wider : (s : System) → IsInRange s → IsInRange (record s { cells = s.cells + 1 })
IsInRange-wider s is =
    let n = s.cells in
    let t : System = record s { cells = n + 1 } in
    record {
      few_functions = is.few_functions;
      few_calls = is.few_calls;
      callees = All-weaker (IsCalleeWithin n) (IsCalleeWithin (n + 1)) (λ c w. record {
        parameters = All-weaker (IsCellBelow n) (IsCellBelow (n + 1)) (λ c below cell e. omega (arith, below cell e))
            c.parameters.items w.parameters;
        outcome = λ cell e. omega (arith, w.outcome cell e);
      }) s.callees is.callees;
      kinds = is.kinds;
      names = All-weaker (IsNameWithin n (function_count s)) (IsNameWithin (n + 1) (function_count s))
          (λ name w. record { function = w.function; to = omega (arith, w.to) }) s.names is.names;
      flows = All-weaker (IsFlowWithin n) (IsFlowWithin (n + 1))
          (λ flow w. record { from = omega (arith, w.from); to = omega (arith, w.to) }) s.flows is.flows;
      calls = All-weaker (IsCallWithin s) (IsCallWithin t) (λ call w. record {
        called = omega (arith, w.called);
        kind = w.kind;
        arguments = All-weaker (IsCellBelow n) (IsCellBelow (n + 1)) (λ c below cell e. omega (arith, below cell e))
            call.arguments.items w.arguments;
        outcome = λ cell e. omega (arith, w.outcome cell e);
      }) s.calls is.calls;
    }
