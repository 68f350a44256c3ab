use Rattle.std.proofs.Common.{subst}
use Rattle.std.specs.List.{Contains}
use Rattle.ck_graph.specs.Faults.{function_out_of_range, target_out_of_range, edge_leaves}
use Rattle.ck_graph.proofs.checking.is_point_sound.Goals as goal

pub returns-then-not-is_function : goal.returns-then-not-is_function
returns-then-not-is_function c = function_out_of_range c.if-not-is_function.ensures

pub returns-then-not-targets_are_functions : goal.returns-then-not-targets_are_functions
returns-then-not-targets_are_functions c =
    let fault = c.if-not-targets_are_functions.ensures in
    target_out_of_range fault.0 (subst (λ targets. Contains targets fault.0) c.deref.ensures.value fault.1) fault.2

pub returns-then-not-edges_stay : goal.returns-then-not-edges_stay
returns-then-not-edges_stay c =
    let fault = c.if-not-edges_stay.ensures in
    edge_leaves fault.0 (subst (λ edges. Contains edges fault.0) c.deref-2.ensures.value fault.1) fault.2
