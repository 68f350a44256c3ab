-- A sound graph has no fault.
use Rattle.std.proofs.Common.{◌<◌, ℕ, inl, inr, arith}
use Rattle.std.proofs.lemmas.List.Elements.{All-contains}
use Rattle.ck_base.specs.declared.spans.FnId.{FnId}
use Rattle.ck_graph.specs.declared.points.Edge.{Edge}
use Rattle.ck_graph.specs.Flow.{Flow, Point, point_at, function_count}
use Rattle.ck_graph.specs.Faults.{IsPointOf, IsNoPointOf, HasPointFault, function_out_of_range, target_out_of_range}
use Rattle.ck_graph.specs.Faults.{edge_leaves, edges_do_not_fit, exit_not_named, HasFunctionFault, first_elsewhere}
use Rattle.ck_graph.specs.Faults.{exit_elsewhere, exit_of_another_kind, HasFault, at_point, at_function}
use Rattle.ck_graph.specs.Faults.{IsPointSound, IsFunctionSound, IsSound}

not_both : (flow : Flow) (point function : ℕ) → IsPointOf flow point function → IsNoPointOf flow point function → ⊥
not_both flow point function is (inl past) = absurd (omega (arith, is.there))
not_both flow point function is (inr other) = other is.own

point-fine : (flow : Flow) (n : ℕ) (p : Point) → IsPointSound flow n p → HasPointFault flow n p → ⊥
point-fine flow n p s (function_out_of_range past) = absurd (omega (arith, s.function))
point-fine flow n p s (target_out_of_range f listed past) =
    let below : f.0 < function_count flow =
    All-contains (λ (t : FnId). t.0 < function_count flow) p.targets f s.targets listed in
    absurd (omega arith)
point-fine flow n p s (edge_leaves e listed other) =
    not_both flow e.to.0 p.function.0
    (All-contains (λ (e : Edge). IsPointOf flow e.to.0 p.function.0) p.edges e s.edges listed) other
point-fine flow n p s (edges_do_not_fit unfit) = unfit s.fits
point-fine flow n p s (exit_not_named is other) = other (s.exit is)

function-fine : (flow : Flow) (n : ℕ) → IsFunctionSound flow n → HasFunctionFault flow n → ⊥
function-fine flow n s (first_elsewhere other) = not_both flow _ n s.first other
function-fine flow n s (exit_elsewhere other) = not_both flow _ n s.exit other
function-fine flow n s (exit_of_another_kind other) = other s.ends

pub no-fault : (flow : Flow) → IsSound flow → HasFault flow → ⊥
no-fault flow s (at_point n there fault) = point-fine flow n (point_at flow n) (s.points n there) fault
no-fault flow s (at_function n there fault) = function-fine flow n (s.functions n there) fault
