-- What holds of every graph with its targets filled in, and of every graph with synthetic functions.
use Rattle.std.specs.Prelude.{◌≡◌, ◌<◌, ◌≤◌, ℕ, ◌+◌, ◌*◌, List, length, All}
use Rattle.ck_base.specs.declared.spans.FnId.{FnId}
use Rattle.ck_graph.specs.Faults.{IsSound}
use Rattle.ck_graph.specs.Flow.{Flow, point_count, function_count}
use Rattle.ck_contexts.specs.declared.contexts.Context.{Context}
use Rattle.ck_contexts.specs.Extended.{filled, extended}
use Rattle.ck_contexts.specs.Synthetic.{functions_of}

-- these are numbers of the graph's functions
abbrev pub AreFunctions : Flow → List FnId → Type 0
AreFunctions flow functions = All (λ f. f.0 < function_count flow) functions

-- the functions that a context runs are the graph's
abbrev pub RunsFunctions : Flow → Context → Type 0
RunsFunctions flow context = AreFunctions flow (functions_of context)

-- a graph without a fault has none with its targets, where these are its functions
abbrev pub FilledIsSound : Type 0
FilledIsSound =
    (flow : Flow) (targets : ℕ → List FnId) → IsSound flow →
    ((call : ℕ) → AreFunctions flow (targets call)) → IsSound (filled targets flow)

-- a context runs at most so many functions
abbrev pub RunsAtMost : ℕ → Context → Type 0
RunsAtMost most context = length (functions_of context) ≤ most

-- each context adds one function, with three points for each function that it runs and seven more, or fewer
pub record AddFew (number most : ℕ) (flow : Flow) (contexts : List Context) : Type 0 where
  pub functions : function_count (extended number flow contexts) ≡ function_count flow + length contexts
  pub points : point_count (extended number flow contexts) ≤ point_count flow + length contexts * (3 * most + 7)

abbrev pub ContextsAddFew : Type 0
ContextsAddFew =
    (number most : ℕ) (flow : Flow) (contexts : List Context) → All (RunsAtMost most) contexts →
    AddFew number most flow contexts
