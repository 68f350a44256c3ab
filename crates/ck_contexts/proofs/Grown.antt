-- A graph grows by the synthetic functions of contexts.
use Rattle.std.proofs.Common.{◌≡◌, ℕ, ◌+◌, ◌*◌, ◌^◌, ◌<◌, ◌≤◌, List, [], ◌∷◌, length, get_or, drop, sym, ap}
use Rattle.std.proofs.Common.{◌∙◌, arith}
use Rattle.std.proofs.Math.Nat.{suc-mul}
use Rattle.std.proofs.lemmas.List.{length-append, drop_more}
use Rattle.std.proofs.lemmas.List.Elements.{All-head, All-tail}
use Rattle.ck_graph.specs.Flow.{Flow, point_count, function_count}
use Rattle.ck_contexts.specs.declared.contexts.Context.{Context}
use Rattle.ck_contexts.specs.Extended.{placing, function_placed, points_from, with_context, extended}
use Rattle.ck_contexts.specs.Laws.{RunsAtMost, AddFew, ContextsAddFew}
use Rattle.ck_contexts.specs.Synthetic.{steps, functions_of}
use Rattle.ck_contexts.proofs.StepLemmas.{length-points_from, functions-few, steps-few}

pub point_count-with_context : (number : ℕ) (flow : Flow) (c : Context)
    → point_count (with_context number flow c) ≡ point_count flow + length (steps number c) + 1
point_count-with_context number flow c =
    let at = placing number flow c in
    let both = length-append flow.points (points_from at 0 (steps number c)) in
    let own = length-points_from at 0 (steps number c) in
    omega arith

pub function_count-with_context : (number : ℕ) (flow : Flow) (c : Context)
    → function_count (with_context number flow c) ≡ function_count flow + 1
function_count-with_context number flow c =
    let both = length-append flow.functions (function_placed (placing number flow c) ∷ []) in
    omega arith

pub points-grow : (number : ℕ) (flow : Flow) (cs : List Context)
    → point_count flow ≤ point_count (extended number flow cs)
points-grow number flow [] = omega arith
points-grow number flow (c ∷ cs) =
    let one = point_count-with_context number flow c in
    let rest = points-grow (number + length (functions_of c)) (with_context number flow c) cs in
    omega arith

pub functions-grow : (number : ℕ) (flow : Flow) (cs : List Context)
    → function_count flow ≤ function_count (extended number flow cs)
functions-grow number flow [] = omega arith
functions-grow number flow (c ∷ cs) =
    let one = function_count-with_context number flow c in
    let rest = functions-grow (number + length (functions_of c)) (with_context number flow c) cs in
    omega arith

-- what holds where the context at i comes next: its numbers fit 32 bits, and the others go on to the same graph
pub record GoesOn (calls number i : ℕ) (start flow : Flow) (cs : List Context) (c : Context) : Type 0 where
  pub calls_fit : number + length (steps number c) < 2 ^ 32
  pub points_fit : point_count flow + length (steps number c) < 2 ^ 32
  pub functions_fit : function_count flow < 2 ^ 32
  pub few : number + length (functions_of c) ≤ calls + point_count (with_context number flow c)
  pub same :
      extended (number + length (functions_of c)) (with_context number flow c) (drop (i + 1) cs)
      ≡ extended calls start cs

pub goes-on : (calls number i : ℕ) (start flow : Flow) (cs : List Context) (c : Context) → i < length cs
    → c ≡ get_or cs i c → extended number flow (drop i cs) ≡ extended calls start cs
    → number ≤ calls + point_count flow → calls + point_count (extended calls start cs) < 2 ^ 32
    → function_count (extended calls start cs) < 2 ^ 32 → GoesOn calls number i start flow cs c
goes-on calls number i start flow cs c below is same few points functions =
    let next : ℕ = number + length (functions_of c) in
    let new : Flow = with_context number flow c in
    let rest : List Context = drop (i + 1) cs in
    let left : drop i cs ≡ c ∷ rest = drop_more cs i c below ∙ ap (λ x. x ∷ rest) (sym is) in
    let then : extended next new rest ≡ extended calls start cs = sym (ap (extended number flow) left) ∙ same in
    let point = point_count-with_context number flow c in
    let function = function_count-with_context number flow c in
    let more : point_count new ≤ point_count (extended next new rest) = points-grow next new rest in
    let all : function_count new ≤ function_count (extended next new rest) = functions-grow next new rest in
    let same_points : point_count (extended next new rest) ≡ point_count (extended calls start cs) =
    ap (λ (f : Flow). point_count f) then in
    let same_functions : function_count (extended next new rest) ≡ function_count (extended calls start cs) =
    ap (λ (f : Flow). function_count f) then in
    record {
      calls_fit = omega arith;
      points_fit = omega arith;
      functions_fit = omega arith;
      few = omega (arith, functions-few number c);
      same = then;
    }

-- how much is added at most
pub add-few : ContextsAddFew
add-few number most flow [] few = record { functions = omega arith; points = omega arith }
add-few number most flow (c ∷ cs) few =
    let next : ℕ = number + length (functions_of c) in
    let rest : AddFew next most (with_context number flow c) cs =
    add-few next most (with_context number flow c) cs (All-tail (RunsAtMost most) c cs few) in
    let own : length (functions_of c) ≤ most = All-head (RunsAtMost most) c cs few in
    let steps = steps-few number c in
    let point = point_count-with_context number flow c in
    let function = function_count-with_context number flow c in
    let more = suc-mul (length cs) (3 * most + 7) in
    record { functions = omega (arith, rest.functions); points = omega (arith, rest.points) }
