-- The point and the function of a number, as an index into the parts reads them.
use Rattle.std.proofs.Common.{◌≡◌, ℕ, zero, suc, ◌^◌, ◌<◌, List, [], ◌∷◌, vec_len, length, get_or, map, sym, ap, ◌∙◌}
use Rattle.std.proofs.Common.{arith}
use Rattle.std.proofs.lemmas.List.{get_or-map, get_or_read, length-map}
use Rattle.std.specs.List.{All}
use Rattle.std.proofs.lemmas.List.Elements.{All-head, All-tail}
use Rattle.ck_graph.specs.declared.points.PointPart.{PointPart}
use Rattle.ck_graph.specs.declared.points.FunctionPart.{FunctionPart}
use Rattle.ck_graph.specs.declared.points.Parts.{Parts}
use Rattle.ck_graph.specs.Faults.{IsSmall}
use Rattle.ck_graph.specs.Flow.{flow_of, point_of, point_at, function_at, no_point, no_function, point_count}
use Rattle.ck_graph.specs.Flow.{function_count}

pub point_at-parts : (parts : Parts) (n : ℕ) (part : PointPart) → n < point_count (flow_of parts)
    → part ≡ get_or parts.points.items n part → point_of part ≡ point_at (flow_of parts) n
unfolding point_at
point_at-parts parts n part there is =
    let within : n < length parts.points.items = omega (arith, there, length-map parts.points.items point_of) in
    ap point_of is ∙ sym (get_or-map point_of parts.points.items n part no_point within)

pub function_at-parts : (parts : Parts) (n : ℕ) (part : FunctionPart) → n < function_count (flow_of parts)
    → part ≡ get_or parts.functions.items n part → part ≡ function_at (flow_of parts) n
unfolding function_at
function_at-parts parts n part there is = get_or_read parts.functions.items n part there is no_function

edges-at : (items : List PointPart) (n : ℕ) → n < length items → All (λ part. vec_len part.edges < 2 ^ 32) items
    → length (get_or (map point_of items) n no_point).edges < 2 ^ 32
edges-at [] n within all = absurd (omega (arith, within))
edges-at (part ∷ items) zero within all =
    omega (arith, All-head (λ (part : PointPart). vec_len part.edges < 2 ^ 32) part items all, part.edges.ok.0)
edges-at (part ∷ items) (suc n) within all =
    edges-at items n (omega arith) (All-tail (λ (part : PointPart). vec_len part.edges < 2 ^ 32) part items all)

edges-small : (parts : Parts) (n : ℕ) → n < length parts.points.items
    → All (λ part. vec_len part.edges < 2 ^ 32) parts.points.items → length (point_at (flow_of parts) n).edges < 2 ^ 32
unfolding point_at
edges-small parts n within all = edges-at parts.points.items n within all

-- the numbers of a graph are small where those of its parts are
pub IsSmall-from_parts : (parts : Parts) → vec_len parts.points < 2 ^ 32 → vec_len parts.functions < 2 ^ 32
    → All (λ part. vec_len part.edges < 2 ^ 32) parts.points.items → IsSmall (flow_of parts)
IsSmall-from_parts parts points functions edges = record {
  points = omega (arith, points, parts.points.ok.0, length-map parts.points.items point_of);
  functions = omega (arith, functions, parts.functions.ok.0);
  edges = λ number there. edges-small parts number (omega (arith, there, length-map parts.points.items point_of)) edges;
}
