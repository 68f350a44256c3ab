use Rattle.std.proofs.Common.{◌≡◌, ℕ, suc, ◌+◌, ◌-◌, ◌*◌, ◌∷◌, [], List, ap, arith}
use Rattle.std.proofs.Math.Nat.{mul-suc}
use Rattle.std.proofs.lemmas.List.{append_assoc}
use Rattle.ck_graph.specs.declared.points.Edge.{Edge}
use Rattle.ck_contexts.specs.Extended.{picks}
use Rattle.ck_contexts.proofs.StepLemmas.{picks-more}
use Rattle.ck_contexts.proofs.placing.add_picks.Goals as goal

pub loop-k-preserved : goal.loop-k-preserved
loop-k-preserved c =
    let at = c.args.at in
    let k = c.loop-k.k in
    let place = c.loop-k.place in
    let size = c.args.size in
    let left : ℕ = c.args.functions - (k + 1) in
    let rest : List Edge = picks at (k + 1 + 1) (place + size) size left in
    let one : c.args.functions - k ≡ suc left = omega arith in
    let more = picks-more at (k + 1) place size (c.args.functions - k) left one in
    let joined = append_assoc c.loop-k.edges.items (c.edge.result ∷ []) rest in
    let area = mul-suc size left in
    let whole = ap (λ n. size * n) one in
    record {
      same = let pushed = c.in_ok-push.ensures.items in cc;
      within = omega (arith, c.loop-k.invariant.within);
    }
