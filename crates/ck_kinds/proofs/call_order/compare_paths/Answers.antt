use Rattle.std.proofs.Common.{◌≡◌, suc, [], ◌∷◌, length, take, drop, ap, ◌∙◌, rules}
use Rattle.std.specs.Cmp.Lexicographic.{slice_cmp}
use Rattle.std.specs.Ordering.{nat_cmp, ordering_then}
use Rattle.std.proofs.lemmas.List.{take_min, drop_min}
use Rattle.ck_kinds.proofs.PathLemmas.{slice_cmp-split}
use Rattle.ck_kinds.proofs.call_order.compare_paths.Goals as goal

pub returns : goal.returns
returns c =
    let row = c.args.row.now in
    let path = c.args.path.now in
    let last = suc c.args.suffix in
    let shared = c.min-shared.ensures in
    let front : c.split_at.result.0.now ≡ take (length row) path =
    c.split_at.ensures.front ∙ ap (λ n. take n path) shared ∙ take_min (length row) path in
    let rest : c.split_at.result.1.now ≡ drop (length row) path =
    c.split_at.ensures.back ∙ ap (λ n. drop n path) shared ∙ drop_min (length row) path in
    let compared = slice_cmp nat_cmp row in
    let ended = slice_cmp nat_cmp (last ∷ []) in
    let parts : c.then_with.result
    ≡ ordering_then (slice_cmp nat_cmp row c.split_at.result.0.now)
    (slice_cmp nat_cmp (last ∷ []) c.split_at.result.1.now) =
    search rules in
    parts ∙ ap (λ ys. ordering_then (compared ys) (ended c.split_at.result.1.now)) front
    ∙ ap (λ ys. ordering_then (compared (take (length row) path)) (ended ys)) rest ∙ slice_cmp-split row last path
