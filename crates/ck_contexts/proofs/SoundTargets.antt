-- A graph without a fault has none with its targets filled in.
use Rattle.std.proofs.Common.{◌≡◌, ℕ, ◌^◌, ◌<◌, List, length, refl, sym, ap, ◌∙◌, subst, arith}
use Rattle.std.proofs.lemmas.List.{get_or-map, length-map}
use Rattle.std.proofs.lemmas.List.Elements.{All-weaker}
use Rattle.ck_base.specs.declared.spans.FnId.{FnId}
use Rattle.ck_graph.specs.declared.points.Edge.{Edge}
use Rattle.ck_graph.specs.declared.points.PointKind.{PointKind}
use Rattle.ck_graph.specs.declared.points.PointKind.TheVariants.{Plain, Act, Call, Exit}
use Rattle.ck_graph.specs.Faults.{IsPointOf, IsPointSound, IsFunctionSound, IsSound}
use Rattle.ck_graph.specs.Flow.{Flow, Point, point_at, function_at, point_count, function_count, no_point}
use Rattle.ck_contexts.specs.Extended.{targets_at, with_targets, filled}
use Rattle.ck_contexts.specs.Laws.{AreFunctions, FilledIsSound}

module _ (flow : Flow) (targets : ℕ → List FnId) where
  abbrev new : Flow
  new = filled targets flow

  count : point_count new ≡ point_count flow
  count = length-map flow.points (with_targets targets)

  point-filled : (n : ℕ) → n < point_count flow → point_at new n ≡ with_targets targets (point_at flow n)
  unfolding point_at
  point-filled n below = get_or-map (with_targets targets) flow.points n no_point no_point below

  function-kept : (n : ℕ) → function_at new n ≡ function_at flow n
  unfolding function_at
  function-kept n = refl

  keeps-point : (x f : ℕ) → IsPointOf flow x f → IsPointOf new x f
  keeps-point x f is = record {
    there = omega (arith, count, is.there);
    own = ap (λ (p : Point). p.function.0) (point-filled x is.there) ∙ is.own;
  }

  module _ (sound : IsSound flow) (own : (call : ℕ) → AreFunctions flow (targets call)) where
    targets-sound : (kind : PointKind) (old : List FnId) → AreFunctions flow old
        → AreFunctions flow (targets_at targets kind old)
    targets-sound Plain old are = are
    targets-sound (Act op name) old are = are
    targets-sound (Call call) old are = own call
    targets-sound Exit old are = are

    point-sound : (n : ℕ) → n < point_count flow → IsPointSound new n (point_at new n)
    point-sound n below =
        let p : Point = point_at flow n in
        let s : IsPointSound flow n p = sound.points n below in
        subst (IsPointSound new n) (sym (point-filled n below)) (record {
          function = s.function;
          targets = targets-sound p.kind p.targets s.targets;
          edges = All-weaker (λ (e : Edge). IsPointOf flow e.to.0 p.function.0)
              (λ (e : Edge). IsPointOf new e.to.0 p.function.0) (λ e is. keeps-point e.to.0 p.function.0 is) p.edges
              s.edges;
          fits = s.fits;
          exit = λ is. ap (λ f. f.exit.0) (function-kept p.function.0) ∙ s.exit is;
        })

    function-sound : (n : ℕ) → n < function_count flow → IsFunctionSound new n
    function-sound n below =
        let s : IsFunctionSound flow n = sound.functions n below in
        let same = function-kept n in
        record {
          first = subst (λ f. IsPointOf new f.first.0 n) (sym same) (keeps-point _ n s.first);
          exit = subst (λ f. IsPointOf new f.exit.0 n) (sym same) (keeps-point _ n s.exit);
          ends = ap (λ f. (point_at new f.exit.0).kind) same
              ∙ (ap (λ (p : Point). p.kind) (point-filled _ s.exit.there) ∙ s.ends);
        }

    edges-few : (n : ℕ) → n < point_count flow → length (point_at new n).edges < 2 ^ 32
    edges-few n below =
        subst (λ (p : Point). length p.edges < 2 ^ 32) (sym (point-filled n below)) (sound.small.edges n below)

pub filled-sound : FilledIsSound
filled-sound flow targets sound own =
    let same = count flow targets in
    record {
      points = λ n there. point-sound flow targets sound own n (omega arith);
      functions = λ n there. function-sound flow targets sound own n there;
      small = record {
        points = omega (arith, same, sound.small.points);
        functions = sound.small.functions;
        edges = λ n there. edges-few flow targets sound own n (omega arith);
      };
    }
