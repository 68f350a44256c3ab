-- A graph without a fault has none with the synthetic functions of contexts that run its functions.
use Rattle.std.proofs.Common.{◌≡◌, ℕ, ◌+◌, ◌-◌, ◌^◌, ◌<◌, ◌≤◌, List, [], ◌∷◌, length, get_or, refl, sym, ap}
use Rattle.std.proofs.Common.{◌∙◌, subst, inl, inr, arith}
use Rattle.std.specs.List.{All}
use Rattle.std.proofs.lemmas.Bool.{cases_lt}
use Rattle.std.proofs.lemmas.List.{get_or_append_left, get_or-append-add, get_or_at}
use Rattle.std.proofs.lemmas.List.Elements.{All-nil, All-head, All-tail, All-weaker, All-get_or, All-contains}
use Rattle.ck_base.specs.declared.spans.FnId.{FnId}
use Rattle.ck_graph.specs.declared.points.Edge.{Edge}
use Rattle.ck_graph.specs.declared.points.PointKind.TheVariants.{Exit}
use Rattle.ck_graph.specs.Faults.{IsPointOf, IsPointSound, IsFunctionSound, IsSound}
use Rattle.ck_graph.specs.Flow.{Flow, Point, point_at, function_at, point_count, function_count, no_point}
use Rattle.ck_graph.specs.Flow.{no_function}
use Rattle.ck_contexts.specs.declared.contexts.Context.{Context}
use Rattle.ck_contexts.specs.declared.placing.Placing.{Placing}
use Rattle.ck_contexts.specs.declared.steps.Step.{Step}
use Rattle.ck_contexts.specs.Extended.{point, point_of_step, points_from, placing, function_placed, with_context}
use Rattle.ck_contexts.specs.Extended.{extended}
use Rattle.ck_contexts.specs.Laws.{AreFunctions, RunsFunctions}
use Rattle.ck_contexts.specs.Synthetic.{handler_return, steps, functions_of}
use Rattle.ck_contexts.proofs.Grown.{point_count-with_context, function_count-with_context, points-grow, functions-grow}
use Rattle.ck_contexts.proofs.InnerSteps.{IsInner, steps-inner}
use Rattle.ck_contexts.proofs.PlacedPoints.{IsWithin, point-at_step, point-at_exit, function-of_step, function-at}
use Rattle.ck_contexts.proofs.PlacedPoints.{edges-within, targets-of_step, edges-few, step-fits, step-ends_not}

-- a point is sound, and the number of its edges is small
record IsFine (flow : Flow) (n : ℕ) (p : Point) : Type 0 where
  sound : IsPointSound flow n p
  few : length p.edges < 2 ^ 32

module _ (number : ℕ) (flow : Flow) (c : Context) where
  abbrev pub new : Flow
  new = with_context number flow c

  abbrev pub at : Placing
  at = placing number flow c

  abbrev pub ss : List Step
  ss = steps number c

  -- what the graph has at a number
  pub old-point : (n : ℕ) → n < point_count flow → point_at new n ≡ point_at flow n
  unfolding point_at
  old-point n below = get_or_append_left flow.points (points_from at 0 ss) no_point n below

  pub new-point : (k : ℕ) → point_at new (point_count flow + k) ≡ get_or (points_from at 0 ss) k no_point
  unfolding point_at
  new-point k = get_or-append-add flow.points (points_from at 0 ss) k no_point

  pub old-function : (n : ℕ) → n < function_count flow → function_at new n ≡ function_at flow n
  unfolding function_at
  old-function n below = get_or_append_left flow.functions (function_placed at ∷ []) no_function n below

  pub new-function : function_at new (function_count flow) ≡ function_placed at
  unfolding function_at
  new-function = get_or_at flow.functions (function_placed at) [] no_function (function_count flow) refl

  -- points of functions
  keeps-point : (x f : ℕ) → IsPointOf flow x f → IsPointOf new x f
  keeps-point x f is = record {
    there = omega (arith, point_count-with_context number flow c, is.there);
    own = ap (λ (p : Point). p.function.0) (old-point x is.there) ∙ is.own;
  }

  has-point : (k : ℕ) → k ≤ length ss → IsPointOf new (point_count flow + k) (function_count flow)
  has-point k within = record {
    there = omega (arith, point_count-with_context number flow c);
    own = ap (λ (p : Point). p.function.0) (new-point k) ∙ ap (λ (f : FnId). f.0) (function-at at 0 k ss within);
  }

  edge-stays : (e : Edge) → IsWithin at e → IsPointOf new e.to.0 (function_count flow)
  edge-stays e is =
      let k : ℕ = e.to.0 - point_count flow in
      subst (λ x. IsPointOf new x (function_count flow)) (omega (arith, is.after))
      (has-point k (omega (arith, is.after, is.before)))

  -- points
  old-fine : IsSound flow → (n : ℕ) → n < point_count flow → IsFine new n (point_at new n)
  old-fine sound n below =
      let p : Point = point_at flow n in
      let s : IsPointSound flow n p = sound.points n below in
      let few : length p.edges < 2 ^ 32 = sound.small.edges n below in
      let more = function_count-with_context number flow c in
      subst (IsFine new n) (sym (old-point n below)) (record {
        sound = record {
          function = omega (arith, more, s.function);
          targets = All-weaker (λ (t : FnId). t.0 < function_count flow) (λ (t : FnId). t.0 < function_count new)
              (λ t is. omega arith) p.targets s.targets;
          edges = All-weaker (λ (e : Edge). IsPointOf flow e.to.0 p.function.0)
              (λ (e : Edge). IsPointOf new e.to.0 p.function.0) (λ e is. keeps-point e.to.0 p.function.0 is) p.edges
              s.edges;
          fits = s.fits;
          exit = λ is. ap (λ f. f.exit.0) (old-function p.function.0 s.function) ∙ s.exit is;
        };
        few = few;
      })

  module _ (points : point_count new < 2 ^ 32) where
    step-fine : AreFunctions flow (functions_of c) → (q n : ℕ) (s : Step) → IsInner at (functions_of c) s
        → IsFine new n (point_of_step at q s)
    step-fine run q n s inner =
        let more = function_count-with_context number flow c in
        let own : (point_of_step at q s).function.0 ≡ function_count flow =
        ap (λ (f : FnId). f.0) (function-of_step at q s) in
        record {
          sound = record {
            function = omega (arith, own, more);
            targets = targets-of_step at (functions_of c) (λ (t : FnId). t.0 < function_count new)
                (λ f listed. let below : f.0 < function_count flow =
                All-contains (λ (t : FnId). t.0 < function_count flow) (functions_of c) f run listed in
                omega arith) q s inner;
            edges = All-weaker (IsWithin at) (λ (e : Edge). IsPointOf new e.to.0 (point_of_step at q s).function.0)
                (λ e is. subst (IsPointOf new e.to.0) (sym own) (edge-stays e is)) (point_of_step at q s).edges
                (edges-within at (functions_of c) q s inner);
            fits = step-fits at q s;
            exit = λ is. absurd (step-ends_not at q s is);
          };
          few = omega (arith, edges-few at (functions_of c) q s inner, point_count-with_context number flow c, points);
        }

    exit-fine : (q n : ℕ) → n ≡ at.exit → IsFine new n (point at q Exit [] [])
    exit-fine q n is = record {
      sound = record {
        function = omega (arith, function_count-with_context number flow c);
        targets = All-nil (λ (t : FnId). t.0 < function_count new);
        edges = All-nil (λ (e : Edge). IsPointOf new e.to.0 (function_count flow));
        fits = refl;
        exit = λ exit. ap (λ f. f.exit.0) new-function ∙ sym is;
      };
      few = omega arith;
    }

    new-fine : AreFunctions flow (functions_of c) → (k : ℕ) → k ≤ length ss
        → IsFine new (point_count flow + k) (point_at new (point_count flow + k))
    new-fine run k within = elim (cases_lt k (length ss)) [
      | inl below ↦
          let d : Step = handler_return 0 in
          subst (IsFine new (point_count flow + k)) (sym (new-point k ∙ point-at_step at 0 k ss d below))
          (step-fine run (0 + k) (point_count flow + k) (get_or ss k d)
          (All-get_or (IsInner at (functions_of c)) ss k d below (steps-inner at number c (omega arith))))
      | inr past ↦
          let last : k ≡ length ss = omega arith in
          subst (IsFine new (point_count flow + k)) (sym (new-point k ∙ point-at_exit at 0 k ss last))
          (exit-fine (0 + k) (point_count flow + k) (ap (λ k. point_count flow + k) last))
    ]

    point-fine : IsSound flow → AreFunctions flow (functions_of c) → (n : ℕ) → n < point_count new
        → IsFine new n (point_at new n)
    point-fine sound run n there = elim (cases_lt n (point_count flow)) [
      | inl below ↦ old-fine sound n below
      | inr past ↦
          let k : ℕ = n - point_count flow in
          subst (λ x. IsFine new x (point_at new x)) (omega arith)
          (new-fine run k (omega (arith, there, point_count-with_context number flow c)))
    ]

    -- functions
    old-function-sound : IsSound flow → (n : ℕ) → n < function_count flow → IsFunctionSound new n
    old-function-sound sound n below =
        let s : IsFunctionSound flow n = sound.functions n below in
        let same = old-function n below in
        record {
          first = subst (λ f. IsPointOf new f.first.0 n) (sym same) (keeps-point _ n s.first);
          exit = subst (λ f. IsPointOf new f.exit.0 n) (sym same) (keeps-point _ n s.exit);
          ends = ap (λ f. (point_at new f.exit.0).kind) same
              ∙ (ap (λ (p : Point). p.kind) (old-point _ s.exit.there) ∙ s.ends);
        }

    new-function-sound : IsFunctionSound new (function_count flow)
    new-function-sound =
        let first : IsPointOf new (point_count flow) (function_count flow) =
        subst (λ x. IsPointOf new x (function_count flow)) (omega arith) (has-point 0 (omega arith)) in
        record {
          first = subst (λ f. IsPointOf new f.first.0 (function_count flow)) (sym new-function) first;
          exit = subst (λ f. IsPointOf new f.exit.0 (function_count flow)) (sym new-function)
              (has-point (length ss) (omega arith));
          ends = ap (λ f. (point_at new f.exit.0).kind) new-function
              ∙ ap (λ (p : Point). p.kind) (new-point (length ss) ∙ point-at_exit at 0 (length ss) ss refl);
        }

    function-sound : IsSound flow → (n : ℕ) → n < function_count new → IsFunctionSound new n
    function-sound sound n there = elim (cases_lt n (function_count flow)) [
      | inl below ↦ old-function-sound sound n below
      | inr past ↦
          subst (IsFunctionSound new) (omega (arith, there, past, function_count-with_context number flow c))
          new-function-sound
    ]

    context-sound : function_count new < 2 ^ 32 → IsSound flow → AreFunctions flow (functions_of c) → IsSound new
    context-sound functions sound run = record {
      points = λ n there. (point-fine sound run n there).sound;
      functions = λ n there. function-sound sound n there;
      small = record {
        points = points;
        functions = functions;
        edges = λ n there. (point-fine sound run n there).few;
      };
    }

-- what contexts run stays
runs-more : (number : ℕ) (flow : Flow) (c context : Context) → RunsFunctions flow context
    → RunsFunctions (with_context number flow c) context
runs-more number flow c context run =
    let more = function_count-with_context number flow c in
    All-weaker (λ (t : FnId). t.0 < function_count flow)
    (λ (t : FnId). t.0 < function_count (with_context number flow c)) (λ t is. omega arith) (functions_of context) run

pub extended-sound : (number : ℕ) (flow : Flow) (cs : List Context) → IsSound flow → All (RunsFunctions flow) cs
    → point_count (extended number flow cs) < 2 ^ 32 → function_count (extended number flow cs) < 2 ^ 32
    → IsSound (extended number flow cs)
extended-sound number flow [] sound run points functions = sound
extended-sound number flow (c ∷ cs) sound run points functions =
    let next : ℕ = number + length (functions_of c) in
    let new : Flow = with_context number flow c in
    extended-sound next new cs
    (context-sound number flow c (omega (arith, points-grow next new cs, points))
    (omega (arith, functions-grow next new cs, functions)) sound (All-head (RunsFunctions flow) c cs run))
    (All-weaker (RunsFunctions flow) (RunsFunctions new) (runs-more number flow c) cs
    (All-tail (RunsFunctions flow) c cs run)) points functions

-- the whole graph of a project is sound
pub whole-sound : (calls : ℕ) (flow whole : Flow) (cs : List Context) → whole ≡ extended calls flow cs → IsSound flow
    → All (RunsFunctions flow) cs → calls + point_count (extended calls flow cs) < 2 ^ 32
    → function_count (extended calls flow cs) < 2 ^ 32 → IsSound whole
whole-sound calls flow whole cs is sound run points functions =
    subst IsSound (sym is) (extended-sound calls flow cs sound run (omega arith) functions)
