-- The extent of an expression is that of its value.
use Rattle.std.proofs.Common.{◌≡◌, ℕ, suc, ◌+◌, Bool, true, false, List, [], ◌∷◌, map, refl, sym, ap, ◌∙◌, arith}
use Rattle.std.specs.Prelude.{Option, Some, None, if◌then◌else◌}
use Rattle.ck_points.specs.Evaluations as form
use Rattle.ck_points.specs.Evaluations.{Evaluation, Node, Value, applied, operands, linked, called, suffixed}
use Rattle.ck_points.specs.Evaluations.{test_of, unsequenced, evaluation, after_links, values_of, after_steps}
use Rattle.ck_prog.specs.Declarations.{Entry}
use Rattle.ck_prog.specs.Paths as part
use Rattle.ck_prog.specs.Paths.{Path, below}
use Rattle.ck_prog.specs.TypedTrees as trees
use Rattle.ck_prog.specs.TypedTrees.{Typed, Links, Arguments, Steps, Facts, facts, last_link, last_step}
use Rattle.ck_prog.specs.declared.operators.Operator.{Operator}
use Rattle.ck_prog.specs.declared.operators.Operator.TheVariants.{Binary, And, Or, Comma}
use Rattle.ck_counts.specs.EvaluationPoints.{evaluation_points}
use Rattle.ck_counts.specs.Extents.{Extent, extent, enclosing, unsequenced_points, operator_points, called_extents}
use Rattle.ck_counts.specs.Extents.{extent_of, extents_of, extent_after_links, extent_after_steps}
use Rattle.ck_counts.proofs.OperandPoints.{extent_of_value, unsequenced-points}

-- operators ----------------------------------------------------------------------------------------------------------

applied_by : (b : Bool) (e : Evaluation) (d : form.Deed) (o : form.Deed) →
    (if b then evaluation_points e else 0) ≡ evaluation_points (if b then form.Then e (form.Does d) else form.Does o)
applied_by true e d o = omega arith
applied_by false e d o = refl

pub enclosing-applied : (π : Path) (f : Facts) (n : ℕ) (e : Evaluation) → n ≡ evaluation_points e →
    enclosing f.holds_call n ≡ extent f.holds_call (evaluation_points (applied π f e))
enclosing-applied π f n e same =
    ap (λ m. extent f.holds_call (if f.holds_call then m else 0)) same
    ∙ ap (extent f.holds_call) (applied_by f.holds_call e (form.Apply π) (form.Evaluate π))

operator-points : (op : Operator) (n : Node) (left right : Value) →
    operator_points op (extent_of_value left) (extent_of_value right) ≡ evaluation_points (operands op n left right)
operator-points And n left right = omega arith
operator-points Or n left right = omega arith
operator-points Comma n left right = refl
operator-points (Binary op) n left right = sym (unsequenced-points n (left ∷ right ∷ []))

called-extents : (function : Option Entry) (v : Value) (vs : List Value) →
    called_extents function (extent_of_value v) (map extent_of_value vs) ≡ map extent_of_value (called function v vs)
called-extents None v vs = refl
called-extents (Some e) v vs = refl

-- expressions --------------------------------------------------------------------------------------------------------

abbrev value_at : Path → Typed → Value
value_at π x = record { path = π; facts = facts x; evaluation = evaluation π x }

mutual
  pub extent-value : (π : Path) (x : Typed) → extent_of x ≡ extent_of_value (value_at π x)
  extent-value π (trees.Name f e) = refl
  extent-value π (trees.Constant f) = refl
  extent-value π (trees.Strings f ts) = refl
  extent-value π (trees.SizeofType f written) = refl
  extent-value π (trees.Paren f x) =
      let ρ = below π part.Enclosed in
      enclosing-applied π f (extent_of x).points (evaluation ρ x) (ap (λ v. v.points) (extent-value ρ x))
  extent-value π (trees.Unary f op x) =
      let ρ = below π part.Enclosed in
      enclosing-applied π f (extent_of x).points (evaluation ρ x) (ap (λ v. v.points) (extent-value ρ x))
  extent-value π (trees.Cast f written x) =
      let ρ = below π part.Enclosed in
      enclosing-applied π f (extent_of x).points (evaluation ρ x) (ap (λ v. v.points) (extent-value ρ x))
  extent-value π (trees.Postfix x steps) =
      let ρ = below π part.Primary in
      ap (λ v. extent_after_steps v steps) (extent-value ρ x) ∙ steps-value π 0 (value_at ρ x) steps
  extent-value π (trees.Chain x links) =
      let ρ = below π (part.Operand 0) in
      ap (λ v. extent_after_links v links) (extent-value ρ x) ∙ links-value π 0 (value_at ρ x) links
  extent-value π (trees.Conditional f test a b) =
      let ρ = below π part.Condition in
      let tested = value_at ρ test in
      let holds = evaluation (below π part.Second) a in
      let fails = evaluation (below π part.Third) b in
      let n : Node = record { path = π; first = f.first } in
      let first = ap (λ v. v.points) (extent-value ρ test) in
      let second = ap (λ v. v.points) (extent-value (below π part.Second) a) in
      let third = ap (λ v. v.points) (extent-value (below π part.Third) b) in
      enclosing-applied π f
      (2 + ((extent_of test).points + ((extent_of a).points + (extent_of b).points)))
      (form.Choice (test_of tested) tested.evaluation holds fails n)
      (omega (arith, first, second, third))
  extent-value π (trees.Assignment f op a b) =
      let left = below π part.Left in
      let right = below π part.Right in
      let n : Node = record { path = π; first = f.first } in
      let vs = value_at left a ∷ value_at right b ∷ [] in
      enclosing-applied π f (unsequenced_points (extent_of a ∷ extent_of b ∷ [])) (unsequenced n vs)
      (ap (λ v. unsequenced_points (v ∷ extent_of b ∷ [])) (extent-value left a)
      ∙ ap (λ v. unsequenced_points (extent_of_value (value_at left a) ∷ v ∷ [])) (extent-value right b)
      ∙ sym (unsequenced-points n vs))

  links-value : (π : Path) (k : ℕ) (v : Value) (ls : Links) →
      extent_after_links (extent_of_value v) ls
      ≡ extent (last_link v.facts ls).holds_call (evaluation_points (after_links π k v ls))
  links-value π k v trees.NoLinks = refl
  links-value π k v (trees.Link op x f rest) =
      let ρ = below π (part.Operand (suc k)) in
      let here = below π (part.OperatorOf k) in
      let n : Node = record { path = here; first = f.first } in
      let right = value_at ρ x in
      ap (λ w. extent_after_links w rest)
      (enclosing-applied here f (operator_points op (extent_of_value v) (extent_of x)) (operands op n v right)
      (ap (operator_points op (extent_of_value v)) (extent-value ρ x) ∙ operator-points op n v right))
      ∙ links-value π (suc k) (linked op here f v right) rest

  values-extents : (π : Path) (k : ℕ) (es : Arguments) → extents_of es ≡ map extent_of_value (values_of π k es)
  values-extents π k trees.NoArguments = refl
  values-extents π k (trees.Argument x rest) =
      let ρ = below π (part.ArgumentOf k) in
      ap (λ v. v ∷ extents_of rest) (extent-value ρ x)
      ∙ ap (λ vs. extent_of_value (value_at ρ x) ∷ vs) (values-extents π (suc k) rest)

  steps-value : (π : Path) (k : ℕ) (v : Value) (ss : Steps) →
      extent_after_steps (extent_of_value v) ss
      ≡ extent (last_step v.facts ss).holds_call (evaluation_points (after_steps π k v ss))
  steps-value π k v trees.NoSteps = refl
  steps-value π k v (trees.Index opening x f rest) =
      let here = below π (part.Suffix k) in
      let ρ = below here part.IndexOf in
      let n : Node = record { path = here; first = f.first } in
      let vs = v ∷ value_at ρ x ∷ [] in
      ap (λ w. extent_after_steps w rest)
      (enclosing-applied here f (unsequenced_points (extent_of_value v ∷ extent_of x ∷ [])) (unsequenced n vs)
      (ap (λ w. unsequenced_points (extent_of_value v ∷ w ∷ [])) (extent-value ρ x)
      ∙ sym (unsequenced-points n vs)))
      ∙ steps-value π (suc k) (suffixed here f (applied here f (unsequenced n vs))) rest
  steps-value π k v (trees.Call opening function es f rest) =
      let here = below π (part.Suffix k) in
      let n : Node = record { path = here; first = f.first } in
      let vs = called function v (values_of here 0 es) in
      ap (λ w. extent_after_steps w rest)
      (ap (λ ws. extent f.holds_call (2 + unsequenced_points (called_extents function (extent_of_value v) ws)))
      (values-extents here 0 es)
      ∙ ap (λ ws. extent f.holds_call (2 + unsequenced_points ws)) (called-extents function v (values_of here 0 es))
      ∙ ap (λ m. extent f.holds_call (2 + m)) (sym (unsequenced-points n vs)))
      ∙ steps-value π (suc k) (suffixed here f (form.Call n function (unsequenced n vs))) rest
  steps-value π k v (trees.Access is_dot name m f rest) =
      let here = below π (part.Suffix k) in
      ap (λ w. extent_after_steps w rest)
      (enclosing-applied here f (evaluation_points v.evaluation) v.evaluation refl)
      ∙ steps-value π (suc k) (suffixed here f (applied here f v.evaluation)) rest
  steps-value π k v (trees.PostIncrement t op f rest) =
      let here = below π (part.Suffix k) in
      ap (λ w. extent_after_steps w rest)
      (enclosing-applied here f (evaluation_points v.evaluation) v.evaluation refl)
      ∙ steps-value π (suc k) (suffixed here f (applied here f v.evaluation)) rest
