-- Operands whose order is open have as many points as their extents say.
use Rattle.std.proofs.Common.{◌≡◌, ℕ, zero, suc, ◌+◌, ◌*◌, Bool, true, false, List, [], ◌∷◌, length, map}
use Rattle.std.proofs.Common.{refl, sym, ap, ◌∙◌, arith}
use Rattle.std.specs.Prelude.{if◌then◌else◌}
use Rattle.ck_points.specs.Evaluations as form
use Rattle.ck_points.specs.Evaluations.{Evaluation, Node, Value, with_calls, next_in, arranged, orders_of, any_of}
use Rattle.ck_points.specs.Evaluations.{unsequenced}
use Rattle.ck_counts.specs.EvaluationPoints.{evaluation_points}
use Rattle.ck_counts.specs.Extents.{Extent, extent, one_where, calls, total, in_orders, unsequenced_points}

abbrev pub extent_of_value : Value → Extent
extent_of_value v = extent v.facts.holds_call (evaluation_points v.evaluation)

abbrev points_of : List Evaluation → ℕ
points_of [] = 0
points_of (e ∷ es) = evaluation_points e + points_of es

-- where it is tested whether an operand holds a call
abbrev counted_by : Bool → Evaluation → List Evaluation → List Evaluation
counted_by holds e es = if holds then e ∷ es else es

abbrev placed_by : Bool → Evaluation → List Value → List Evaluation → Evaluation
placed_by holds e vs order = if holds then next_in order (arranged vs) else form.Then e (arranged vs order)

-- operands in any order of those with calls --------------------------------------------------------------------------

abbrev Balances : List Value → Type 0
Balances vs =
    (order : List Evaluation) → length order ≡ length (with_calls vs) →
    evaluation_points (arranged vs order) + points_of (with_calls vs)
    ≡ total (map extent_of_value vs) + points_of order

balances-next : (b : Bool) (e : Evaluation) (vs : List Value) (order : List Evaluation) → Balances vs →
    length order ≡ length (counted_by b e (with_calls vs)) →
    evaluation_points (placed_by b e vs order) + points_of (counted_by b e (with_calls vs))
    ≡ (evaluation_points e + total (map extent_of_value vs)) + points_of order
balances-next true e vs [] rest long = absurd (omega arith)
balances-next true e vs (o ∷ order) rest long =
    let more = rest order (omega arith) in omega (arith, more)
balances-next false e vs order rest long =
    let more = rest order long in omega (arith, more)

balances : (vs : List Value) → Balances vs
balances [] [] long = refl
balances [] (o ∷ order) long = absurd (omega arith)
balances (v ∷ vs) order long = balances-next v.facts.holds_call v.evaluation vs order (balances vs) long

counted-length : (b : Bool) (e : Evaluation) (es : List Evaluation) (n : ℕ) → n ≡ length es →
    one_where b + n ≡ length (counted_by b e es)
counted-length true e es n same = omega (arith, same)
counted-length false e es n same = omega (arith, same)

calls-length : (vs : List Value) → calls (map extent_of_value vs) ≡ length (with_calls vs)
calls-length [] = refl
calls-length (v ∷ vs) =
    counted-length v.facts.holds_call v.evaluation (with_calls vs) (calls (map extent_of_value vs)) (calls-length vs)

-- all orders ---------------------------------------------------------------------------------------------------------

-- where `g` has these points in each order of some evaluations
abbrev InEach : (List Evaluation → Evaluation) → ℕ → List Evaluation → Type 0
InEach g points es =
    (order : List Evaluation) → length order ≡ length es → points_of order ≡ points_of es →
    evaluation_points (g order) ≡ points

orders_points : (n : Node) (g : List Evaluation → Evaluation) (points : ℕ) (es : List Evaluation) →
    InEach g points es →
    evaluation_points (any_of n (map g (orders_of es))) ≡ in_orders (length es) points
orders_points n g points [] each = each [] refl refl
orders_points n g points (a ∷ []) each = each (a ∷ []) refl refl
orders_points n g points (a ∷ b ∷ []) each =
    let one = each (a ∷ b ∷ []) refl refl in
    let two = each (b ∷ a ∷ []) refl (omega arith) in
    omega (arith, one, two)
orders_points n g points (a ∷ b ∷ c ∷ []) each =
    let one = each (a ∷ b ∷ c ∷ []) refl refl in
    let two = each (a ∷ c ∷ b ∷ []) refl (omega arith) in
    let three = each (b ∷ a ∷ c ∷ []) refl (omega arith) in
    let four = each (b ∷ c ∷ a ∷ []) refl (omega arith) in
    let five = each (c ∷ a ∷ b ∷ []) refl (omega arith) in
    let six = each (c ∷ b ∷ a ∷ []) refl (omega arith) in
    omega (arith, one, two, three, four, five, six)
orders_points n g points (a ∷ b ∷ c ∷ d ∷ es) each = each (a ∷ b ∷ c ∷ d ∷ es) refl refl

pub unsequenced-points : (n : Node) (vs : List Value) →
    evaluation_points (unsequenced n vs) ≡ unsequenced_points (map extent_of_value vs)
unsequenced-points n vs =
    orders_points n (arranged vs) (total (map extent_of_value vs)) (with_calls vs)
    (λ order long same. let all = balances vs order long in omega (arith, all, same))
    ∙ ap (λ k. in_orders k (total (map extent_of_value vs))) (sym (calls-length vs))
