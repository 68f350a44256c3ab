-- Operands of which at most one order is drawn: those in written order.
use Rattle.std.proofs.Common.{◌≡◌, ℕ, Bool, true, false, List, [], ◌∷◌, length, map, refl, ap}
use Rattle.std.specs.Prelude.{if◌then◌else◌}
use Rattle.ck_passages.specs.Drawing.{draw}
use Rattle.ck_passages.specs.Points.{Drawn}
use Rattle.ck_points.specs.Evaluations.{Evaluation, Node, Value, Then, with_calls, next_in, arranged, orders_of}
use Rattle.ck_points.specs.Evaluations.{unsequenced, any_of}

-- where it is tested whether an operand holds a call
abbrev counted_by : Bool → Evaluation → List Evaluation → List Evaluation
counted_by holds e es = if holds then e ∷ es else es

abbrev placed_by : Bool → Evaluation → List Value → List Evaluation → Evaluation
placed_by holds e vs order = if holds then next_in order (arranged vs) else Then e (arranged vs order)

module _ (orders : List ℕ) (d : Drawn) where
  first_placed : (b : Bool) (e : Evaluation) (vs : List Value) →
      draw orders (placed_by b e vs (counted_by b e (with_calls vs))) d
      ≡ draw orders e (draw orders (arranged vs (with_calls vs)) d)
  first_placed true e vs = refl
  first_placed false e vs = refl

  -- in written order the first one comes before the others
  pub first_of_all : (v : Value) (vs : List Value) →
      draw orders (arranged (v ∷ vs) (with_calls (v ∷ vs))) d
      ≡ draw orders v.evaluation (draw orders (arranged vs (with_calls vs)) d)
  first_of_all v vs = first_placed v.facts.holds_call v.evaluation vs

orders_of-one : (es : List Evaluation) → (length es ≡ 2 → ⊥) → (length es ≡ 3 → ⊥) → orders_of es
    ≡ es ∷ []
orders_of-one [] two three = refl
orders_of-one (a ∷ []) two three = refl
orders_of-one (a ∷ b ∷ []) two three = absurd (two refl)
orders_of-one (a ∷ b ∷ c ∷ []) two three = absurd (three refl)
orders_of-one (a ∷ b ∷ c ∷ e ∷ es) two three = refl

-- other numbers of operands with calls than two and three have one order
pub unsequenced-one : (n : Node) (vs : List Value) → (length (with_calls vs) ≡ 2 → ⊥) →
    (length (with_calls vs) ≡ 3 → ⊥) → unsequenced n vs ≡ arranged vs (with_calls vs)
unsequenced-one n vs two three =
    ap (λ orders. any_of n (map (arranged vs) orders)) (orders_of-one (with_calls vs) two three)
