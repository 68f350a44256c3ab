-- How many points an evaluation has (docs/FLOW.md): a call has one before it and one after it, orders have the one
-- where they part and each its own copy of the operands, and a choice has its test and the point where its parts meet.
use Rattle.std.specs.Prelude.{ℕ, ◌+◌}
use Rattle.ck_points.specs.Evaluations as form
use Rattle.ck_points.specs.Evaluations.{Evaluation, Orders}

abbrev mutual
  pub evaluation_points : Evaluation → ℕ
  evaluation_points form.Nothing = 0
  evaluation_points (form.Does d) = 0
  evaluation_points (form.Then a b) = evaluation_points a + evaluation_points b
  evaluation_points (form.Call n function e) = 2 + evaluation_points e
  evaluation_points (form.InAnyOrder n es) = 1 + orders_points es
  evaluation_points (form.Choice t e a b meeting) =
      2 + (evaluation_points e + (evaluation_points a + evaluation_points b))

  pub orders_points : Orders → ℕ
  orders_points form.NoOrders = 0
  orders_points (form.Order e es) = evaluation_points e + orders_points es
