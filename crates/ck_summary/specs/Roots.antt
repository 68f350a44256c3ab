-- How a root's function is entered. It serves private contracts alone.
use Rattle.std.specs.Prelude.{◌≡◌, ℕ}
use Rattle.ck_base.specs.declared.states.State.{State}
use Rattle.ck_base.specs.Act.{state_code}
use Rattle.ck_rows.specs.declared.rows.Rows.{Rows}
use Rattle.ck_rows.specs.Relation.{Relates}

-- the relation of a state and itself alone
pub record IsEntry (state : State) (entry : Rows) : Type 0 where
  pub there : Relates entry (state_code state) (state_code state)
  pub only : (a b : ℕ) → Relates entry a b → (a ≡ state_code state) × (b ≡ state_code state)
