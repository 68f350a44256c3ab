-- What the numbers of rules stand for in a project: a cell for where values come from, a kind for the type of what is
-- called (docs/FLOW.md).
use Rattle.std.specs.Prelude.{◌≡◌, ℕ, List, Option, None, slice_index_or}
use Rattle.ck_slots.specs.Givens.{TypedProject}
use Rattle.ck_slots.specs.Holders.{Holder}
use Rattle.ck_slots.specs.Origins.{Origin, Nowhere, Held}
use Rattle.ck_slots.specs.Reaching.{ComesFrom}
use Rattle.ck_types.specs.Types.{CType}

pub record Meanings : Type 0 where
  -- by the number of a cell
  pub cells : List Origin
  -- by the number of a kind
  pub kinds : List (Option CType)

-- a number that no cell has stands for nowhere
abbrev pub origin_at : Meanings → ℕ → Origin
origin_at m cell = slice_index_or m.cells cell Nowhere

abbrev pub type_at : Meanings → ℕ → Option CType
type_at m kind = slice_index_or m.kinds kind None

-- no function comes from there
abbrev pub IsEmpty : TypedProject → Origin → Type 0
IsEmpty p o = (f : ℕ) → ComesFrom p f o → ⊥

-- a holder has one cell at most
abbrev pub HoldersDiffer : Meanings → Type 0
HoldersDiffer m = (c d : ℕ) (h : Holder) → origin_at m c ≡ Held h → origin_at m d ≡ Held h → c ≡ d

-- these are cells of no holder
abbrev pub IsNoHolder : Origin → Type 0
IsNoHolder o = (h : Holder) → o ≡ Held h → ⊥
