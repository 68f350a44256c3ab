-- Rules by which functions reach cells, as plain lists. Functions, cells, kinds and calls are known by their numbers,
-- which are their places.
use Rattle.std.specs.Prelude.{◌≡◌, ◌<◌, ◌+◌, ◌/◌, ◌^◌, ℕ, List, Option}
use Rattle.std.specs.Prelude.{Some, length, slice_get, All}
use Rattle.ck_rows.specs.declared.rows.Rows.{Rows}
use Rattle.ck_reaching.specs.declared.rules.CellId.{CellId}
use Rattle.ck_reaching.specs.declared.rules.Names.{Names}
use Rattle.ck_reaching.specs.declared.rules.Flows.{Flows}
use Rattle.ck_reaching.specs.declared.rules.Callee.{Callee}
use Rattle.ck_reaching.specs.declared.rules.Call.{Call}
use Rattle.ck_reaching.specs.Sets.{Has}

pub record System : Type 0 where
  pub cells : ℕ
  pub callees : List Callee
  pub kinds : List (List Rows)
  pub names : List Names
  pub flows : List Flows
  pub calls : List Call

abbrev pub function_count : System → ℕ
function_count s = length s.callees

-- the blocks of a set of functions
abbrev pub width : System → ℕ
width s = function_count s / 256 + 1

-- a function has a kind
pub record IsOfKind (s : System) (kind f : ℕ) : Type 0 where
  pub functions : List Rows
  pub there : slice_get s.kinds kind ≡ Some functions
  pub has : Has functions f

-- numbers in range ---------------------------------------------------------------------------------------------------

-- the cell, if there is one, is below a number
abbrev pub IsCellBelow : ℕ → Option CellId → Type 0
IsCellBelow cells c = (cell : CellId) → c ≡ Some cell → cell.0 < cells

pub record IsCalleeWithin (cells : ℕ) (c : Callee) : Type 0 where
  pub parameters : All (IsCellBelow cells) c.parameters.items
  pub outcome : IsCellBelow cells c.result

pub record IsNameWithin (cells functions : ℕ) (n : Names) : Type 0 where
  pub function : n.function.0 < functions
  pub to : n.to.0 < cells

pub record IsFlowWithin (cells : ℕ) (w : Flows) : Type 0 where
  pub from : w.from.0 < cells
  pub to : w.to.0 < cells

pub record IsCallWithin (s : System) (c : Call) : Type 0 where
  pub called : c.called.0 < s.cells
  pub kind : c.kind.0 < length s.kinds
  pub arguments : All (IsCellBelow s.cells) c.arguments.items
  pub outcome : IsCellBelow s.cells c.result

pub record IsInRange (s : System) : Type 0 where
  pub few_functions : function_count s < 2 ^ 32
  pub few_calls : length s.calls < 2 ^ 32
  pub callees : All (IsCalleeWithin s.cells) s.callees
  pub kinds : All (λ functions. length functions ≡ width s) s.kinds
  pub names : All (IsNameWithin s.cells (function_count s)) s.names
  pub flows : All (IsFlowWithin s.cells) s.flows
  pub calls : All (IsCallWithin s) s.calls
