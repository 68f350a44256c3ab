-- The cells of a function's parameters and of its result (C99 6.9.1), and the functions of a kind (6.5.2.2).
use Rattle.std.specs.Prelude.{◌≡◌, ◌↔◌, ℕ, true, List, map, Option, Some, None, ⊤}
use Rattle.std.specs.List.{AllZip}
use Rattle.ck_prog.specs.Declarations.{Entry}
use Rattle.ck_prog.specs.Slots.{slot_of_result, slot_of_variable}
use Rattle.ck_prog.specs.TypedBodies.{TypedFunction}
use Rattle.ck_reaching.specs.Sets.{Has}
use Rattle.ck_reaching.specs.declared.rules.Callee.{Callee}
use Rattle.ck_reaching.specs.declared.rules.CellId.{CellId}
use Rattle.ck_rows.specs.declared.rows.Rows.{Rows}
use Rattle.ck_slots.specs.Givens.{TypedProject, may_be_called, parameters}
use Rattle.ck_slots.specs.Holders.{Holder, holder}
use Rattle.ck_slots.specs.Origins.{Held}
use Rattle.ck_origins.specs.Meanings.{Meanings, origin_at}
use Rattle.ck_types.specs.Types.{CType}

abbrev pub holder_of_variable : List Entry → Entry → Option Holder
holder_of_variable all e = holder (slot_of_variable all e)

-- of its parameters, in order
abbrev pub parameter_holders : List Entry → TypedFunction → List (Option Holder)
parameter_holders all f = map (holder_of_variable all) (parameters all f)

abbrev pub holder_of_result : List Entry → TypedFunction → Option Holder
holder_of_result all f = holder (slot_of_result all f.declared.entry)

-- there is a cell where there is a holder, and it is the holder's
abbrev pub HasCell : Meanings → Option Holder → Option CellId → Type 0
HasCell m None None = ⊤
HasCell m (Some h) (Some cell) = origin_at m cell.0 ≡ Held h
HasCell m _ _ = ⊥

pub record IsCalleeOf (p : TypedProject) (m : Meanings) (f : TypedFunction) (callee : Callee) : Type 0 where
  pub parameters : AllZip (HasCell m) (parameter_holders p.all f) callee.parameters.items
  pub outcome : HasCell m (holder_of_result p.all f) callee.result

-- the functions that calls of what has this type may call
abbrev pub AreCallable : TypedProject → Option CType → List Rows → Type 0
AreCallable p type functions = (f : ℕ) → Has functions f ↔ (may_be_called p type f ≡ true)
