-- When each rule follows from a project (docs/FLOW.md).
use Rattle.std.specs.Prelude.{◌≡◌, ℕ, length, All, Some, Contains, slice_get}
use Rattle.std.specs.List.{AllZip}
use Rattle.ck_prog.specs.Calls.{function_number}
use Rattle.ck_prog.specs.Declarations.{Entry}
use Rattle.ck_reaching.specs.Rules.{System}
use Rattle.ck_reaching.specs.declared.rules.Call.{Call}
use Rattle.ck_reaching.specs.declared.rules.CellId.{CellId}
use Rattle.ck_reaching.specs.declared.rules.Flows.{Flows}
use Rattle.ck_reaching.specs.declared.rules.Names.{Names}
use Rattle.ck_slots.specs.Givens.{TypedProject, Given, functions, givens}
use Rattle.ck_slots.specs.Origins.{Origin, Named, Held, Either, ResultOf}
use Rattle.ck_origins.specs.CalleeRules.{AreCallable, IsCalleeOf}
use Rattle.ck_origins.specs.Meanings.{HoldersDiffer, Meanings, origin_at, type_at}
use Rattle.ck_origins.specs.SiteRules.{IsCallOfOne}

-- what comes from the first comes from the second
pub data Feeds (p : TypedProject) : Origin → Origin → Type 0 where
  Itself : {o : Origin} → Feeds p o o
  -- since it is given to a holder
  ToHolder : (g : Given) → Contains (givens p) g → Feeds p g.from (Held g.to)
  -- as one of two
  ToFirst : {a b : Origin} → Feeds p a (Either a b)
  ToSecond : {a b : Origin} → Feeds p b (Either a b)

pub record NameFollows (p : TypedProject) (m : Meanings) (n : Names) : Type 0 where
  pub function : Entry
  pub number : function_number (functions p) function ≡ Some n.function.0
  pub feeds : Feeds p (Named function) (origin_at m n.to.0)

abbrev pub FlowFollows : TypedProject → Meanings → Flows → Type 0
FlowFollows p m w = Feeds p (origin_at m w.from.0) (origin_at m w.to.0)

pub record CallFollows (p : TypedProject) (m : Meanings) (call : Call) : Type 0 where
  -- one that passes something is one of the project's
  pub arguments : (place : ℕ) (cell : CellId) → slice_get call.arguments.items place ≡ Some (Some cell)
      → IsCallOfOne p m call
  -- its result is that of a call of what has its type and comes from there
  pub outcome : (cell : CellId) → call.result ≡ Some cell
      → origin_at m cell.0 ≡ ResultOf (type_at m call.kind.0) (origin_at m call.called.0)

pub record Follow (p : TypedProject) (m : Meanings) (s : System) : Type 0 where
  pub cell_count : s.cells ≡ length m.cells
  pub holders : HoldersDiffer m
  pub callees : AllZip (IsCalleeOf p m) (functions p) s.callees
  pub kinds : AllZip (AreCallable p) m.kinds s.kinds
  pub names : All (NameFollows p m) s.names
  pub flows : All (FlowFollows p m) s.flows
  pub calls : All (CallFollows p m) s.calls
