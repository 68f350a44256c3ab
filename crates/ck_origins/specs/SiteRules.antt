-- When a call of the rules is a call of the project (C99 6.5.2.2).
use Rattle.std.specs.Prelude.{◌≡◌, Option, Some, None, Contains}
use Rattle.std.specs.List.{AllZip}
use Rattle.ck_prog.specs.Calls.{CallSite}
use Rattle.ck_prog.specs.TypedTrees.{Typed, facts}
use Rattle.ck_reaching.specs.declared.rules.Call.{Call}
use Rattle.ck_reaching.specs.declared.rules.CellId.{CellId}
use Rattle.ck_slots.specs.Givens.{TypedProject, calls_through, listed}
use Rattle.ck_slots.specs.Origins.{called_type, origin}
use Rattle.ck_origins.specs.Meanings.{IsEmpty, Meanings, origin_at, type_at}

-- it calls what this expression gives
pub record Calls (p : TypedProject) (m : Meanings) (x : Typed) (call : Call) : Type 0 where
  pub called : origin_at m call.called.0 ≡ origin p.all x
  pub kind : type_at m call.kind.0 ≡ called_type (facts x)

-- an argument has a cell, but where no function comes from it
abbrev pub IsArgument : TypedProject → Meanings → Typed → Option CellId → Type 0
IsArgument p m x None = IsEmpty p (origin p.all x)
IsArgument p m x (Some cell) = origin_at m cell.0 ≡ origin p.all x

pub record IsCallOf (p : TypedProject) (m : Meanings) (site : CallSite) (call : Call) : Type 0 where
  pub calls : Calls p m site.called call
  pub arguments : AllZip (IsArgument p m) (listed site.arguments) call.arguments.items

-- a call through an expression in a function
abbrev pub IsCallOfOne : TypedProject → Meanings → Call → Type 0
IsCallOfOne p m call = (site : CallSite) × Contains (calls_through p) site × IsCallOf p m site call
