-- Which functions reach which cells (inclusion-based points-to analysis, after Andersen): the least relation with one
-- constructor for each rule.
use Rattle.std.specs.Prelude.{◌≡◌, ℕ, Some, slice_get, Contains}
use Rattle.ck_reaching.specs.declared.rules.CellId.{CellId}
use Rattle.ck_reaching.specs.declared.rules.Names.{Names}
use Rattle.ck_reaching.specs.declared.rules.Flows.{Flows}
use Rattle.ck_reaching.specs.declared.rules.Callee.{Callee}
use Rattle.ck_reaching.specs.declared.rules.Call.{Call}
use Rattle.ck_reaching.specs.Rules.{System, IsOfKind}

module _ (s : System) where
  mutual
    -- a function reaches a cell
    pub data Reaches : ℕ → ℕ → Type 0 where
      ByName : (n : Names) → Contains s.names n → Reaches n.to.0 n.function.0
      ByFlow : {f : ℕ} (w : Flows) → Contains s.flows w → Reaches w.from.0 f → Reaches w.to.0 f
      -- what reaches an argument reaches the parameter of its place of each target
      ByArgument : {f target : ℕ} {a p : CellId} (call : Call) (callee : Callee) (place : ℕ)
          → Contains s.calls call → IsTarget call target → slice_get s.callees target ≡ Some callee
          → slice_get call.arguments.items place ≡ Some (Some a)
          → slice_get callee.parameters.items place ≡ Some (Some p) → Reaches a.0 f → Reaches p.0 f
      -- what reaches the result of a target reaches the result of the call
      ByResult : {f target : ℕ} {r p : CellId} (call : Call) (callee : Callee) → Contains s.calls call
          → IsTarget call target → slice_get s.callees target ≡ Some callee → callee.result ≡ Some r
          → call.result ≡ Some p → Reaches r.0 f → Reaches p.0 f

    -- a call may call a function: it reaches the called cell, and is of the call's kind
    pub data IsTarget : Call → ℕ → Type 0 where
      Reached : {call : Call} {target : ℕ} → IsOfKind s call.kind.0 target → Reaches call.called.0 target
          → IsTarget call target
