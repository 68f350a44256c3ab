-- What the parts of the solver do. It serves private contracts alone.
use Rattle.std.specs.Prelude.{◌≡◌, ◌<◌, ◌⊎◌, ℕ, List, Some, length, slice_get, Contains}
use Rattle.ck_rows.specs.declared.rows.Rows.{Rows}
use Rattle.ck_reaching.specs.declared.rules.CellId.{CellId}
use Rattle.ck_reaching.specs.declared.rules.Names.{Names}
use Rattle.ck_reaching.specs.declared.rules.Flows.{Flows}
use Rattle.ck_reaching.specs.declared.rules.Callee.{Callee}
use Rattle.ck_reaching.specs.declared.rules.Call.{Call}
use Rattle.ck_reaching.specs.declared.work.Work.{Work}
use Rattle.ck_reaching.specs.Rules.{System, IsInRange, IsOfKind, width}
use Rattle.ck_reaching.specs.Reaching.{Reaches}
use Rattle.ck_reaching.specs.Reached.{Holds}
use Rattle.ck_reaching.specs.Growth.{IsSized, Keeps}
use Rattle.ck_reaching.specs.Indices.{numbers_at}
use Rattle.ck_reaching.specs.Listing.{IsListed}
use Rattle.ck_reaching.specs.Work.{IsShaped, Grows, HasEdge}

module _ (s : System) where
  -- an edge leads where the rules do: what reaches one cell reaches the other
  abbrev pub IsJustified : ℕ → ℕ → Type 0
  IsJustified from to = (f : ℕ) → Reaches s from f → Reaches s to f

  -- the work is for these rules, and all that it knows follows from them
  pub record IsWorkOf (w : Work) : Type 0 where
    pub inside : IsInRange s
    pub shaped : IsShaped w
    pub cells : length w.edges ≡ s.cells
    pub width : length w.scratch ≡ width s
    pub reached : (c f : ℕ) → Holds w.known.reached c f → Reaches s c f
    pub edges : (from to : ℕ) → HasEdge w.edges from to → IsJustified from to

  pub record Advances (old new : Work) : Type 0 where
    pub work : IsWorkOf new
    pub grows : Grows old new

  -- the edges of the rules' flows
  pub record AreFlows (edges : List (List ℕ)) : Type 0 where
    pub size : length edges ≡ s.cells
    pub all : (w : Flows) → Contains s.flows w → HasEdge edges w.from.0 w.to.0
    pub only : (from to : ℕ) → HasEdge edges from to →
        (w : Flows) × Contains s.flows w × (w.from.0 ≡ from) × (w.to.0 ≡ to)

  -- a call of this number is through this cell
  abbrev pub IsCallAt : ℕ → ℕ → Type 0
  IsCallAt cell number = (call : Call) × (slice_get s.calls number ≡ Some call) × (call.called.0 ≡ cell)

  -- for each cell the calls through it
  pub record AreCalls (calls : List (List ℕ)) : Type 0 where
    pub size : length calls ≡ s.cells
    pub all : (cell number : ℕ) → IsCallAt cell number → Contains (numbers_at calls cell) number
    pub only : (cell number : ℕ) → Contains (numbers_at calls cell) number → IsCallAt cell number

  -- edges lead from the arguments of a call to the parameters of a target, and from its result to that of the call
  pub record IsConnected (edges : List (List ℕ)) (call : Call) (target : ℕ) : Type 0 where
    pub arguments :
        (callee : Callee) → slice_get s.callees target ≡ Some callee → (place : ℕ) (a p : CellId) →
        slice_get call.arguments.items place ≡ Some (Some a) →
        slice_get callee.parameters.items place ≡ Some (Some p) → HasEdge edges a.0 p.0
    pub results :
        (callee : Callee) → slice_get s.callees target ≡ Some callee → (r p : CellId) →
        callee.result ≡ Some r → call.result ≡ Some p → HasEdge edges r.0 p.0

  -- the calls through each cell are connected with the functions that were seen there
  abbrev pub AreConnected : List (List Rows) → List (List ℕ) → Type 0
  AreConnected seen edges =
      (number : ℕ) (call : Call) → slice_get s.calls number ≡ Some call → (f : ℕ) →
      Holds seen call.called.0 f → IsOfKind s call.kind.0 f → IsConnected edges call f

  pub record Connects (call : Call) (target : ℕ) (old new : Work) : Type 0 where
    pub advances : Advances old new
    pub connected : IsConnected new.edges call target

  pub record ConnectsCalls (calls : List ℕ) (f : ℕ) (old new : Work) : Type 0 where
    pub advances : Advances old new
    pub connected :
        (number : ℕ) → Contains calls number → (call : Call) → slice_get s.calls number ≡ Some call →
        IsOfKind s call.kind.0 f → IsConnected new.edges call f

  -- the first n functions, where they reached the cell, were seen there
  pub record ConnectsBelow (cell n : ℕ) (seen : List (List Rows)) (old new : Work) : Type 0 where
    pub advances : Advances old new
    pub sized : IsSized s.cells (width s) seen
    pub connected : AreConnected seen new.edges
    pub met : (f : ℕ) → f < n → Holds old.known.reached cell f → Holds seen cell f

  -- if there is a call through the cell, each function that reached the cell was seen there
  pub record ConnectsNew (cell : ℕ) (seen : List (List Rows)) (old new : Work) : Type 0 where
    pub advances : Advances old new
    pub sized : IsSized s.cells (width s) seen
    pub connected : AreConnected seen new.edges
    pub met :
        (number : ℕ) → IsCallAt cell number → (f : ℕ) → Holds old.known.reached cell f → Holds seen cell f

  -- a cell was looked at: what had reached it went along its edges, and was seen by its calls
  pub record IsLook (cell : ℕ) (seen : List (List Rows)) (old new : Work) : Type 0 where
    pub advances : Advances old new
    pub sized : IsSized s.cells (width s) seen
    pub connected : AreConnected seen new.edges
    pub met :
        (number : ℕ) → IsCallAt cell number → (f : ℕ) → Holds old.known.reached cell f → Holds seen cell f
    pub passed :
        (to f : ℕ) → HasEdge old.edges cell to → Holds old.known.reached cell f → Holds new.known.reached to f

  -- the functions are at the cells where they are named
  pub record HasNames (old new : Work) : Type 0 where
    pub work : IsWorkOf new
    pub edges : new.edges ≡ old.edges
    pub names : (n : Names) → Contains s.names n → Holds new.known.reached n.to.0 n.function.0
    pub listed :
        (c f : ℕ) → Holds new.known.reached c f → Holds old.known.reached c f ⊎ IsListed new.known.listed c

  -- all was passed on but what has reached listed cells
  pub record IsClosedBut (w : Work) : Type 0 where
    pub along :
        (from to : ℕ) → (IsListed w.known.listed from → ⊥) → HasEdge w.edges from to → (f : ℕ) →
        Holds w.known.reached from f → Holds w.known.reached to f
    pub calls :
        (number : ℕ) (call : Call) → slice_get s.calls number ≡ Some call →
        (IsListed w.known.listed call.called.0 → ⊥) → (f : ℕ) → Holds w.known.reached call.called.0 f →
        IsOfKind s call.kind.0 f → IsConnected w.edges call f

  -- nothing is listed any more
  pub record IsSettled (old new : Work) : Type 0 where
    pub work : IsWorkOf new
    pub kept : Keeps old.known.reached new.known.reached
    pub edges : (from to : ℕ) → HasEdge old.edges from to → HasEdge new.edges from to
    pub closed : IsClosedBut new
    pub none : (c : ℕ) → IsListed new.known.listed c → ⊥
