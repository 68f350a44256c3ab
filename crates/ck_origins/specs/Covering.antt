-- When all that is given, these calls of a project and the cells below a number have their rules (docs/FLOW.md).
use Rattle.std.specs.Prelude.{◌≡◌, ◌<◌, ℕ, List, All, Option, Some, Contains, ⊤}
use Rattle.ck_prog.specs.Calls.{CallSite, function_number}
use Rattle.ck_prog.specs.Declarations.{Entry}
use Rattle.ck_reaching.specs.Rules.{System}
use Rattle.ck_reaching.specs.declared.rules.Call.{Call}
use Rattle.ck_reaching.specs.declared.rules.CellId.{CellId}
use Rattle.ck_reaching.specs.declared.rules.Flows.{Flows}
use Rattle.ck_reaching.specs.declared.rules.Names.{Names}
use Rattle.ck_slots.specs.Givens.{TypedProject, Given, functions}
use Rattle.ck_slots.specs.Origins.{Origin, Nowhere, Named, Held, Either, ResultOf}
use Rattle.ck_origins.specs.Meanings.{IsEmpty, Meanings, origin_at, type_at}
use Rattle.ck_origins.specs.SiteRules.{IsCallOf}
use Rattle.ck_types.specs.Types.{CType}

-- what is brought to a cell ------------------------------------------------------------------------------------------

-- this function
pub record IsNamedAt (s : System) (f cell : ℕ) : Type 0 where
  pub name : Names
  pub there : Contains s.names name
  pub function : name.function.0 ≡ f
  pub to : name.to.0 ≡ cell

-- the function of this name, if it has a body
abbrev pub IsNamed : TypedProject → System → Entry → ℕ → Type 0
IsNamed p s e cell = (f : ℕ) → function_number (functions p) e ≡ Some f → IsNamedAt s f cell

-- whatever reaches a cell of this origin
pub record IsFlow (m : Meanings) (s : System) (o : Origin) (cell : ℕ) : Type 0 where
  pub flow : Flows
  pub there : Contains s.flows flow
  pub from : origin_at m flow.from.0 ≡ o
  pub to : flow.to.0 ≡ cell

-- all that comes from an origin: nothing, its function, or what reaches its cell
pub data Brings (p : TypedProject) (m : Meanings) (s : System) : Origin → ℕ → Type 0 where
  Needless : {o : Origin} {cell : ℕ} → IsEmpty p o → Brings p m s o cell
  OfName : {e : Entry} {cell : ℕ} → IsNamed p s e cell → Brings p m s (Named e) cell
  AlongFlow : {o : Origin} {cell : ℕ} → IsFlow m s o cell → Brings p m s o cell

-- what a cell has by its origin --------------------------------------------------------------------------------------

-- 6.5.2.2: it is the result of a call of what has this type and comes from there
pub record HasResult (m : Meanings) (s : System) (type : Option CType) (called : Origin) (cell : ℕ) : Type 0 where
  pub call : Call
  pub there : Contains s.calls call
  pub kind : type_at m call.kind.0 ≡ type
  pub from : origin_at m call.called.0 ≡ called
  pub outcome : (r : CellId) × (call.result ≡ Some r) × (r.0 ≡ cell)

-- what is given to a holder is counted apart
abbrev pub IsFed : TypedProject → Meanings → System → Origin → ℕ → Type 0
IsFed p m s Nowhere cell = ⊤
IsFed p m s (Named e) cell = IsNamed p s e cell
IsFed p m s (Held h) cell = ⊤
IsFed p m s (Either a b) cell = Brings p m s a cell × Brings p m s b cell
IsFed p m s (ResultOf type called) cell = HasResult m s type called cell

-- what is given, and calls -------------------------------------------------------------------------------------------

abbrev pub Arrives : TypedProject → Meanings → System → Given → Type 0
Arrives p m s g = (cell : ℕ) → origin_at m cell ≡ Held g.to → Brings p m s g.from cell

pub record IsServed (p : TypedProject) (m : Meanings) (s : System) (site : CallSite) : Type 0 where
  pub call : Call
  pub there : Contains s.calls call
  pub is_of : IsCallOf p m site call

pub record Cover (p : TypedProject) (given : List Given) (sites : List CallSite) (fed : ℕ) (m : Meanings) (s : System)
    : Type 0 where
  pub cells : (cell : ℕ) → cell < fed → IsFed p m s (origin_at m cell) cell
  pub givens : All (Arrives p m s) given
  pub calls : All (IsServed p m s) sites
