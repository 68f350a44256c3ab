-- How rules grow until they model a project: each step keeps what stands. A rule may be added once it follows; what is
-- given, a call of the project and a cell count as done once they have their rules.
use Rattle.std.specs.Prelude.{◌≡◌, ◌≤◌, ◌+◌, ℕ, List, [], ◌∷◌, ◌++◌, length, All, Contains, Option}
use Rattle.std.specs.List.{AllZip}
use Rattle.ck_prog.specs.Calls.{CallSite}
use Rattle.ck_reaching.specs.Rules.{System, IsInRange}
use Rattle.ck_reaching.specs.declared.rules.Call.{Call}
use Rattle.ck_reaching.specs.declared.rules.Callee.{Callee}
use Rattle.ck_reaching.specs.declared.rules.Flows.{Flows}
use Rattle.ck_reaching.specs.declared.rules.Names.{Names}
use Rattle.ck_rows.specs.declared.rows.Rows.{Rows}
use Rattle.ck_slots.specs.Givens.{TypedProject, Given, functions}
use Rattle.ck_slots.specs.Holders.{Holder}
use Rattle.ck_slots.specs.Origins.{Origin, Held}
use Rattle.ck_origins.specs.CalleeRules.{AreCallable, IsCalleeOf}
use Rattle.ck_origins.specs.Covering.{Arrives, Brings, IsFed, IsServed}
use Rattle.ck_origins.specs.Following.{CallFollows, FlowFollows, NameFollows}
use Rattle.ck_origins.specs.Meanings.{HoldersDiffer, IsNoHolder, Meanings, origin_at}
use Rattle.ck_origins.specs.Modelling.{AreNumbered, Stand}
use Rattle.ck_types.specs.Types.{CType}

-- rules and meanings that grow ----------------------------------------------------------------------------------------

-- cells of holders, with no rule yet
abbrev pub bare : List Origin → Meanings
bare cells = record { cells = cells; kinds = [] }

abbrev pub no_rules : ℕ → List Callee → System
no_rules cells callees =
    record { cells = cells; callees = callees; kinds = []; names = []; flows = []; calls = [] }

abbrev pub IsHolder : Origin → Type 0
IsHolder o = (h : Holder) × (o ≡ Held h)

abbrev pub with_origin : Meanings → Origin → Meanings
with_origin m o = record m { cells = m.cells ++ (o ∷ []) }

abbrev pub with_type : Meanings → Option CType → Meanings
with_type m type = record m { kinds = m.kinds ++ (type ∷ []) }

abbrev pub with_cell : System → System
with_cell s = record s { cells = s.cells + 1 }

abbrev pub with_kind : System → List Rows → System
with_kind s functions = record s { kinds = s.kinds ++ (functions ∷ []) }

abbrev pub with_name : System → Names → System
with_name s name = record s { names = s.names ++ (name ∷ []) }

abbrev pub with_flow : System → Flows → System
with_flow s flow = record s { flows = s.flows ++ (flow ∷ []) }

abbrev pub with_call : System → Call → System
with_call s call = record s { calls = s.calls ++ (call ∷ []) }

-- no rule is taken away
pub record Grow (old new : System) : Type 0 where
  pub names : (name : Names) → Contains old.names name → Contains new.names name
  pub flows : (flow : Flows) → Contains old.flows flow → Contains new.flows flow
  pub calls : (call : Call) → Contains old.calls call → Contains new.calls call

-- steps ---------------------------------------------------------------------------------------------------------------

abbrev pub BareRulesStand : Type 0
BareRulesStand =
    (p : TypedProject) (cells : List Origin) (callees : List Callee) → All IsHolder cells →
    HoldersDiffer (bare cells) → AllZip (IsCalleeOf p (bare cells)) (functions p) callees →
    Stand p [] [] (length cells) (bare cells) (no_rules (length cells) callees)

module _ (p : TypedProject) (given : List Given) (sites : List CallSite) (fed : ℕ) (m : Meanings) (s : System) where
  abbrev pub NameAdded : Type 0
  NameAdded = Stand p given sites fed m s → (name : Names) → NameFollows p m name →
      Stand p given sites fed m (with_name s name)

  abbrev pub FlowAdded : Type 0
  FlowAdded = Stand p given sites fed m s → (flow : Flows) → FlowFollows p m flow →
      Stand p given sites fed m (with_flow s flow)

  abbrev pub CallAdded : Type 0
  CallAdded = Stand p given sites fed m s → (call : Call) → CallFollows p m call →
      Stand p given sites fed m (with_call s call)

  abbrev pub KindAdded : Type 0
  KindAdded = Stand p given sites fed m s → IsInRange s → (type : Option CType) (functions : List Rows) →
      AreCallable p type functions → Stand p given sites fed (with_type m type) (with_kind s functions)

  -- a cell of no holder, whose rules come after it
  abbrev pub CellAdded : Type 0
  CellAdded = Stand p given sites fed m s → IsInRange s → fed ≤ s.cells → (o : Origin) → IsNoHolder o →
      Stand p given sites fed (with_origin m o) (with_cell s)

  abbrev pub CellDone : Type 0
  CellDone = Stand p given sites fed m s → IsFed p m s (origin_at m fed) fed → Stand p given sites (fed + 1) m s

  abbrev pub GivenDone : Type 0
  GivenDone = Stand p given sites fed m s → (g : Given) → Arrives p m s g →
      Stand p (given ++ (g ∷ [])) sites fed m s

  abbrev pub CallDone : Type 0
  CallDone = Stand p given sites fed m s → (site : CallSite) → IsServed p m s site →
      Stand p given (sites ++ (site ∷ [])) fed m s

-- each of them, of any project and any rules
abbrev pub Always : (TypedProject → List Given → List CallSite → ℕ → Meanings → System → Type 0) → Type 0
Always Step =
    (p : TypedProject) (given : List Given) (sites : List CallSite) (fed : ℕ) (m : Meanings) (s : System) →
    Step p given sites fed m s

-- what is brought to a cell still is when rules are added, and the cells of slots stay when cells are
abbrev pub BringsStays : Type 0
BringsStays =
    (p : TypedProject) (m : Meanings) (old new : System) → Grow old new → (o : Origin) (cell : ℕ) →
    Brings p m old o cell → Brings p m new o cell

abbrev pub NumbersStay : Type 0
NumbersStay = (p : TypedProject) (m : Meanings) (o : Origin) → AreNumbered p m → AreNumbered p (with_origin m o)
