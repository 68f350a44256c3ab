-- What stands for rules when meanings and rules grow.
use Rattle.std.proofs.Common.{◌≡◌, ℕ, ◌<◌, List, get_or, Option, Some, None}
use Rattle.std.proofs.Common.{refl, sym, ap₂, ◌∙◌, subst}
use Rattle.std.specs.List.{Contains}
use Rattle.ck_prog.specs.Calls.{CallSite}
use Rattle.ck_prog.specs.Declarations.{Entry}
use Rattle.ck_prog.specs.TypedBodies.{TypedFunction}
use Rattle.ck_prog.specs.TypedTrees.{Typed}
use Rattle.ck_reaching.specs.Rules.{System}
use Rattle.ck_reaching.specs.declared.rules.Call.{Call}
use Rattle.ck_reaching.specs.declared.rules.Callee.{Callee}
use Rattle.ck_reaching.specs.declared.rules.CellId.{CellId}
use Rattle.ck_reaching.specs.declared.rules.Flows.{Flows}
use Rattle.ck_reaching.specs.declared.rules.Names.{Names}
use Rattle.ck_slots.specs.Givens.{TypedProject, Given, listed}
use Rattle.ck_slots.specs.Holders.{Holder}
use Rattle.ck_slots.specs.Origins.{Origin, Nowhere, Named, Held, Either, ResultOf}
use Rattle.ck_origins.specs.CalleeRules.{HasCell, IsCalleeOf, parameter_holders}
use Rattle.ck_origins.specs.Covering.{Arrives, Brings, Cover, HasResult, IsFed, IsFlow, IsNamed, IsServed}
use Rattle.ck_origins.specs.Covering as covering
use Rattle.ck_origins.specs.Following.{CallFollows, Feeds, FlowFollows, NameFollows}
use Rattle.ck_origins.specs.Meanings.{Meanings, origin_at, type_at}
use Rattle.ck_origins.specs.SiteRules.{IsArgument, IsCallOf, IsCallOfOne}
use Rattle.ck_origins.specs.Steps.{Grow}
use Rattle.ck_origins.proofs.Zips.{zip_weaker}
use Rattle.ck_types.specs.Types.{CType}

-- the numbers of the rules, and the cells of holders, stand for the same in both
pub record Keeps (m n : Meanings) (s : System) : Type 0 where
  pub named : (name : Names) → Contains s.names name → origin_at n name.to.0 ≡ origin_at m name.to.0
  pub from : (w : Flows) → Contains s.flows w → origin_at n w.from.0 ≡ origin_at m w.from.0
  pub to : (w : Flows) → Contains s.flows w → origin_at n w.to.0 ≡ origin_at m w.to.0
  pub called : (call : Call) → Contains s.calls call → origin_at n call.called.0 ≡ origin_at m call.called.0
  pub kind : (call : Call) → Contains s.calls call → type_at n call.kind.0 ≡ type_at m call.kind.0
  pub arguments : (call : Call) → Contains s.calls call → (cell : CellId) → Contains call.arguments.items (Some cell)
      → origin_at n cell.0 ≡ origin_at m cell.0
  pub outcome : (call : Call) → Contains s.calls call → (cell : CellId) → call.result ≡ Some cell
      → origin_at n cell.0 ≡ origin_at m cell.0
  pub held : (c : ℕ) (h : Holder) → origin_at m c ≡ Held h → origin_at n c ≡ Held h
  pub held_before : (c : ℕ) (h : Holder) → origin_at n c ≡ Held h → origin_at m c ≡ Held h

pub keeps_same : (m : Meanings) (s : System) → Keeps m m s
keeps_same m s = record {
  named = λ name there. refl;
  from = λ w there. refl;
  to = λ w there. refl;
  called = λ call there. refl;
  kind = λ call there. refl;
  arguments = λ call there cell at. refl;
  outcome = λ call there cell at. refl;
  held = λ c h is. is;
  held_before = λ c h is. is;
}

module _ (p : TypedProject) (m n : Meanings) (s : System) (keeps : Keeps m n s) where
  -- rules that follow ------------------------------------------------------------------------------------------------

  pub name_follows : (name : Names) → Contains s.names name → NameFollows p m name → NameFollows p n name
  name_follows name there is = record {
    function = is.function;
    number = is.number;
    feeds = subst (Feeds p (Named is.function)) (sym (keeps.named name there)) is.feeds;
  }

  pub flow_follows : (w : Flows) → Contains s.flows w → FlowFollows p m w → FlowFollows p n w
  flow_follows w there is =
      subst (λ o. Feeds p o (origin_at n w.to.0)) (sym (keeps.from w there))
      (subst (Feeds p (origin_at m w.from.0)) (sym (keeps.to w there)) is)

  argument : (call : Call) → Contains s.calls call → (x : Typed) (c : Option CellId) → Contains call.arguments.items c
      → IsArgument p m x c → IsArgument p n x c
  argument call there x None at is = is
  argument call there x (Some cell) at is = keeps.arguments call there cell at ∙ is

  pub is_call_of : (site : CallSite) (call : Call) → Contains s.calls call → IsCallOf p m site call
      → IsCallOf p n site call
  is_call_of site call there is = record {
    calls = record {
      called = keeps.called call there ∙ is.calls.called;
      kind = keeps.kind call there ∙ is.calls.kind;
    };
    arguments = zip_weaker (IsArgument p m) (IsArgument p n) (listed site.arguments) call.arguments.items
        (argument call there) is.arguments;
  }

  of_one : (call : Call) → Contains s.calls call → IsCallOfOne p m call → IsCallOfOne p n call
  of_one call there (site, at, is) = (site, at, is_call_of site call there is)

  pub call_follows : (call : Call) → Contains s.calls call → CallFollows p m call → CallFollows p n call
  call_follows call there is = record {
    arguments = λ place cell at. of_one call there (is.arguments place cell at);
    outcome = λ cell at. keeps.outcome call there cell at ∙ (is.outcome cell at
        ∙ ap₂ ResultOf (sym (keeps.kind call there)) (sym (keeps.called call there)));
  }

  has_cell : (to : Option Holder) (c : Option CellId) → HasCell m to c → HasCell n to c
  has_cell None None is = is
  has_cell None (Some cell) is = absurd is
  has_cell (Some h) None is = absurd is
  has_cell (Some h) (Some cell) is = keeps.held cell.0 h is

  pub is_callee_of : (f : TypedFunction) (callee : Callee) → IsCalleeOf p m f callee → IsCalleeOf p n f callee
  is_callee_of f callee is = record {
    parameters = zip_weaker (HasCell m) (HasCell n) (parameter_holders p.all f) callee.parameters.items
        (λ to c at has. has_cell to c has) is.parameters;
    outcome = has_cell _ callee.result is.outcome;
  }

  -- what has its rules ------------------------------------------------------------------------------------------------

  module _ (t : System) (grow : Grow s t) where
    named : (e : Entry) (cell : ℕ) → IsNamed p s e cell → IsNamed p t e cell
    named e cell is f number =
        let at = is f number in
        record { name = at.name; there = grow.names at.name at.there; function = at.function; to = at.to }

    flow : (o : Origin) (cell : ℕ) → IsFlow m s o cell → IsFlow n t o cell
    flow o cell is = record {
      flow = is.flow;
      there = grow.flows is.flow is.there;
      from = keeps.from is.flow is.there ∙ is.from;
      to = is.to;
    }

    pub brings : (o : Origin) (cell : ℕ) → Brings p m s o cell → Brings p n t o cell
    brings o cell (covering.Needless empty) = covering.Needless empty
    brings o cell (covering.OfName {e = e} is) = covering.OfName (named e cell is)
    brings o cell (covering.AlongFlow is) = covering.AlongFlow (flow o cell is)

    outcome : (type : Option CType) (called : Origin) (cell : ℕ) → HasResult m s type called cell
        → HasResult n t type called cell
    outcome type called cell is = record {
      call = is.call;
      there = grow.calls is.call is.there;
      kind = keeps.kind is.call is.there ∙ is.kind;
      from = keeps.called is.call is.there ∙ is.from;
      outcome = is.outcome;
    }

    fed : (o : Origin) (cell : ℕ) → IsFed p m s o cell → IsFed p n t o cell
    fed Nowhere cell is = tt
    fed (Named e) cell is = named e cell is
    fed (Held h) cell is = tt
    fed (Either a b) cell is = (brings a cell is.0, brings b cell is.1)
    fed (ResultOf type called) cell is = outcome type called cell is

    arrives : (g : Given) → Arrives p m s g → Arrives p n t g
    arrives g is cell at = brings g.from cell (is cell (keeps.held_before cell g.to at))

    served : (site : CallSite) → IsServed p m s site → IsServed p n t site
    served site is = record {
      call = is.call;
      there = grow.calls is.call is.there;
      is_of = is_call_of site is.call is.there is.is_of;
    }

    pub cover : (given : List Given) (sites : List CallSite) (below : ℕ) → Cover p given sites below m s
        → ((c : ℕ) → c < below → origin_at n c ≡ origin_at m c) → Cover p given sites below n t
    cover given sites below is same = record {
      cells = λ c lt. subst (λ o. IsFed p n t o c) (sym (same c lt)) (fed (origin_at m c) c (is.cells c lt));
      givens = λ k d lt. arrives (get_or given k d) (is.givens k d lt);
      calls = λ k d lt. served (get_or sites k d) (is.calls k d lt);
    }
