-- The work of the solver, step by step.
use Rattle.std.proofs.Common.{◌≡◌, ℕ, ◌+◌, ◌<◌, ◌≤◌, List, Option, Some, length, slice_get, ◌∙◌, subst, inl, inr}
use Rattle.std.proofs.Common.{arith, sym, ap}
use Rattle.std.specs.List.{Contains}
use Rattle.std.proofs.lemmas.Bool.{cases_lt}
use Rattle.std.proofs.lemmas.Option.{slice_get-get_or}
use Rattle.ck_reaching.specs.declared.rules.CellId.{CellId}
use Rattle.ck_reaching.specs.declared.rules.Callee.{Callee}
use Rattle.ck_reaching.specs.declared.rules.Call.{Call}
use Rattle.ck_reaching.specs.declared.work.Work.{Work}
use Rattle.ck_reaching.specs.Rules.{System, IsOfKind}
use Rattle.ck_reaching.specs.Reaching.{Reaches, IsTarget, ByArgument, ByResult}
use Rattle.ck_reaching.specs.Work.{Grows, HasEdge, AddsEdge, AddsEdgeIfAny, IsSpread}
use Rattle.ck_reaching.specs.Solving.{IsJustified, IsWorkOf, Advances, IsConnected, Connects, ConnectsCalls}
use Rattle.ck_reaching.proofs.WorkLemmas.{Grows-none, Grows-then}

pub Advances-none : (s : System) (w : Work) → IsWorkOf s w → Advances s w w
Advances-none s w work = record { work = work; grows = Grows-none w work.shaped }

pub Advances-then : (s : System) (old mid new : Work) → Advances s old mid → Advances s mid new → Advances s old new
Advances-then s old mid new first then = record {
  work = then.work;
  grows = Grows-then old mid new first.grows then.grows;
}

-- an edge is added that leads where the rules do
Advances-edge : (s : System) (from to : ℕ) (old new : Work) → IsWorkOf s old → IsJustified s from to →
    AddsEdge from to old new → Advances s old new
Advances-edge s from to old new work leads adds = record {
  work = record {
    inside = work.inside;
    shaped = adds.grows.shaped;
    cells = adds.grows.cells ∙ work.cells;
    width = adds.grows.width ∙ work.width;
    reached = λ c f h. elim (adds.only c f h) [
      | inl o ↦ work.reached c f o
      | inr x ↦ subst (λ q. Reaches s q f) (sym x.0) (leads f (work.reached from f x.1))
    ];
    edges = λ a b e. elim (adds.only_edges a b e) [
      | inl o ↦ work.edges a b o
      | inr x ↦ subst (λ q. IsJustified s q b) (sym x.0) (subst (IsJustified s from) (sym x.1) leads)
    ];
  };
  grows = adds.grows;
}

pub Advances-edge_if_any : (s : System) (from to : Option CellId) (old new : Work) → IsWorkOf s old →
    ((a b : CellId) → from ≡ Some a → to ≡ Some b → IsJustified s a.0 b.0) → AddsEdgeIfAny from to old new →
    Advances s old new
Advances-edge_if_any s from to old new work leads adds = elim adds.adds [
  | inl e ↦ record { work = subst (IsWorkOf s) (sym e) work; grows = adds.grows }
  | inr x ↦ Advances-edge s x.0.0 x.1.0 old new work (leads x.0 x.1 x.2 x.3) x.4
]

-- the arguments of the first n places are connected
pub record IsConnectedBelow (s : System) (call : Call) (callee : Callee) (n : ℕ) (old new : Work) : Type 0 where
  pub advances : Advances s old new
  pub arguments :
      (place : ℕ) (a p : CellId) → place < n → slice_get call.arguments.items place ≡ Some (Some a) →
      slice_get callee.parameters.items place ≡ Some (Some p) → HasEdge new.edges a.0 p.0

pub places-more : (s : System) (call : Call) (callee : Callee) (target n : ℕ) (from to : Option CellId)
    (old mid new : Work) → Contains s.calls call → IsTarget s call target → slice_get s.callees target ≡ Some callee →
    slice_get call.arguments.items n ≡ Some from → slice_get callee.parameters.items n ≡ Some to →
    IsConnectedBelow s call callee n old mid → AddsEdgeIfAny from to mid new →
    IsConnectedBelow s call callee (n + 1) old new
places-more s call callee target n from to old mid new there t at arg param first adds = record {
  advances = Advances-then s old mid new first.advances
      (Advances-edge_if_any s from to mid new first.advances.work
      (λ a b is_from is_to f r.
      ByArgument call callee n there t at (arg ∙ ap Some is_from) (param ∙ ap Some is_to) r)
      adds);
  arguments = λ place a p below is_arg is_param. elim (cases_lt place n) [
    | inl before ↦ adds.grows.edges a.0 p.0 (first.arguments place a p before is_arg is_param)
    | inr past ↦
        let e : place ≡ n = omega (arith, past, below) in
        let read : Some from ≡ Some (Some a) = sym arg ∙ (ap (slice_get call.arguments.items) (sym e) ∙ is_arg) in
        let other : Some to ≡ Some (Some p) =
        sym param ∙ (ap (slice_get callee.parameters.items) (sym e) ∙ is_param) in
        let same : from ≡ Some a = cc in
        let same' : to ≡ Some p = cc in
        adds.there a p same same'
  ];
}

-- the results are connected too
pub Connects-from : (s : System) (call : Call) (callee : Callee) (target n : ℕ) (old mid new : Work) →
    Contains s.calls call → IsTarget s call target → slice_get s.callees target ≡ Some callee →
    ((place : ℕ) (a p : CellId) → slice_get call.arguments.items place ≡ Some (Some a) →
    slice_get callee.parameters.items place ≡ Some (Some p) → place < n) →
    IsConnectedBelow s call callee n old mid → AddsEdgeIfAny callee.result call.result mid new →
    Connects s call target old new
Connects-from s call callee target n old mid new there t at all first adds = record {
  advances = Advances-then s old mid new first.advances
      (Advances-edge_if_any s callee.result call.result mid new first.advances.work
      (λ a b is_from is_to f r. ByResult call callee there t at is_from is_to r) adds);
  connected = record {
    arguments = λ other is place a p arg param.
        let read : Some other ≡ Some callee = sym is ∙ at in
        let same : other ≡ callee = cc in
        let param' : slice_get callee.parameters.items place ≡ Some (Some p) =
        subst (λ (e : Callee). slice_get e.parameters.items place ≡ Some (Some p)) same param in
        adds.grows.edges a.0 p.0 (first.arguments place a p (all place a p arg param') arg param');
    results = λ other is r p back out.
        let read : Some other ≡ Some callee = sym is ∙ at in
        let same : other ≡ callee = cc in
        adds.there r p (subst (λ (e : Callee). e.result ≡ Some r) same back) out;
  };
}

pub IsConnected-grows : (s : System) (old new : Work) (call : Call) (target : ℕ) → Grows old new →
    IsConnected s old.edges call target → IsConnected s new.edges call target
IsConnected-grows s old new call target grows is = record {
  arguments = λ callee at place a p arg param. grows.edges a.0 p.0 (is.arguments callee at place a p arg param);
  results = λ callee at r p back out. grows.edges r.0 p.0 (is.results callee at r p back out);
}

-- the first n of some calls are connected
pub record AreConnectedBelow (s : System) (calls : List ℕ) (f n : ℕ) (old new : Work) : Type 0 where
  pub advances : Advances s old new
  pub connected :
      (k number : ℕ) → k < n → slice_get calls k ≡ Some number → (call : Call) →
      slice_get s.calls number ≡ Some call → IsOfKind s call.kind.0 f → IsConnected s new.edges call f

pub calls-more : (s : System) (calls : List ℕ) (f n number : ℕ) (call : Call) (old mid new : Work) →
    slice_get calls n ≡ Some number → slice_get s.calls number ≡ Some call →
    (IsOfKind s call.kind.0 f → IsConnected s new.edges call f) → Advances s mid new →
    AreConnectedBelow s calls f n old mid → AreConnectedBelow s calls f (n + 1) old new
calls-more s calls f n number call old mid new at is met then first = record {
  advances = Advances-then s old mid new first.advances then;
  connected = λ k m below there other is' kind. elim (cases_lt k n) [
    | inl before ↦ IsConnected-grows s mid new other f then.grows (first.connected k m before there other is' kind)
    | inr past ↦
        let e : k ≡ n = omega (arith, past, below) in
        let read : Some m ≡ Some number = sym there ∙ (ap (slice_get calls) e ∙ at) in
        let same : m ≡ number = cc in
        let read' : Some other ≡ Some call = sym is' ∙ (ap (slice_get s.calls) same ∙ is) in
        let same' : other ≡ call = cc in
        subst (λ (c : Call). IsConnected s new.edges c f) (sym same')
        (met (subst (λ (c : Call). IsOfKind s c.kind.0 f) same' kind))
  ];
}

-- what is known at a cell is passed on along edges that lead where the rules do
pub Advances-spread : (s : System) (cell : ℕ) (old new : Work) → IsWorkOf s old → IsSpread cell old new →
    Advances s old new
Advances-spread s cell old new work spread = record {
  work = record {
    inside = work.inside;
    shaped = spread.grows.shaped;
    cells = spread.grows.cells ∙ work.cells;
    width = spread.grows.width ∙ work.width;
    reached = λ c f h. elim (spread.only c f h) [
      | inl o ↦ work.reached c f o
      | inr x ↦ work.edges cell c x.0 f (work.reached cell f x.1)
    ];
    edges = subst (λ edges. (from to : ℕ) → HasEdge edges from to → IsJustified s from to) (sym spread.same) work.edges;
  };
  grows = spread.grows;
}

pub calls-from_all : (s : System) (calls : List ℕ) (f n : ℕ) (old new : Work) → length calls ≤ n →
    AreConnectedBelow s calls f n old new → ConnectsCalls s calls f old new
calls-from_all s calls f n old new all is = record {
  advances = is.advances;
  connected = λ number there. is.connected there.0 number (omega (arith, all, there.1))
      (slice_get-get_or calls there.0 number there.1 ∙ ap Some there.2);
}
