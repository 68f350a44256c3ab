-- One look at a cell.
use Rattle.std.proofs.Common.{length, ◌≡◌, ◌⊎◌, ◌↔◌, ℕ, ◌+◌, List, Some, slice_get, ◌∙◌, subst, inl, inr, arith}
use Rattle.std.proofs.Common.{sym}
use Rattle.std.proofs.lemmas.Bool.{cases_eq, cases_lt}
use Rattle.ck_rows.specs.declared.rows.Rows.{Rows}
use Rattle.ck_reaching.specs.declared.rules.Call.{Call}
use Rattle.ck_reaching.specs.declared.work.Work.{Work}
use Rattle.ck_reaching.specs.Rules.{System, IsOfKind, function_count, width}
use Rattle.ck_reaching.specs.Reached.{Holds, set_at}
use Rattle.ck_reaching.specs.Growth.{IsSized}
use Rattle.ck_reaching.specs.Joins.{IsClearBetween}
use Rattle.ck_reaching.specs.Indices.{numbers_at}
use Rattle.ck_reaching.specs.Listing.{Listing, IsListed, size_of}
use Rattle.ck_reaching.specs.Work.{Grows, HasEdge, IsSpread}
use Rattle.ck_reaching.specs.Solving.{IsWorkOf, Advances, AreConnected, IsConnected, ConnectsBelow, ConnectsNew}
use Rattle.ck_reaching.specs.Solving.{AreCalls, IsLook, IsClosedBut}
use Rattle.ck_reaching.proofs.RuleLemmas.{reaches-below}
use Rattle.ck_reaching.proofs.ConnectLemmas.{Advances-none, Advances-then, Advances-spread, IsConnected-grows}

pub AreConnected-grows : (s : System) (seen : List (List Rows)) (old new : Work) → Grows old new →
    AreConnected s seen old.edges → AreConnected s seen new.edges
AreConnected-grows s seen old new grows are number call is f h kind =
    IsConnected-grows s old new call f grows (are number call is f h kind)

-- one more function was seen at a cell
pub AreConnected-seen : (s : System) (cell g : ℕ) (old new : List (List Rows)) (edges : List (List ℕ)) →
    ((c f : ℕ) → Holds new c f ↔ (Holds old c f ⊎ ((c ≡ cell) × (f ≡ g)))) →
    ((number : ℕ) (call : Call) → slice_get s.calls number ≡ Some call → call.called.0 ≡ cell →
    IsOfKind s call.kind.0 g → IsConnected s edges call g) →
    AreConnected s old edges → AreConnected s new edges
AreConnected-seen s cell g old new edges exactly met are number call is f h kind =
    elim ((exactly call.called.0 f).0 h) [
      | inl o ↦ are number call is f o kind
      | inr x ↦ subst (IsConnected s edges call) (sym x.1)
          (met number call is x.0 (subst (IsOfKind s call.kind.0) x.1 kind))
    ]

pub ConnectsBelow-more : (s : System) (cell n g : ℕ) (seen seen' : List (List Rows)) (old mid new : Work) →
    IsClearBetween (set_at mid.known.reached cell) n g → ConnectsBelow s cell n seen old mid → Advances s mid new →
    IsSized s.cells (width s) seen' → AreConnected s seen' new.edges →
    ((c f : ℕ) → Holds seen c f → Holds seen' c f) → (Holds mid.known.reached cell g → Holds seen' cell g) →
    ConnectsBelow s cell (g + 1) seen' old new
ConnectsBelow-more s cell n g seen seen' old mid new clear first then sized connected kept met = record {
  advances = Advances-then s old mid new first.advances then;
  sized = sized;
  connected = connected;
  met = λ f below h.
      let now = first.advances.grows.gains.kept cell f h in
      elim (cases_lt f n) [
        | inl lt ↦ kept cell f (first.met f lt h)
        | inr past ↦ elim (cases_eq f g) [
          | inl e ↦ subst (Holds seen' cell) (sym e) (met (subst (Holds mid.known.reached cell) e now))
          | inr ne ↦ absurd (clear f past (omega (arith, below, ne)) now)
        ]
      ];
}

-- with no call through the cell there is nothing to connect
pub ConnectsNew-none : (s : System) (cell : ℕ) (calls : List (List ℕ)) (seen : List (List Rows)) (w : Work) →
    IsWorkOf s w → IsSized s.cells (width s) seen → AreConnected s seen w.edges → AreCalls s calls →
    length (numbers_at calls cell) ≡ 0 → ConnectsNew s cell seen w w
ConnectsNew-none s cell calls seen w work sized connected are none = record {
  advances = Advances-none s w work;
  sized = sized;
  connected = connected;
  met = λ number at. absurd (let there = are.all cell number at in omega (arith, none, there.1));
}

pub ConnectsNew-from : (s : System) (cell : ℕ) (seen : List (List Rows)) (old new : Work) → IsWorkOf s old →
    ConnectsBelow s cell (function_count s) seen old new → ConnectsNew s cell seen old new
ConnectsNew-from s cell seen old new work connects = record {
  advances = connects.advances;
  sized = connects.sized;
  connected = connects.connected;
  met = λ number at f h. connects.met f (reaches-below s work.inside cell f (work.reached cell f h)) h;
}

pub IsLook-from : (s : System) (cell : ℕ) (seen : List (List Rows)) (old mid new : Work) →
    ConnectsNew s cell seen old mid → IsSpread cell mid new → IsLook s cell seen old new
IsLook-from s cell seen old mid new connects spread = record {
  advances = Advances-then s old mid new connects.advances
      (Advances-spread s cell mid new connects.advances.work spread);
  sized = connects.sized;
  connected = AreConnected-grows s seen mid new spread.grows connects.connected;
  met = connects.met;
  passed = λ to f e h. spread.passed to f (connects.advances.grows.edges cell to e)
      (connects.advances.grows.gains.kept cell f h);
}

-- after a look all was passed on but what has reached listed cells
pub closed-look : (s : System) (p : ℕ) (seen : List (List Rows)) (before taken new : Work) →
    taken.known.reached ≡ before.known.reached → taken.edges ≡ before.edges →
    ((c : ℕ) → IsListed before.known.listed c → IsListed taken.known.listed c ⊎ (p ≡ c)) →
    IsClosedBut s before → IsLook s p seen taken new → IsClosedBut s new
closed-look s p seen before taken new same same' others closed look =
    let grows = look.advances.grows in
    let old = λ (c : ℕ) (un : IsListed new.known.listed c → ⊥) (f : ℕ) (h : Holds new.known.reached c f).
    elim (grows.gains.listed c f h) as (λ x. Holds taken.known.reached c f) [ inl o ↦ o | inr l ↦ absurd (un l) ] in
    let unlisted = λ (c : ℕ) (un : IsListed new.known.listed c → ⊥) (ne : c ≡ p → ⊥)
    (l : IsListed before.known.listed c).
    elim (others c l) as (λ x. ⊥) [ inl t ↦ un (grows.gains.stays c t) | inr e ↦ ne (sym e) ] in
    record {
      along = λ from to un e f h. elim (grows.passed from to e) [
        | inr passed ↦ passed f (old from un f h)
        | inl was ↦ elim (cases_eq from p) [
          | inl at ↦ look.passed to f (subst (λ q. HasEdge taken.edges q to) at was)
              (subst (λ q. Holds taken.known.reached q f) at (old from un f h))
          | inr ne ↦ grows.gains.kept to f
              (subst (λ t. Holds t to f) (sym same)
              (closed.along from to (unlisted from un ne) (subst (λ t. HasEdge t from to) same' was) f
              (subst (λ t. Holds t from f) same (old from un f h))))
        ]
      ];
      calls = λ number call is un f h kind. elim (cases_eq call.called.0 p) [
        | inl at ↦ look.connected number call is f
            (subst (λ q. Holds seen q f) (sym at)
            (look.met number (call, is, at) f
            (subst (λ q. Holds taken.known.reached q f) at (old call.called.0 un f h)))) kind
        | inr ne ↦ IsConnected-grows s taken new call f grows
            (subst (λ t. IsConnected s t call f) (sym same')
            (closed.calls number call is (unlisted call.called.0 un ne) f
            (subst (λ t. Holds t call.called.0 f) same (old call.called.0 un f h)) kind))
      ];
    }

-- a cell was taken off the worklist, of the same size
pub IsWorkOf-taken : (s : System) (before : Work) (listed : Listing) → size_of listed ≡ size_of before.known.listed →
    IsWorkOf s before →
    IsWorkOf s (record {
      known = record { reached = before.known.reached; listed = listed };
      edges = before.edges;
      scratch = before.scratch;
    })
IsWorkOf-taken s before listed size is = record {
  inside = is.inside;
  shaped = record {
    count = is.shaped.count;
    sets = is.shaped.sets;
    listed = size ∙ is.shaped.listed;
    inside = is.shaped.inside;
  };
  cells = is.cells;
  width = is.width;
  reached = is.reached;
  edges = is.edges;
}
