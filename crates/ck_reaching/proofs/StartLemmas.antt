-- The work before the first look.
use Rattle.std.proofs.Common.{◌≡◌, ◌⊎◌, ◌↔◌, ℕ, ◌+◌, ◌<◌, ◌≤◌, List, Some, length, slice_get, ◌∙◌, subst, inl, inr}
use Rattle.std.proofs.Common.{arith, sym, ap}
use Rattle.std.specs.List.{Contains}
use Rattle.std.proofs.lemmas.Bool.{cases_lt}
use Rattle.std.proofs.lemmas.List.Elements.{All-contains}
use Rattle.std.proofs.lemmas.Option.{slice_get-get_or}
use Rattle.ck_rows.specs.declared.rows.Rows.{Rows}
use Rattle.ck_reaching.specs.declared.known.Known.{Known}
use Rattle.ck_reaching.specs.declared.rules.Names.{Names}
use Rattle.ck_reaching.specs.declared.work.Work.{Work}
use Rattle.ck_reaching.specs.Rules.{System, IsInRange, IsFlowWithin, width}
use Rattle.ck_reaching.specs.Reaching.{Reaches, ByName, ByFlow}
use Rattle.ck_reaching.specs.Reached.{Holds}
use Rattle.ck_reaching.specs.Growth.{IsSized, KeepsSizes}
use Rattle.ck_reaching.specs.Listing.{Listing, IsListed, IsNoted, size_of}
use Rattle.ck_reaching.specs.Solving.{IsWorkOf, AreFlows, HasNames}
use Rattle.ck_reaching.proofs.WorkLemmas.{work, contains-at}

abbrev pub known_of : List (List Rows) → Listing → Known
known_of reached listed = record { reached = reached; listed = listed }

pub IsWorkOf-new : (s : System) (reached : List (List Rows)) (listed : Listing) (edges : List (List ℕ))
    (scratch : List Rows) → IsInRange s → IsSized s.cells (width s) reached →
    ((c f : ℕ) → Holds reached c f → ⊥) → size_of listed ≡ s.cells → length scratch ≡ width s → AreFlows s edges →
    IsWorkOf s (work (known_of reached listed) edges scratch)
IsWorkOf-new s reached listed edges scratch inside sized none size wide flows = record {
  inside = inside;
  shaped = record {
    count = sized.count ∙ sym flows.size;
    sets = λ c below. sized.sets c (omega (arith, below, flows.size)) ∙ sym wide;
    listed = size ∙ sym flows.size;
    inside = λ from to e.
        let flow = flows.only from to e in
        let within = All-contains (IsFlowWithin s.cells) s.flows flow.0 inside.flows flow.1 in
        omega (arith, flow.3, flows.size, within.to);
  };
  cells = flows.size;
  width = wide;
  reached = λ c f h. absurd (none c f h);
  edges = λ from to e f r.
      let flow = flows.only from to e in
      subst (λ c. Reaches s c f) flow.3 (ByFlow flow.0 flow.1 (subst (λ c. Reaches s c f) (sym flow.2) r));
}

-- the first n names are entered
pub record AreEnteredBelow (s : System) (n : ℕ) (old new : Work) : Type 0 where
  pub work : IsWorkOf s new
  pub edges : new.edges ≡ old.edges
  pub names : (k : ℕ) (name : Names) → k < n → slice_get s.names k ≡ Some name →
      Holds new.known.reached name.to.0 name.function.0
  pub listed :
      (c f : ℕ) → Holds new.known.reached c f → Holds old.known.reached c f ⊎ IsListed new.known.listed c

-- a function was added at a cell where it is named
IsWorkOf-entered : (s : System) (name : Names) (old : Work) (reached : List (List Rows)) (listed : Listing) →
    Contains s.names name →
    ((c f : ℕ) → Holds reached c f ↔ (Holds old.known.reached c f ⊎ ((c ≡ name.to.0) × (f ≡ name.function.0)))) →
    KeepsSizes old.known.reached reached → size_of listed ≡ size_of old.known.listed → IsWorkOf s old →
    IsWorkOf s (work (known_of reached listed) old.edges old.scratch)
IsWorkOf-entered s name old reached listed there exactly sizes size is = record {
  inside = is.inside;
  shaped = record {
    count = sizes.count ∙ is.shaped.count;
    sets = λ c below. sizes.sets c ∙ is.shaped.sets c below;
    listed = size ∙ is.shaped.listed;
    inside = is.shaped.inside;
  };
  cells = is.cells;
  width = is.width;
  reached = λ c f h. elim ((exactly c f).0 h) [
    | inl o ↦ is.reached c f o
    | inr x ↦ subst (λ q. Reaches s q f) (sym x.0) (subst (Reaches s name.to.0) (sym x.1) (ByName name there))
  ];
  edges = is.edges;
}

pub entered-more : (s : System) (n : ℕ) (name : Names) (old mid : Work) (reached : List (List Rows))
    (listed : Listing) → slice_get s.names n ≡ Some name →
    ((c f : ℕ) → Holds reached c f ↔ (Holds mid.known.reached c f ⊎ ((c ≡ name.to.0) × (f ≡ name.function.0)))) →
    KeepsSizes mid.known.reached reached → IsNoted name.to.0 mid.known.listed listed → AreEnteredBelow s n old mid →
    AreEnteredBelow s (n + 1) old (work (known_of reached listed) mid.edges mid.scratch)
entered-more s n name old mid reached listed at exactly sizes put before = record {
  work = IsWorkOf-entered s name mid reached listed (contains-at s.names n name at) exactly sizes put.size before.work;
  edges = before.edges;
  names = λ k other below is. (exactly other.to.0 other.function.0).1 (elim (cases_lt k n) [
    | inl lt ↦ inl (before.names k other lt is)
    | inr past ↦
        let e : k ≡ n = omega (arith, past, below) in
        let read : Some other ≡ Some name = sym is ∙ (ap (slice_get s.names) e ∙ at) in
        let same : other ≡ name = cc in
        inr (ap (λ (x : Names). x.to.0) same, ap (λ (x : Names). x.function.0) same)
  ]);
  listed = λ c f h. elim ((exactly c f).0 h) [
    | inl m ↦ elim (before.listed c f m) [ inl o ↦ inl o | inr l ↦ inr (put.kept c l) ]
    | inr x ↦ inr (subst (IsListed listed) (sym x.0) put.there)
  ];
}

pub HasNames-from : (s : System) (n : ℕ) (old new : Work) → length s.names ≤ n → AreEnteredBelow s n old new →
    HasNames s old new
HasNames-from s n old new all is = record {
  work = is.work;
  edges = is.edges;
  names = λ name there. is.names there.0 name (omega (arith, all, there.1))
      (slice_get-get_or s.names there.0 name there.1 ∙ ap Some there.2);
  listed = is.listed;
}
