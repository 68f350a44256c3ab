-- Places that are closed below a number, and one more.
use Rattle.std.proofs.Common.{◌≡◌, ℕ, ◌<◌, ◌≤◌, ◌+◌, List, length, slice_get, refl, sym, ap, ◌∙◌, subst, inl, inr}
use Rattle.std.proofs.Common.{arith}
use Rattle.std.specs.Prelude.{◌⊎◌}
use Rattle.std.proofs.lemmas.Bool.{cases_lt}
use Rattle.std.proofs.lemmas.Option.{slice_get_within, same_Some}
use Rattle.ck_base.specs.declared.states.State.{State}
use Rattle.ck_graph.specs.declared.points.PointKind.TheVariants.{Plain, Exit}
use Rattle.ck_graph.specs.declared.points.Edge.{Edge}
use Rattle.ck_graph.specs.Flow.{Flow, point_at}
use Rattle.ck_graph.specs.Faults.{IsSound}
use Rattle.ck_graph.specs.Summary.{IsClosed}
use Rattle.ck_graph.specs.Steps.{kind_at, exit_of, first_of, HasEdge, MayEnter, Leads}
use Rattle.ck_graph.proofs.SoundGraphs.{target-below}
use Rattle.ck_paths.specs.declared.found.Place.{Place}
use Rattle.ck_paths.specs.Found.{IsAt, HasPlace, Extends}
use Rattle.ck_paths.specs.Justified.{function_of}
use Rattle.ck_paths.specs.Search.{HasNext, HasReturn, HasPassed, IsClosedBelow}
use Rattle.ck_paths.proofs.Growing.{has-kept}
use Rattle.ck_paths.proofs.Chains.{at-before, return-kept}

next-kept : (flow : Flow) (old new : List Place) (place : Place) (next : State) → Extends old new →
    HasNext flow old place next → HasNext flow new place next
next-kept flow old new place next kept has k edge is = has-kept old new edge.to.0 place.from next kept (has k edge is)

-- a place of a lower number or of this one
below-or : (old new : List Place) (m n : ℕ) (y place : Place) → Extends old new → m < n + 1 → IsAt old n place →
    IsAt new m y → ((m < n) × IsAt old m y) ⊎ ((m ≡ n) × (place ≡ y))
below-or old new m n y place kept below at is = elim (cases_lt m n) [
  | inl before ↦ inl (before, at-before old new m y kept (omega (arith, before, slice_get_within old n place at)) is)
  | inr last ↦
      let number : m ≡ n = omega (arith, last, below) in
      inr (number, same_Some place y (sym (kept n place at) ∙ (ap (slice_get new) (sym number) ∙ is)))
]

-- a call returns from the exit that was looked at last
back-last : (flow : Flow) (old new : List Place) (m : ℕ) (place calls ends : Place) (target : ℕ) → IsSound flow →
    HasPassed flow old new place → IsAt old m calls → place ≡ ends → MayEnter flow calls.point.0 target →
    ends.point.0 ≡ exit_of flow target → ends.from ≡ calls.to → HasReturn flow new calls ends.to
back-last flow old new m place calls ends target sound passed calls_at same may exit from =
    let function = sound.functions target (target-below flow sound calls.point.0 target may) in
    let place_exit : place.point.0 ≡ exit_of flow target = ap (λ (z : Place). z.point.0) same ∙ exit in
    let own : function_of flow place ≡ target = ap (λ (p : ℕ). (point_at flow p).function.0) place_exit ∙
    function.exit.own in
    let kind : kind_at flow place.point.0 ≡ Exit = ap (kind_at flow) place_exit ∙ function.ends in
    subst (λ (z : Place). HasReturn flow new calls z.to) same
    (passed.back kind calls.point.0 (subst (MayEnter flow calls.point.0) (sym own) may) m calls calls_at refl
    (omega arith) (ap (λ (z : Place). z.from) same ∙ from))

pub closed-more : (flow : Flow) (old new : List Place) (n : ℕ) (place : Place) → IsSound flow → Extends old new →
    IsAt old n place → HasPassed flow old new place → IsClosedBelow flow old n → IsClosedBelow flow new (n + 1)
closed-more flow old new n place sound kept at passed closed = record {
  along = λ m y below is plain. elim (below-or old new m n y place kept below at is) [
    | inl b ↦ next-kept flow old new y y.to kept (closed.along m y b.0 b.1 plain)
    | inr e ↦ subst (λ (z : Place). HasNext flow new z z.to) e.1
        (passed.along (subst (λ (z : Place). kind_at flow z.point.0 ≡ Plain) (sym e.1) plain))
  ];
  act = λ m y below is next leads. elim (below-or old new m n y place kept below at is) [
    | inl b ↦ next-kept flow old new y next kept (closed.act m y b.0 b.1 next leads)
    | inr e ↦ subst (λ (z : Place). HasNext flow new z next) e.1
        (passed.act next (subst (λ (z : Place). Leads flow z.point.0 z.to next) (sym e.1) leads))
  ];
  inside = λ m y below is target may. elim (below-or old new m n y place kept below at is) [
    | inl b ↦ has-kept old new (first_of flow target) y.to y.to kept (closed.inside m y b.0 b.1 target may)
    | inr e ↦ subst (λ (z : Place). HasPlace new (first_of flow target) z.to z.to) e.1
        ((passed.call target (subst (λ (z : Place). MayEnter flow z.point.0 target) (sym e.1) may)).inside)
  ];
  back = λ m x calls ends m_below x_below calls_is ends_is target may exit from.
      elim (below-or old new m n calls place kept m_below at calls_is) [
        | inr e ↦
            let early : IsAt old x ends = at-before old new x ends kept
            (omega (arith, x_below, slice_get_within old n place at)) ends_is in
            subst (λ (z : Place). HasReturn flow new z ends.to) e.1
            ((passed.call target
            (subst (λ (z : Place). MayEnter flow z.point.0 target) (sym e.1) may)).back x ends early
            exit (omega arith) (from ∙ sym (ap (λ (z : Place). z.to) e.1)))
        | inl b ↦ elim (below-or old new x n ends place kept x_below at ends_is) [
          | inl c ↦ return-kept flow old new calls ends.to kept (closed.back m x calls ends b.0 c.0 b.1 c.1 target may
              exit from)
          | inr f ↦ back-last flow old new m place calls ends target sound passed b.1 f.1 may exit from
        ]
      ];
}

pub closed-none : (flow : Flow) (places : List Place) → IsClosedBelow flow places 0
closed-none flow places = record {
  along = λ m y below. absurd (omega (arith, below));
  act = λ m y below. absurd (omega (arith, below));
  inside = λ m y below. absurd (omega (arith, below));
  back = λ m x calls ends below. absurd (omega (arith, below));
}

-- a pair that is found, as a place of which all is known
within-all : (places : List Place) (n : ℕ) (p : ℕ) (i j : State) → length places ≤ n → (h : HasPlace places p i j) →
    h.number < n
within-all places n p i j all h = omega (arith, all, slice_get_within places h.number h.place h.at)

over-along : (flow : Flow) (places : List Place) (n : ℕ) → length places ≤ n → IsClosedBelow flow places n →
    (p : ℕ) (i j : State) → HasPlace places p i j → kind_at flow p ≡ Plain → (k : ℕ) (edge : Edge) →
    HasEdge flow p k edge → HasPlace places edge.to.0 i j
over-along flow places n all closed p i j h plain k edge has =
    let found = closed.along h.number h.place (within-all places n p i j all h) h.at
    (ap (kind_at flow) h.point_is ∙ plain) k edge (subst (λ (q : ℕ). HasEdge flow q k edge) (sym h.point_is) has) in
    subst (HasPlace places edge.to.0 i) h.to_is (subst (λ (s : State). HasPlace places edge.to.0 s h.place.to)
    h.from_is found)

over-act : (flow : Flow) (places : List Place) (n : ℕ) → length places ≤ n → IsClosedBelow flow places n →
    (p : ℕ) (i j next : State) → HasPlace places p i j → Leads flow p j next → (edge : Edge) → HasEdge flow p 0 edge →
    HasPlace places edge.to.0 i next
over-act flow places n all closed p i j next h leads edge has =
    let found = closed.act h.number h.place (within-all places n p i j all h) h.at next
    (subst (λ (s : State). Leads flow h.place.point.0 s next) (sym h.to_is)
    (subst (λ (q : ℕ). Leads flow q j next) (sym h.point_is) leads)) 0 edge
    (subst (λ (q : ℕ). HasEdge flow q 0 edge) (sym h.point_is) has) in
    subst (λ (s : State). HasPlace places edge.to.0 s next) h.from_is found

over-in : (flow : Flow) (places : List Place) (n : ℕ) → length places ≤ n → IsClosedBelow flow places n →
    (p : ℕ) (i j : State) → HasPlace places p i j → (target : ℕ) → MayEnter flow p target →
    HasPlace places (first_of flow target) j j
over-in flow places n all closed p i j h target may =
    subst (λ (s : State). HasPlace places (first_of flow target) s s) h.to_is
    (closed.inside h.number h.place (within-all places n p i j all h) h.at target
    (subst (λ (q : ℕ). MayEnter flow q target) (sym h.point_is) may))

over-back : (flow : Flow) (places : List Place) (n : ℕ) → length places ≤ n → IsClosedBelow flow places n →
    (p : ℕ) (i j k : State) → HasPlace places p i j → (target : ℕ) → MayEnter flow p target →
    HasPlace places (exit_of flow target) j k → (edge : Edge) → HasEdge flow p 0 edge → HasPlace places edge.to.0 i k
over-back flow places n all closed p i j k h target may x edge has =
    let found = closed.back h.number x.number h.place x.place (within-all places n p i j all h)
    (within-all places n (exit_of flow target) j k all x) h.at x.at target
    (subst (λ (q : ℕ). MayEnter flow q target) (sym h.point_is) may) x.point_is (x.from_is ∙ sym h.to_is) edge
    (subst (λ (q : ℕ). HasEdge flow q 0 edge) (sym h.point_is) has) in
    subst (HasPlace places edge.to.0 i) x.to_is (subst (λ (s : State). HasPlace places edge.to.0 s x.place.to)
    h.from_is found)

pub closed-over : (flow : Flow) (places : List Place) (n : ℕ) → length places ≤ n → IsClosedBelow flow places n →
    IsClosed flow (HasPlace places)
closed-over flow places n all closed = record {
  along_edge = λ p i j h plain k edge has. over-along flow places n all closed p i j h plain k edge has;
  by_act = λ p i j next h leads edge has. over-act flow places n all closed p i j next h leads edge has;
  into_call = λ p i j h target may. over-in flow places n all closed p i j h target may;
  over_call = λ p i j k h target may x edge has. over-back flow places n all closed p i j k h target may x edge has;
}
