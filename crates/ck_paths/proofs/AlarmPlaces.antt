-- The place of an alarm, as it is looked for along the links of its point.
use Rattle.std.proofs.Common.{◌≡◌, ℕ, ◌<◌, ◌≤◌, ◌+◌, List, Some, length, get_or, refl, sym, ap, ◌∙◌, subst, inl, inr}
use Rattle.std.proofs.Common.{arith}
use Rattle.std.specs.Prelude.{◌⊎◌}
use Rattle.std.specs.List.{Contains}
use Rattle.std.proofs.lemmas.Bool.{cases_lt}
use Rattle.std.proofs.lemmas.List.{get_or-map, length-map}
use Rattle.ck_base.specs.declared.states.State.{State}
use Rattle.ck_graph.specs.declared.entries.Root.{Root}
use Rattle.ck_graph.specs.Flow.{Flow}
use Rattle.ck_graph.specs.Steps.{kind_at}
use Rattle.ck_graph.specs.Walk.{Configuration}
use Rattle.ck_graph.specs.Forbidden.{PointAlarm, ReachesAlarm, alarm_in}
use Rattle.ck_graph.specs.Summary.{ReachesPair}
use Rattle.ck_summary.specs.declared.reached.AlarmAt.{AlarmAt}
use Rattle.ck_summary.specs.Alarms.{alarm_of, alarms_of}
use Rattle.ck_paths.specs.declared.found.Place.{Place}
use Rattle.ck_paths.specs.Found.{IsAt, HasPlace, AreLinked, last_at}
use Rattle.ck_paths.specs.Tracing.{IsRaisedAt}
use Rattle.ck_paths.proofs.Citations.{one}

abbrev pub IsRaisedOrBelow : Flow → List Place → PointAlarm → ℕ → ℕ → Type 0
IsRaisedOrBelow flow places alarm n link =
    IsRaisedAt flow places alarm n ⊎ ((m : ℕ) × IsRaisedAt flow places alarm m × (m < link))

pub raised-first : (flow : Flow) (places : List Place) (last : List ℕ) (alarm : PointAlarm) (n m : ℕ) →
    AreLinked places last → IsRaisedAt flow places alarm m →
    IsRaisedOrBelow flow places alarm n (last_at last alarm.point)
raised-first flow places last alarm n m linked raised =
    inr (m, raised, subst (λ (p : ℕ). m < last_at last p) raised.there (linked.covers m raised.place raised.at))

-- the place of the link raises the alarm or doesn't
pub raised-here : (flow : Flow) (places : List Place) (alarm : PointAlarm) (n link : ℕ) (place : Place) →
    IsAt places n place → place.point.0 ≡ alarm.point →
    alarm_in (kind_at flow place.point.0) place.to ≡ Some alarm.kind → IsRaisedOrBelow flow places alarm n link
raised-here flow places alarm n link place at there raised =
    inl (record { place = place; at = at; there = there; raised = raised })

pub raised-more : (flow : Flow) (places : List Place) (last : List ℕ) (alarm : PointAlarm) (best n : ℕ)
    (place : Place) →
    AreLinked places last → IsAt places n place → place.point.0 ≡ alarm.point →
    (alarm_in (kind_at flow place.point.0) place.to ≡ Some alarm.kind → ⊥) →
    IsRaisedOrBelow flow places alarm best (n + 1) → IsRaisedOrBelow flow places alarm best place.same
raised-more flow places last alarm best n place linked at there other (inl best_one) = inl best_one
raised-more flow places last alarm best n place linked at there other (inr (m, raised, below)) = elim (cases_lt m n) [
  | inl earlier ↦
      inr (m, raised, linked.links n m place raised.place at raised.at (raised.there ∙ sym there) earlier)
  | inr same ↦
      let number : n ≡ m = omega (arith, below, same) in
      let here : place ≡ raised.place = one places m place raised.place
      (subst (λ (k : ℕ). IsAt places k place) number at) raised.at in
      absurd (other (ap (λ (p : Place). alarm_in (kind_at flow p.point.0) p.to) here ∙ raised.raised))
]

pub raised-last : (flow : Flow) (places : List Place) (alarm : PointAlarm) (best link : ℕ) → link ≤ 0 →
    IsRaisedOrBelow flow places alarm best link → IsRaisedAt flow places alarm best
raised-last flow places alarm best link none (inl best_one) = best_one
raised-last flow places alarm best link none (inr (m, raised, below)) = absurd (omega (arith, none, below))

-- an alarm that a walk reaches is raised at a place, where the places have all that walks reach
pub raised-from_reached : (flow : Flow) (roots : List Root) (places : List Place) (alarm : PointAlarm) →
    ((p : ℕ) (i j : State) → ReachesPair flow roots p i j → HasPlace places p i j) → ReachesAlarm flow roots alarm →
    (n : ℕ) × IsRaisedAt flow places alarm n
raised-from_reached flow roots places alarm all reaches =
    let c : Configuration = reaches.configuration in
    let has = all c.top.point c.top.entered c.state (record {
      configuration = c;
      reached = reaches.reached;
      top =
          refl;
      state = refl;
    }) in
    let place : Place = has.place in (
      has.number,
      record {
        place = place;
        at = has.at;
        there = has.point_is ∙ reaches.there;
        raised =
            ap (λ (p : ℕ). alarm_in (kind_at flow p) place.to) has.point_is ∙
            (ap (λ (s : State). alarm_in (kind_at flow c.top.point) s) has.to_is ∙ reaches.forbidden);
      },
    )

-- an alarm of a list is one of the list's plain ones
pub contains-alarm : (alarms : List AlarmAt) (k : ℕ) (d : AlarmAt) → k < length alarms →
    Contains (alarms_of alarms) (alarm_of (get_or alarms k d))
contains-alarm alarms k d within = (
  k,
  omega (arith, within, length-map alarms alarm_of),
  get_or-map alarm_of alarms k d (alarm_of (get_or alarms k d)) within,
)
