-- The alarms of a solved table, in order and each once, are those that walks reach.
use Rattle.std.proofs.Common.{◌≡◌, ℕ, suc, zero, ◌<◌, List, [], ◌∷◌, Some, length, get_or, map, refl, sym, ap, ◌∙◌}
use Rattle.std.proofs.Common.{subst, arith}
use Rattle.std.specs.declared.cmp.Ordering.TheVariants.{Less}
use Rattle.std.specs.List.{AllPairs, Contains}
use Rattle.std.proofs.lemmas.List.Elements.{All-map}
use Rattle.std.proofs.lemmas.List.Kept.{AllPairs-cons}
use Rattle.std.proofs.lemmas.List.{get_or-map, length-map}
use Rattle.ck_base.specs.Act.{state_code}
use Rattle.ck_rows.specs.declared.rows.Rows.{Rows}
use Rattle.ck_graph.specs.declared.entries.Root.{Root}
use Rattle.ck_graph.specs.Flow.{Flow}
use Rattle.ck_graph.specs.Walk.{Frame, Configuration}
use Rattle.ck_graph.specs.Forbidden.{PointAlarm, ReachesAlarm, AreAlarms, alarm_cmp, alarm_in}
use Rattle.ck_summary.specs.declared.reached.AlarmAt.{AlarmAt}
use Rattle.ck_summary.specs.Solution.{ReachesCodes, IsSolution}
use Rattle.ck_graph.specs.Steps.{kind_at}
use Rattle.ck_summary.specs.Alarms.{alarm_of, alarms_of, HasAlarm, AreFound, IsInOrder}
use Rattle.ck_summary.proofs.StateCodes.{state_code-one}
use Rattle.ck_summary.proofs.AlarmLemmas.{alarm-there}

-- a map keeps what holds of each pair, and what stands in it
AllPairs-map : {X Y : Type 0} (f : X → Y) (R : Y → Y → Type 0) (xs : List X) → AllPairs (λ a b. R (f a) (f b)) xs →
    AllPairs R (map f xs)
AllPairs-map f R [] h = λ i j d below there. absurd (omega (arith, there))
AllPairs-map f R (x ∷ xs) h =
    AllPairs-cons R (f x) (map f xs)
    (All-map (R (f x)) f xs (λ k d below. h zero (suc k) d (omega arith) (omega arith)))
    (AllPairs-map f R xs (λ i j d below there. h (suc i) (suc j) d (omega arith) (omega arith)))

Contains-map : {X Y : Type 0} (f : X → Y) (xs : List X) (x : X) → Contains xs x → Contains (map f xs) (f x)
Contains-map f xs x h = (h.0, omega (arith, h.1, length-map xs f), get_or-map f xs h.0 x (f x) h.1 ∙ ap f h.2)

record IsMapped {X Y : Type 0} (f : X → Y) (xs : List X) (y : Y) : Type 0 where
  element : X
  there : Contains xs element
  is : f element ≡ y

mapped-at : {X Y : Type 0} (f : X → Y) (xs : List X) (y : Y) (k : ℕ) → k < length (map f xs) →
    get_or (map f xs) k y ≡ y → IsMapped f xs y
mapped-at f [] y k below is = absurd (omega (arith, below))
mapped-at f (x ∷ xs) y zero below is = record { element = x; there = (zero, omega arith, refl); is = is }
mapped-at f (x ∷ xs) y (suc k) below is =
    let rest = mapped-at f xs y k (omega arith) is in
    record {
      element = rest.element;
      there = (suc rest.there.0, omega (arith, rest.there.1), rest.there.2);
      is =
          rest.is;
    }

-- an alarm that the table has is reached
reached-from_table : (flow : Flow) (roots : List Root) (table : List Rows) → IsSolution flow roots table →
    (alarm : AlarmAt) → HasAlarm flow table alarm → ReachesAlarm flow roots (alarm_of alarm)
reached-from_table flow roots table solved alarm has =
    let p : ℕ = alarm.point.0 in
    let codes = (solved.exactly p has.from (state_code has.state)
    (alarm-there flow p has.state alarm.kind has.raised)).0 has.pair in
    let pair = codes.reached in
    let state_is : pair.configuration.state ≡ has.state = pair.state ∙ state_code-one codes.to has.state codes.to_is in
    let top_is : pair.configuration.top.point ≡ p = ap (λ (f : Frame). f.point) pair.top in
    record {
      configuration = pair.configuration;
      reached = pair.reached;
      there = top_is;
      forbidden = ap (λ q. alarm_in (kind_at flow q) pair.configuration.state) top_is ∙
          (ap (alarm_in (kind_at flow p)) state_is ∙ has.raised);
    }

-- an alarm that is reached stands in the table
table-from_reached : (flow : Flow) (roots : List Root) (table : List Rows) → IsSolution flow roots table →
    (alarm : PointAlarm) → ReachesAlarm flow roots alarm →
    HasAlarm flow table (record { point = record { 0 = alarm.point }; kind = alarm.kind })
table-from_reached flow roots table solved alarm r =
    let c : Configuration = r.configuration in
    let raised : alarm_in (kind_at flow alarm.point) c.state ≡ Some alarm.kind =
    ap (λ q. alarm_in (kind_at flow q) c.state) (sym r.there) ∙ r.forbidden in
    let top_is : c.top ≡ record { point = alarm.point; entered = c.top.entered } =
    ap (λ q. let frame : Frame = record { point = q; entered = c.top.entered } in frame) r.there in
    let codes : ReachesCodes flow roots alarm.point (state_code c.top.entered) (state_code c.state) = record {
      from = c.top.entered;
      to = c.state;
      from_is = refl;
      to_is = refl;
      reached = record { configuration = c; reached = r.reached; top = top_is; state = refl };
    } in
    record {
      from = state_code c.top.entered;
      state = c.state;
      pair = (solved.exactly alarm.point (state_code c.top.entered) (state_code c.state)
          (alarm-there flow alarm.point c.state alarm.kind raised)).1 codes;
      raised = raised;
    }

pub AreAlarms-from_solution : (flow : Flow) (roots : List Root) (table : List Rows) (found answer : List AlarmAt) →
    AreFound flow table found → IsInOrder flow found answer → IsSolution flow roots table →
    AreAlarms flow roots (alarms_of answer)
AreAlarms-from_solution flow roots table found answer are in_order solved = record {
  ordered = AllPairs-map alarm_of (λ a b. alarm_cmp flow a b ≡ Less) answer in_order.ordered;
  exactly = λ alarm. (
    λ h.
        let m = mapped-at alarm_of answer alarm h.0 h.1 h.2 in
        subst (ReachesAlarm flow roots) m.is
        (reached-from_table flow roots table solved m.element
        (are.only m.element ((in_order.same m.element).0 m.there))),
    λ r.
        let at : AlarmAt = record { point = record { 0 = alarm.point }; kind = alarm.kind } in
        Contains-map alarm_of answer at
        ((in_order.same at).1 (are.all at (table-from_reached flow roots table solved alarm r))),
  );
}
