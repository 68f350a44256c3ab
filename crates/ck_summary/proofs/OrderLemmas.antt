-- The order of alarms is a total one, and where it ties the alarms are the same.
use Rattle.std.proofs.Common.{◌≡◌, ℕ, ◌<◌, true, List, [], ◌∷◌, Ordering, refl, ap, arith}
use Rattle.std.specs.declared.cmp.Ordering.TheVariants.{Less, Equal, Greater}
use Rattle.std.specs.Cmp.{IsTotalOrder}
use Rattle.std.specs.List.{AllPairs, dedup}
use Rattle.std.specs.List.Sorted.{IsSorted, IsPermutation, IsStrictlySortedBy}
use Rattle.std.specs.Ordering.{nat_cmp, ordering_then, is_eq, eq_by_cmp, MatchOrdering}
use Rattle.std.proofs.lemmas.Cmp.{ranked, nat_cmp_total, nat_list_cmp_total, on_total, then_total, eq_by_cmp_equiv}
use Rattle.std.proofs.lemmas.List.Elements.{All-from_recursion}
use Rattle.std.proofs.lemmas.List.Kept.{AllPairs-cons, Contains-dedup, Contains-from_dedup, IsStrictlySortedBy-dedup}
use Rattle.std.proofs.lemmas.List.Sorted.{Contains-permutation, IsPermutation-sym}
use Rattle.ck_base.specs.declared.states.Kind.{Kind}
use Rattle.ck_base.specs.declared.states.Kind.TheVariants.{Sv, Order, P}
use Rattle.ck_graph.specs.Flow.{Flow, Point, point_at}
use Rattle.ck_graph.specs.Forbidden.{PointAlarm, offset_of, class_of, number_of, kind_cmp, place_cmp, alarm_cmp}
use Rattle.ck_summary.specs.declared.reached.AlarmAt.{AlarmAt}
use Rattle.ck_summary.specs.Alarms.{alarm_of, IsInOrder}
use Rattle.ck_summary.proofs.AlarmLemmas.{alarm-same}

place_cmp_total : IsTotalOrder place_cmp
place_cmp_total = then_total (on_total (λ (p : Point). p.function.0) nat_cmp_total)
    (then_total (on_total (λ (p : Point). offset_of p.site) nat_cmp_total)
    (on_total (λ (p : Point). p.order) nat_list_cmp_total))

kind_cmp_total : IsTotalOrder kind_cmp
kind_cmp_total = then_total (on_total class_of nat_cmp_total) (on_total number_of nat_cmp_total)

alarm_cmp_total : (flow : Flow) → IsTotalOrder (alarm_cmp flow)
alarm_cmp_total flow =
    then_total (on_total (λ (a : PointAlarm). point_at flow a.point) place_cmp_total)
    (then_total (on_total (λ (a : PointAlarm). a.point) nat_cmp_total)
    (on_total (λ (a : PointAlarm). a.kind) kind_cmp_total))

-- the order on alarms as they are answered
abbrev pub order_of : Flow → AlarmAt → AlarmAt → Ordering
order_of flow a b = alarm_cmp flow (alarm_of a) (alarm_of b)

pub order_total : (flow : Flow) → IsTotalOrder (order_of flow)
order_total flow = on_total alarm_of (alarm_cmp_total flow)

both_equal : (a b : Ordering) → ordering_then a b ≡ Equal → (a ≡ Equal) × (b ≡ Equal)
both_equal Less b e = absurd (cc)
both_equal Equal b e = (refl, e)
both_equal Greater b e = absurd (cc)

from_match : (o : Ordering) (m n : ℕ) → MatchOrdering o (m < n) (m ≡ n) (n < m) → o ≡ Equal → m ≡ n
from_match Less m n h e = absurd (cc)
from_match Equal m n h e = h
from_match Greater m n h e = absurd (cc)

nat_cmp-equal : (m n : ℕ) → nat_cmp m n ≡ Equal → m ≡ n
nat_cmp-equal m n e = from_match (nat_cmp m n) m n (ranked m n (nat_cmp m n) refl) e

kind-same : (a b : Kind) → class_of a ≡ class_of b → number_of a ≡ number_of b → a ≡ b
kind-same (Sv m) (Sv n) c e = ap Sv e
kind-same (Sv m) Order c e = absurd (omega (arith, c))
kind-same (Sv m) (P n) c e = absurd (omega (arith, c))
kind-same Order (Sv n) c e = absurd (omega (arith, c))
kind-same Order Order c e = refl
kind-same Order (P n) c e = absurd (omega (arith, c))
kind-same (P m) (Sv n) c e = absurd (omega (arith, c))
kind-same (P m) Order c e = absurd (omega (arith, c))
kind-same (P m) (P n) c e = ap P e

order-equal : (flow : Flow) (a b : AlarmAt) → order_of flow a b ≡ Equal → a ≡ b
order-equal flow a b e =
    let outer = both_equal (place_cmp (point_at flow a.point.0) (point_at flow b.point.0))
    (ordering_then (nat_cmp a.point.0 b.point.0) (kind_cmp a.kind b.kind)) e in
    let inner = both_equal (nat_cmp a.point.0 b.point.0) (kind_cmp a.kind b.kind) outer.1 in
    let kinds = both_equal (nat_cmp (class_of a.kind) (class_of b.kind)) (nat_cmp (number_of a.kind) (number_of b.kind))
    inner.1 in
    alarm-same a b (nat_cmp-equal a.point.0 b.point.0 inner.0)
    (kind-same a.kind b.kind (nat_cmp-equal (class_of a.kind) (class_of b.kind) kinds.0)
    (nat_cmp-equal (number_of a.kind) (number_of b.kind) kinds.1))

is_eq-equal : (o : Ordering) → is_eq o ≡ true → o ≡ Equal
is_eq-equal Less e = absurd (cc)
is_eq-equal Equal e = refl
is_eq-equal Greater e = absurd (cc)

AllPairs-from_strict : {X : Type 0} (c : X → X → Ordering) (xs : List X) → IsStrictlySortedBy c xs →
    AllPairs (λ x y. c x y ≡ Less) xs
unfolding IsStrictlySortedBy
AllPairs-from_strict c [] h = λ i j d below there. absurd (omega (arith, there))
AllPairs-from_strict c (x ∷ xs) h =
    AllPairs-cons (λ x y. c x y ≡ Less) x xs (All-from_recursion (λ y. c x y ≡ Less) xs h.0)
    (AllPairs-from_strict c xs h.1)

-- sorted, and each once
pub IsInOrder-from_dedup : (flow : Flow) (old sorted new : List AlarmAt) → IsPermutation old sorted →
    IsSorted (order_of flow) sorted → new ≡ dedup (eq_by_cmp (order_of flow)) sorted → IsInOrder flow old new
IsInOrder-from_dedup flow old sorted new permuted in_order is =
    let once : List AlarmAt = dedup (eq_by_cmp (order_of flow)) sorted in
    let strict = IsStrictlySortedBy-dedup (order_total flow) (λ x y. refl) sorted in_order in
    record {
      ordered = rw is (AllPairs-from_strict (order_of flow) once strict);
      same = λ a. (
        λ h. Contains-permutation sorted old a (IsPermutation-sym old sorted permuted)
            (Contains-from_dedup (eq_by_cmp (order_of flow)) sorted a (rw is at h)),
        λ h. rw is (Contains-dedup (eq_by_cmp_equiv (order_total flow))
            (λ x y e. order-equal flow x y (is_eq-equal (order_of flow x y) e)) sorted a
            (Contains-permutation old sorted a permuted h)),
      );
    }
