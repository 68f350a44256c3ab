-- Two lists in a strict order that have the same elements are one.
use Rattle.std.proofs.Common.{◌≡◌, ℕ, zero, suc, ◌<◌, ◌⊎◌, ◌↔◌, List, [], ◌∷◌, Ordering, length, get_or, refl, sym, ap}
use Rattle.std.proofs.Common.{◌∙◌, subst, inl, inr, arith}
use Rattle.std.specs.declared.cmp.Ordering.TheVariants.{Less, Greater}
use Rattle.std.specs.Cmp.{IsTotalOrder}
use Rattle.std.specs.List.{AllPairs, Contains}
use Rattle.std.specs.Ordering.{ordering_reverse}
use Rattle.std.proofs.lemmas.Cmp.{nat_cmp_total, nat_list_cmp_total, on_total, then_total}
use Rattle.ck_graph.specs.Flow.{Flow, Point, point_at}
use Rattle.ck_graph.specs.Forbidden.{PointAlarm, offset_of, class_of, number_of, kind_cmp, place_cmp, alarm_cmp}
use Rattle.ck_graph.specs.Forbidden.{HaveOneAlarmList}

place_cmp_total : IsTotalOrder place_cmp
place_cmp_total =
    then_total (on_total (λ (p : Point). p.function.0) nat_cmp_total)
    (then_total (on_total (λ (p : Point). offset_of p.site) nat_cmp_total)
    (on_total (λ (p : Point). p.order) nat_list_cmp_total))

kind_cmp_total : IsTotalOrder kind_cmp
kind_cmp_total = then_total (on_total class_of nat_cmp_total) (on_total number_of nat_cmp_total)

alarm_cmp_total : (flow : Flow) → IsTotalOrder (alarm_cmp flow)
alarm_cmp_total flow =
    then_total (on_total (λ (a : PointAlarm). point_at flow a.point) place_cmp_total)
    (then_total (on_total (λ (a : PointAlarm). a.point) nat_cmp_total)
    (on_total (λ (a : PointAlarm). a.kind) kind_cmp_total))

-- nothing comes before what comes before it
not_both : {X : Type 0} (c : X → X → Ordering) → IsTotalOrder c → (x y : X) → c x y ≡ Less → c y x ≡ Less → ⊥
not_both c total x y first second =
    let turned : c x y ≡ ordering_reverse Less = total.antisymm x y ∙ ap ordering_reverse second in
    let same : Less ≡ Greater = sym first ∙ turned in
    cc

IsOrdered : {X : Type 0} → (X → X → Ordering) → List X → Type 0
IsOrdered c xs = AllPairs (λ x y. c x y ≡ Less) xs

later : {X : Type 0} (c : X → X → Ordering) (x : X) (xs : List X) (y : X) → IsOrdered c (x ∷ xs) → Contains xs y
    → c x y ≡ Less
unfolding IsOrdered
later c x xs y ordered there =
    subst (λ z. c x z ≡ Less) there.2 (ordered zero (suc there.0) y (omega arith) (omega (arith, there.1)))

ordered-tail : {X : Type 0} (c : X → X → Ordering) (x : X) (xs : List X) → IsOrdered c (x ∷ xs) → IsOrdered c xs
unfolding IsOrdered
ordered-tail c x xs ordered i j d below there = ordered (suc i) (suc j) d (omega arith) (omega arith)

at_cons : {X : Type 0} → (y : X) (ys : List X) (x : X) (k : ℕ) → k < length (y ∷ ys) → get_or (y ∷ ys) k x ≡ x
    → (y ≡ x) ⊎ Contains ys x
at_cons y ys x zero below is = inl is
at_cons y ys x (suc k) below is = inr (k, omega arith, is)

here-or-later : {X : Type 0} → (y : X) (ys : List X) (x : X) → Contains (y ∷ ys) x → (y ≡ x) ⊎ Contains ys x
here-or-later y ys x h = at_cons y ys x h.0 h.1 h.2

here : {X : Type 0} → (x : X) (xs : List X) → Contains (x ∷ xs) x
here x xs = (zero, omega arith, refl)

further : {X : Type 0} → (y : X) (xs : List X) (x : X) → Contains xs x → Contains (y ∷ xs) x
further y xs x h = (suc h.0, omega (arith, h.1), h.2)

-- what both lists have first is the same
same_first : {X : Type 0} (c : X → X → Ordering) → IsTotalOrder c → (x : X) (xs : List X) (y : X) (ys : List X)
    → IsOrdered c (x ∷ xs) → IsOrdered c (y ∷ ys) → Contains (y ∷ ys) x → Contains (x ∷ xs) y → x ≡ y
same_first c total x xs y ys first second x_there y_there = elim (here-or-later y ys x x_there) [
  | inl e ↦ sym e
  | inr x_later ↦ elim (here-or-later x xs y y_there) [
    | inl e ↦ e
    | inr y_later ↦ absurd (not_both c total x y (later c x xs y first y_later) (later c y ys x second x_later))
  ]
]

-- what one tail has, the other has
tail_in : {X : Type 0} (c : X → X → Ordering) → IsTotalOrder c → (x : X) (xs : List X) (y : X) (ys : List X) → x ≡ y
    → IsOrdered c (x ∷ xs) → (a : X) → Contains xs a → Contains (y ∷ ys) a → Contains ys a
tail_in c total x xs y ys same first a in_tail in_other = elim (here-or-later y ys a in_other) [
  | inl e ↦
      let less : c x x ≡ Less = later c x xs x first (subst (Contains xs) (sym e ∙ sym same) in_tail) in
      absurd (not_both c total x x less less)
  | inr there ↦ there
]

same_lists : {X : Type 0} (c : X → X → Ordering) → IsTotalOrder c → (xs ys : List X) → IsOrdered c xs → IsOrdered c ys
    → ((a : X) → Contains xs a ↔ Contains ys a) → xs ≡ ys
same_lists c total [] [] first second same = refl
same_lists c total [] (y ∷ ys) first second same = absurd (omega (arith, ((same y).1 (here y ys)).1))
same_lists c total (x ∷ xs) [] first second same = absurd (omega (arith, ((same x).0 (here x xs)).1))
same_lists c total (x ∷ xs) (y ∷ ys) first second same =
    let one : x ≡ y = same_first c total x xs y ys first second ((same x).0 (here x xs)) ((same y).1 (here y ys)) in
    let rest : xs ≡ ys = same_lists c total xs ys (ordered-tail c x xs first) (ordered-tail c y ys second)
    (λ a. (
      λ h. tail_in c total x xs y ys one first a h ((same a).0 (further x xs a h)),
      λ h. tail_in c total y ys x xs (sym one) second a h ((same a).1 (further y ys a h)),
    )) in
    ap (λ z. z ∷ xs) one ∙ ap (λ r. y ∷ r) rest

pub one-list : HaveOneAlarmList
unfolding IsOrdered
one-list flow roots xs ys first second =
    same_lists (alarm_cmp flow) (alarm_cmp_total flow) xs ys first.ordered second.ordered
    (λ a. (λ h. (second.exactly a).1 ((first.exactly a).0 h), λ h. (first.exactly a).1 ((second.exactly a).0 h)))
