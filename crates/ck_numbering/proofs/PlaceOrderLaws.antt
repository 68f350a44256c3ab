-- The order of places: it is total, ties are equal places, and what is less comes before.
use Rattle.std.proofs.Common.{◌≡◌, inl, inr, refl, sym, ◌∙◌, ap, subst, arith}
use Rattle.std.specs.Prelude.{◌<◌, ℕ, List, [], ◌∷◌, ◌⊎◌}
use Rattle.std.specs.Cmp.{IsTotalOrder}
use Rattle.std.specs.Cmp.Lexicographic.{slice_cmp}
use Rattle.std.specs.Ordering.{nat_cmp, ordering_then}
use Rattle.std.specs.declared.cmp.Ordering.{Ordering}
use Rattle.std.specs.declared.cmp.Ordering.TheVariants.{Less, Equal, Greater}
use Rattle.std.proofs.lemmas.Cmp.{nat_cmp_total, nat_list_cmp_total, on_total, then_total, ranked}
use Rattle.ck_graph.specs.Flow as graph
use Rattle.ck_points.specs.Graphs.{IsAt, ComesBefore, ByPath, ByOrders, BySide}
use Rattle.ck_points.specs.Places.{Place, place, Side, side_number, Split, Before, Enter, Test, Leave, After}
use Rattle.ck_prog.specs.PathOrder.{IsBefore, Whole, Smaller, Deeper}
use Rattle.ck_numbering.specs.PlaceOrder.{place_cmp}

pub place_cmp_total : IsTotalOrder place_cmp
unfolding place_cmp
place_cmp_total =
    then_total (on_total (λ (p : Place). p.path) nat_list_cmp_total)
    (then_total (on_total (λ (p : Place). p.orders) nat_list_cmp_total)
    (on_total (λ (p : Place). side_number p.side) nat_cmp_total))

-- parts --------------------------------------------------------------------------------------------------------------

then_Equal : (o p : Ordering) → ordering_then o p ≡ Equal → (o ≡ Equal) × (p ≡ Equal)
then_Equal Less p e = absurd (cc)
then_Equal Equal p e = (refl, e)
then_Equal Greater p e = absurd (cc)

-- the first is less, or the second where the first are equal
then_Less : (o p : Ordering) → ordering_then o p ≡ Less → (o ≡ Less) ⊎ ((o ≡ Equal) × (p ≡ Less))
then_Less Less p e = inl refl
then_Less Equal p e = inr (refl, e)
then_Less Greater p e = absurd (cc)

nat_cmp-Equal : (x y : ℕ) → nat_cmp x y ≡ Equal → x ≡ y
nat_cmp-Equal x y e = ranked x y Equal (sym e)

nat_cmp-Less : (x y : ℕ) → nat_cmp x y ≡ Less → x < y
nat_cmp-Less x y e = ranked x y Less (sym e)

slice_cmp-Equal : (xs ys : List ℕ) → slice_cmp nat_cmp xs ys ≡ Equal → xs ≡ ys
slice_cmp-Equal [] [] e = refl
slice_cmp-Equal [] (y ∷ ys) e = absurd (cc)
slice_cmp-Equal (x ∷ xs) [] e = absurd (cc)
slice_cmp-Equal (x ∷ xs) (y ∷ ys) e =
    let parts = then_Equal (nat_cmp x y) (slice_cmp nat_cmp xs ys) e in
    let head = nat_cmp-Equal x y parts.0 in
    let tail = slice_cmp-Equal xs ys parts.1 in cc

below_head : (x y : ℕ) (xs ys : List ℕ) → x ≡ y → IsBefore xs ys → IsBefore (x ∷ xs) (y ∷ ys)
below_head x y xs ys e before = subst (λ z. IsBefore (x ∷ xs) (z ∷ ys)) e (Deeper x xs ys before)

slice_cmp-Less : (xs ys : List ℕ) → slice_cmp nat_cmp xs ys ≡ Less → IsBefore xs ys
slice_cmp-Less [] [] e = absurd (cc)
slice_cmp-Less [] (y ∷ ys) e = Whole y ys
slice_cmp-Less (x ∷ xs) [] e = absurd (cc)
slice_cmp-Less (x ∷ xs) (y ∷ ys) e =
    elim (then_Less (nat_cmp x y) (slice_cmp nat_cmp xs ys) e) [
      | inl less ↦ Smaller x y xs ys (nat_cmp-Less x y less)
      | inr parts ↦ below_head x y xs ys (nat_cmp-Equal x y parts.0) (slice_cmp-Less xs ys parts.1)
    ]

same_side : (a b : Side) → side_number a ≡ side_number b → a ≡ b
same_side Split Split e = refl
same_side Before Before e = refl
same_side Enter Enter e = refl
same_side Test Test e = refl
same_side Leave Leave e = refl
same_side After After e = refl
same_side Split _ e = absurd (omega (arith, e))
same_side Before _ e = absurd (omega (arith, e))
same_side Enter _ e = absurd (omega (arith, e))
same_side Test _ e = absurd (omega (arith, e))
same_side Leave _ e = absurd (omega (arith, e))
same_side After _ e = absurd (omega (arith, e))

-- places -------------------------------------------------------------------------------------------------------------

pub place_cmp-Equal : (a b : Place) → place_cmp a b ≡ Equal → a ≡ b
unfolding place_cmp
place_cmp-Equal a b e =
    let first = then_Equal _ _ e in
    let second = then_Equal _ _ first.1 in
    let path = slice_cmp-Equal a.path b.path first.0 in
    let orders = slice_cmp-Equal a.orders b.orders second.0 in
    let side = same_side a.side b.side (nat_cmp-Equal _ _ second.1) in
    ap (λ π. place π a.orders a.side) path ∙ ap (λ o. place b.path o a.side) orders
    ∙ ap (λ s. place b.path b.orders s) side

by_orders_or_side : (i : ℕ) (p q : Place) (a b : graph.Point) → IsAt i p a → IsAt i q b → a.path ≡ b.path
    → (slice_cmp nat_cmp p.orders q.orders ≡ Less)
    ⊎ ((slice_cmp nat_cmp p.orders q.orders ≡ Equal)
    × (nat_cmp (side_number p.side) (side_number q.side) ≡ Less))
    → ComesBefore a b
by_orders_or_side i p q a b here there path (inl less) =
    let before = slice_cmp-Less p.orders q.orders less in
    ByOrders (here.function ∙ sym there.function) path (rw (here.orders, there.orders) before)
by_orders_or_side i p q a b here there path (inr parts) =
    let orders = slice_cmp-Equal p.orders q.orders parts.0 in
    let side = nat_cmp-Less _ _ parts.1 in
    BySide (here.function ∙ sym there.function) path (here.orders ∙ orders ∙ sym there.orders)
    (rw (here.side, there.side) side)

-- points at places of one function of which one is less
pub place_cmp-Less : (i : ℕ) (p q : Place) (a b : graph.Point) → IsAt i p a → IsAt i q b
    → place_cmp p q ≡ Less → ComesBefore a b
unfolding place_cmp
place_cmp-Less i p q a b here there e =
    elim (then_Less (slice_cmp nat_cmp p.path q.path)
    (ordering_then (slice_cmp nat_cmp p.orders q.orders) (nat_cmp (side_number p.side) (side_number q.side))) e) [
      | inl less ↦
          ByPath (here.function ∙ sym there.function)
          (rw (here.path, there.path) (slice_cmp-Less p.path q.path less))
      | inr parts ↦
          by_orders_or_side i p q a b here there
          (here.path ∙ slice_cmp-Equal p.path q.path parts.0 ∙ sym there.path) (then_Less _ _ parts.1)
    ]
