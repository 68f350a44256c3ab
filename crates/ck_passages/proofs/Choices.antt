-- Choices between operands: what is drawn, step by step from the last part to the first.
use Rattle.std.proofs.Common.{◌≡◌, ℕ, Bool, true, false, List, [], ◌∷◌, length, get_or, sym, ap, subst}
use Rattle.std.proofs.Common.{◌∙◌, arith}
use Rattle.std.specs.Prelude.{if◌then◌else◌}
use Rattle.ck_drafts.specs.Drafts.{PlainEdge}
use Rattle.ck_graph.specs.declared.points.Label.TheVariants.{Order as OrderLabel}
use Rattle.ck_passages.specs.Drawing.{edge_to, with_copy}
use Rattle.ck_passages.specs.Points.{PlainPoint, Drawn}
use Rattle.ck_points.specs.Places.{Place}

-- `K` is what is said of the result, and `T` puts a test
module _ (K : Drawn → Type 0) (T : Place → Place → List PlainPoint → Drawn) where
  pub second-where_true : (f : Drawn → Drawn) (b : Bool) → b ≡ true →
      (met d1 d2 : Drawn) (entered meet : Place) →
      d1 ≡ met → d2 ≡ f d1 → entered ≡ d2.to → meet ≡ d1.to → K (T entered meet d2.points) →
      K (if b then T (f met).to met.to (f met).points else T met.to (f met).to (f met).points)
  second-where_true f true h met d1 d2 entered meet e1 e2 e3 e4 k =
      let same : d2 ≡ f met = e2 ∙ ap f e1 in
      let first : entered ≡ (f met).to = e3 ∙ ap (λ d. d.to) same in
      let last : meet ≡ met.to = e4 ∙ ap (λ d. d.to) e1 in
      subst (λ p. K (T p met.to (f met).points)) first
      (subst (λ p. K (T entered p (f met).points)) last (subst (λ d. K (T entered meet d.points)) same k))
  second-where_true f false h met d1 d2 entered meet e1 e2 e3 e4 k = absurd (cc)

  pub second-where_false : (f : Drawn → Drawn) (b : Bool) → b ≡ false →
      (met d1 d2 : Drawn) (entered meet : Place) →
      d1 ≡ met → d2 ≡ f d1 → entered ≡ d2.to → meet ≡ d1.to → K (T meet entered d2.points) →
      K (if b then T (f met).to met.to (f met).points else T met.to (f met).to (f met).points)
  second-where_false f false h met d1 d2 entered meet e1 e2 e3 e4 k =
      let same : d2 ≡ f met = e2 ∙ ap f e1 in
      let first : entered ≡ (f met).to = e3 ∙ ap (λ d. d.to) same in
      let last : meet ≡ met.to = e4 ∙ ap (λ d. d.to) e1 in
      subst (λ p. K (T met.to p (f met).points)) first
      (subst (λ p. K (T p entered (f met).points)) last (subst (λ d. K (T meet entered d.points)) same k))
  second-where_false f true h met d1 d2 entered meet e1 e2 e3 e4 k = absurd (cc)

  pub conditional-drawn : (g f2 f3 : Drawn → Drawn) (turn : Place → Drawn → Drawn) (met d1 d2 d3 d4 d5 : Drawn)
      (meet holds fails : Place) → d1 ≡ met → meet ≡ d1.to → d2 ≡ f3 d1 → fails ≡ d2.to → d3
      ≡ turn meet d2 →
      d4 ≡ f2 d3 → holds ≡ d4.to → d5 ≡ T holds fails d4.points → K (g d5) →
      K (g (T (f2 (turn met.to (f3 met))).to (f3 met).to (f2 (turn met.to (f3 met))).points))
  conditional-drawn g f2 f3 turn met d1 d2 d3 d4 d5 meet holds fails e1 e2 e3 e4 e5 e6 e7 e8 k =
      let failed : d2 ≡ f3 met = e3 ∙ ap f3 e1 in
      let there : meet ≡ met.to = e2 ∙ ap (λ d. d.to) e1 in
      let turned : d3 ≡ turn met.to (f3 met) = e5 ∙ ap (λ p. turn p d2) there ∙ ap (turn met.to) failed in
      let held : d4 ≡ f2 (turn met.to (f3 met)) = e6 ∙ ap f2 turned in
      let one : holds ≡ (f2 (turn met.to (f3 met))).to = e7 ∙ ap (λ d. d.to) held in
      let other : fails ≡ (f3 met).to = e4 ∙ ap (λ d. d.to) failed in
      let end =
      e8 ∙ ap (λ p. T p fails d4.points) one ∙ ap (λ p. T (f2 (turn met.to (f3 met))).to p d4.points) other
      ∙ ap (λ d. T (f2 (turn met.to (f3 met))).to (f3 met).to d.points) held in
      subst (λ d. K (g d)) end k

-- copies --------------------------------------------------------------------------------------------------------------

pub copy-made : (k : ℕ) (after before : List PlainEdge) (ps : List PlainPoint) (d D : Drawn) (to : Place) →
    after ≡ edge_to (OrderLabel k) to ∷ before → to ≡ d.to → d ≡ D →
    record { edges = after; points = d.points } ≡ with_copy k D (record { edges = before; points = ps })
copy-made k after before ps d D to e1 e2 e3 =
    ap (λ es. record { edges = es; points = d.points }) (e1 ∙ ap (λ p. edge_to (OrderLabel k) p ∷ before) e2)
    ∙ ap (λ x. record { edges = edge_to (OrderLabel k) x.to ∷ before; points = x.points }) e3

-- lists of two or three -----------------------------------------------------------------------------------------------

pub two_items : {X : Type 0} (xs : List X) (a b : X) → length xs ≡ 2 → a ≡ get_or xs 0 a → b
    ≡ get_or xs 1 b →
    xs ≡ a ∷ b ∷ []
two_items [] a b h p q = absurd (omega arith)
two_items (x ∷ []) a b h p q = absurd (omega arith)
two_items (x ∷ y ∷ []) a b h p q = ap (λ z. z ∷ y ∷ []) (sym p) ∙ ap (λ z. a ∷ z ∷ []) (sym q)
two_items (x ∷ y ∷ z ∷ xs) a b h p q = absurd (omega arith)

pub three_items : {X : Type 0} (xs : List X) (a b c : X) → length xs ≡ 3 → a ≡ get_or xs 0 a → b
    ≡ get_or xs 1 b →
    c ≡ get_or xs 2 c → xs ≡ a ∷ b ∷ c ∷ []
three_items [] a b c h p q r = absurd (omega arith)
three_items (x ∷ []) a b c h p q r = absurd (omega arith)
three_items (x ∷ y ∷ []) a b c h p q r = absurd (omega arith)
three_items (x ∷ y ∷ z ∷ []) a b c h p q r =
    ap (λ u. u ∷ y ∷ z ∷ []) (sym p) ∙ ap (λ u. a ∷ u ∷ z ∷ []) (sym q)
    ∙ ap (λ u. a ∷ b ∷ u ∷ []) (sym r)
three_items (x ∷ y ∷ z ∷ u ∷ xs) a b c h p q r = absurd (omega arith)
