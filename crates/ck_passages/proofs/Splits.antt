-- Operands of which two or three hold calls: a copy for each of their orders.
use Rattle.std.proofs.Common.{◌≡◌, ℕ, List, [], ◌∷◌, ◌++◌, map, sym, ap, ◌∙◌}
use Rattle.ck_passages.specs.Drawing.{Copies, put_split, with_copy, draw}
use Rattle.ck_passages.specs.Points.{Drawn}
use Rattle.ck_points.specs.Places.{Place}
use Rattle.ck_points.specs.Evaluations.{Evaluation, Node, Value, with_calls, arranged, orders_of, any_of, unsequenced}

module _ (orders : List ℕ) (n : Node) (vs : List Value) (d : Drawn) where
  -- the copy in an order of this number, before others
  abbrev pub copied : ℕ → List Evaluation → Copies → Copies
  copied k es c =
      with_copy k (draw (orders ++ (k ∷ [])) (arranged vs es) (record { to = d.to; points = c.points })) c

  abbrev none : Copies
  none = record { edges = []; points = d.points }

  in_orders : (es : List Evaluation) → with_calls vs ≡ es →
      draw orders (any_of n (map (arranged vs) (orders_of es))) d ≡ draw orders (unsequenced n vs) d
  in_orders es is = ap (λ xs. draw orders (any_of n (map (arranged vs) (orders_of xs))) d) (sym is)

  pub split-two : (a b : Evaluation) (c1 c2 : Copies) → with_calls vs ≡ a ∷ b ∷ [] →
      c2 ≡ copied 2 (b ∷ a ∷ []) none → c1 ≡ copied 1 (a ∷ b ∷ []) c2 →
      put_split n.path orders n.first.span c1 ≡ draw orders (unsequenced n vs) d
  split-two a b c1 c2 is second first =
      ap (put_split n.path orders n.first.span) (first ∙ ap (copied 1 (a ∷ b ∷ [])) second)
      ∙ in_orders (a ∷ b ∷ []) is

  pub split-three : (a b c : Evaluation) (c1 c2 c3 c4 c5 c6 : Copies) → with_calls vs ≡ a ∷ b ∷ c ∷ [] →
      c6 ≡ copied 6 (c ∷ b ∷ a ∷ []) none → c5 ≡ copied 5 (c ∷ a ∷ b ∷ []) c6 → c4
      ≡ copied 4 (b ∷ c ∷ a ∷ []) c5 →
      c3 ≡ copied 3 (b ∷ a ∷ c ∷ []) c4 → c2 ≡ copied 2 (a ∷ c ∷ b ∷ []) c3 → c1
      ≡ copied 1 (a ∷ b ∷ c ∷ []) c2 →
      put_split n.path orders n.first.span c1 ≡ draw orders (unsequenced n vs) d
  split-three a b c c1 c2 c3 c4 c5 c6 is e6 e5 e4 e3 e2 e1 =
      ap (put_split n.path orders n.first.span)
      (e1 ∙ ap (copied 1 (a ∷ b ∷ c ∷ []))
      (e2 ∙ ap (copied 2 (a ∷ c ∷ b ∷ []))
      (e3 ∙ ap (copied 3 (b ∷ a ∷ c ∷ []))
      (e4 ∙ ap (copied 4 (b ∷ c ∷ a ∷ []))
      (e5 ∙ ap (copied 5 (c ∷ a ∷ b ∷ [])) e6)))))
      ∙ in_orders (a ∷ b ∷ c ∷ []) is

  -- where each copy leads to what comes after the operands
  pub copy-of : (k : ℕ) (es : List Evaluation) (before after : Copies) (to : Place) → to ≡ d.to →
      after ≡ with_copy k
      (draw (orders ++ (k ∷ [])) (arranged vs es) (record { to = to; points = before.points })) before →
      after ≡ copied k es before
  copy-of k es before after to same is =
      is
      ∙ ap (λ p. with_copy k
      (draw (orders ++ (k ∷ [])) (arranged vs es) (record { to = p; points = before.points })) before)
      same
