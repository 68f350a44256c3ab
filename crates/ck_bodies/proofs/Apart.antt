-- What is drawn apart, and then put before what is drawn.
use Rattle.std.proofs.Common.{◌≡◌, ℕ, List, [], ◌∷◌, ◌++◌, refl, sym, ap, ◌∙◌, append-nil}
use Rattle.std.specs.Prelude.{Some, None}
use Rattle.ck_passages.specs.Drawing.{draw}
use Rattle.ck_passages.specs.Points.{PlainPoint, Drawn, without_deeds, added, before_drawn}
use Rattle.ck_passages.proofs.DrawnPassages.{draw-passage}
use Rattle.ck_points.specs.Evaluations.{Evaluation, evaluation}
use Rattle.ck_points.specs.Passages.{Passage, passage}
use Rattle.ck_points.specs.Places.{Place, Point, leads}
use Rattle.ck_points.specs.Statements.{decided}
use Rattle.ck_prog.specs.Paths.{Path}
use Rattle.ck_prog.specs.TypedTrees.{Typed}
use Rattle.ck_bodies.specs.DrawnStatements.{joined, alone, turned, decided_before, test_entry, step_entry}

assoc : (xs ys zs : List PlainPoint) → (xs ++ ys) ++ zs ≡ xs ++ (ys ++ zs)
assoc [] ys zs = refl
assoc (x ∷ xs) ys zs = ap (λ qs. x ∷ qs) (assoc xs ys zs)

added-front : (ps : List PlainPoint) (xs : List Point) → added ps xs ≡ ps ++ added [] xs
added-front ps [] = sym (append-nil ps)
added-front ps (x ∷ xs) =
    ap (λ qs. qs ++ (without_deeds x ∷ [])) (added-front ps xs) ∙ assoc ps (added [] xs) (without_deeds x ∷ [])

front : (p : Passage) (d : Drawn) → joined (before_drawn p []) d ≡ before_drawn p d.points
unfolding joined
front p d = ap (λ qs. record { to = p.enters.to; points = qs }) (sym (added-front d.points p.points))

pub alone-joined : (to : Place) (d : Drawn) → joined (alone to) d ≡ turned to d
unfolding joined alone turned
alone-joined to d = ap (λ qs. record { to = to; points = qs }) (append-nil d.points)

pub decided-joined : (π : Path) (x : Typed) (holds fails to : Place) (d : Drawn) →
    joined (decided_before π x holds fails (alone to)) d ≡ decided_before π x holds fails d
unfolding alone decided_before
decided-joined π x holds fails to d = front (decided π x (leads holds) (leads fails)) d

pub evaluated-joined : (e : Evaluation) (to : Place) (d : Drawn) →
    joined (draw [] e (alone to)) d ≡ draw [] e (turned to d)
unfolding alone turned
evaluated-joined e to d =
    ap (λ a. joined a d) (draw-passage [] e (leads to) []) ∙ front (passage [] e (leads to)) d
    ∙ sym (draw-passage [] e (leads to) d.points)

pub test_entry-none : (π : Path) (holds fails : Place) → (alone holds).to ≡ test_entry π None holds fails
unfolding alone turned test_entry
test_entry-none π holds fails = refl

pub test_entry-some : (π : Path) (x : Typed) (holds fails : Place) →
    (decided_before π x holds fails (alone holds)).to ≡ test_entry π (Some x) holds fails
unfolding test_entry
test_entry-some π x holds fails = refl

pub step_entry-none : (π : Path) (next : Place) → (alone next).to ≡ step_entry π None next
unfolding step_entry
step_entry-none π next = refl

pub step_entry-some : (π : Path) (x : Typed) (next : Place) →
    (draw [] (evaluation π x) (alone next)).to ≡ step_entry π (Some x) next
unfolding step_entry
step_entry-some π x next = refl

pub alone-points : (to : Place) → (alone to).points ≡ []
unfolding alone
alone-points to = refl
