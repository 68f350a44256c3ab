-- Lists of operands: how deep they are, and those that hold calls.
use Rattle.std.proofs.Common.{◌≡◌, ◌<◌, ◌≤◌, ◌+◌, ℕ, ℤ, pos, zero, suc, Bool, true, false}
use Rattle.std.proofs.Common.{List, [], ◌∷◌, ◌++◌, length, map, take, drop, get_or, not}
use Rattle.std.proofs.Common.{refl, sym, ap, subst, ◌∙◌, arith}
use Rattle.std.proofs.lemmas.List.{at_drop_more}
use Rattle.std.specs.Prelude.{if◌then◌else◌, max, nat_lt}
use Rattle.ck_passages.specs.Operands.{value, value_of, evaluation_of, argument_values, Fits, AllFit, depth, most_depth}
use Rattle.ck_passages.specs.Drawing.{draw}
use Rattle.ck_passages.specs.Operands.{draw_all, arranged_evaluation, IsPlaced}
use Rattle.ck_passages.specs.Points.{Drawn}
use Rattle.ck_passages.specs.declared.operands.Operand.{Operand}
use Rattle.ck_points.specs.Evaluations.{Evaluation, Value, Then, with_calls, next_in, arranged}
use Rattle.ck_tables.specs.ExprTable.{arguments_below}
use Rattle.ck_tables.specs.Program.{read}
use Rattle.ck_tables.specs.declared.exprs.ExprId.{ExprId}
use Rattle.ck_tables.specs.declared.program.Linked.{Linked}

-- rows of numbers -----------------------------------------------------------------------------------------------------

pub read-within : (xs : List ℤ) (i : ℕ) (d : ℤ) → i < length xs → read (pos 0) (λ v. v) xs i
    ≡ get_or xs i d
read-within [] i d h = absurd (omega arith)
read-within (x ∷ xs) zero d h = refl
read-within (x ∷ xs) (suc i) d h = read-within xs i d (omega arith)

pub read-past : (xs : List ℤ) (i : ℕ) → length xs ≤ i → read (pos 0) (λ v. v) xs i ≡ pos 0
read-past [] i h = refl
read-past (x ∷ xs) zero h = absurd (omega arith)
read-past (x ∷ xs) (suc i) h = read-past xs i (omega arith)

-- the next of a list --------------------------------------------------------------------------------------------------

pub drop-next : {X : Type 0} (xs : List X) (i : ℕ) (x : X) → i < length xs → x ≡ get_or xs i x →
    drop i xs ≡ x ∷ drop (i + 1) xs
drop-next xs i x h same = at_drop_more (λ ys. ys) xs i x h ∙ ap (λ y. y ∷ drop (i + 1) xs) (sym same)

pub drop-past : {X : Type 0} (xs : List X) (i : ℕ) → length xs ≤ i → drop i xs ≡ []
drop-past [] zero h = refl
drop-past [] (suc i) h = refl
drop-past (x ∷ xs) zero h = absurd (omega arith)
drop-past (x ∷ xs) (suc i) h = drop-past xs i (omega arith)

-- depth ---------------------------------------------------------------------------------------------------------------

pub most_depth-last : (os : List Operand) (o : Operand) → most_depth (os ++ (o ∷ []))
    ≡ max (most_depth os) (depth o)
most_depth-last [] o = omega arith
most_depth-last (p ∷ os) o = let h = most_depth-last os o in omega arith

-- fits ----------------------------------------------------------------------------------------------------------------

pub AllFit-last : (l : Linked) (os : List Operand) (o : Operand) → AllFit l os → Fits l o →
    AllFit l (os ++ (o ∷ []))
AllFit-last l [] o all fits = (fits, tt)
AllFit-last l (p ∷ os) o all fits = (all.0, AllFit-last l os o all.1 fits)

-- operands with calls -------------------------------------------------------------------------------------------------

counted-true : (b : Bool) (e : Evaluation) (es : List Evaluation) → b ≡ true → (if b then e ∷ es else es)
    ≡ e ∷ es
counted-true true e es h = refl
counted-true false e es h = absurd (cc)

counted-false : (b : Bool) (e : Evaluation) (es : List Evaluation) → b ≡ false → (if b then e ∷ es else es)
    ≡ es
counted-false false e es h = refl
counted-false true e es h = absurd (cc)

append-next : {X : Type 0} (xs : List X) (y : X) (zs : List X) → xs ++ (y ∷ zs) ≡ (xs ++ (y ∷ [])) ++ zs
append-next [] y zs = refl
append-next (x ∷ xs) y zs = ap (λ ys. x ∷ ys) (append-next xs y zs)

map-last : {X Y : Type 0} (f : X → Y) (xs : List X) (x : X) → map f (xs ++ (x ∷ [])) ≡ map f xs ++ (f x ∷ [])
map-last f [] x = refl
map-last f (y ∷ xs) x = ap (λ ys. f y ∷ ys) (map-last f xs x)

pub with_calls-next : (l : Linked) (found rest : List Operand) (o : Operand) (all : List Evaluation) →
    (value_of l o).facts.holds_call ≡ true →
    all ≡ map (evaluation_of l) found ++ with_calls (map (value_of l) (o ∷ rest)) →
    all ≡ map (evaluation_of l) (found ++ (o ∷ [])) ++ with_calls (map (value_of l) rest)
with_calls-next l found rest o all h is =
    is ∙ ap (λ es. map (evaluation_of l) found ++ es) (counted-true _ (evaluation_of l o) _ h)
    ∙ append-next (map (evaluation_of l) found) (evaluation_of l o) (with_calls (map (value_of l) rest))
    ∙ ap (λ es. es ++ with_calls (map (value_of l) rest)) (sym (map-last (evaluation_of l) found o))

pub with_calls-past : (l : Linked) (found rest : List Operand) (o : Operand) (all : List Evaluation) →
    (value_of l o).facts.holds_call ≡ false →
    all ≡ map (evaluation_of l) found ++ with_calls (map (value_of l) (o ∷ rest)) →
    all ≡ map (evaluation_of l) found ++ with_calls (map (value_of l) rest)
with_calls-past l found rest o all h is =
    is ∙ ap (λ es. map (evaluation_of l) found ++ es) (counted-false _ (evaluation_of l o) _ h)

-- arguments -----------------------------------------------------------------------------------------------------------

pub argument_values-next : (l : Linked) (π : List ℕ) (k : ℕ) (found : List Operand) (o : Operand) (x : ExprId)
    (xs : List ExprId) (all : List Value) →
    value_of l o ≡ value l (π ++ (k ∷ [])) x →
    all ≡ map (value_of l) found ++ argument_values l π k (x ∷ xs) →
    all ≡ map (value_of l) (found ++ (o ∷ [])) ++ argument_values l π (k + 1) xs
argument_values-next l π k found o x xs all same is =
    is ∙ ap (λ v. map (value_of l) found ++ (v ∷ argument_values l π (suc k) xs)) (sym same)
    ∙ append-next (map (value_of l) found) (value_of l o) (argument_values l π (suc k) xs)
    ∙ ap (λ vs. vs ++ argument_values l π (suc k) xs) (sym (map-last (value_of l) found o))
    ∙ ap (λ j. map (value_of l) (found ++ (o ∷ [])) ++ argument_values l π j xs) (omega arith)

pub arguments_below-next : (n : ℕ) (x : ExprId) (xs : List ExprId) → arguments_below n (x ∷ xs) ≡ true →
    (x.0 < n) × (arguments_below n xs ≡ true)
arguments_below-next n x xs h = (grind (arith, h), grind (arith, h))

-- orders --------------------------------------------------------------------------------------------------------------

draw_all-last : (orders : List ℕ) (es : List Evaluation) (e : Evaluation) (d : Drawn) →
    draw_all orders (es ++ (e ∷ [])) d ≡ draw_all orders es (draw orders e d)
draw_all-last orders [] e d = refl
draw_all-last orders (f ∷ es) e d = ap (draw orders f) (draw_all-last orders es e d)

pub draw_all-map_last : (l : Linked) (orders : List ℕ) (os : List Operand) (o : Operand) (d : Drawn) →
    draw_all orders (map (evaluation_of l) (os ++ (o ∷ []))) d
    ≡ draw_all orders (map (evaluation_of l) os) (draw orders (evaluation_of l o) d)
draw_all-map_last l orders os o d =
    ap (λ es. draw_all orders es d) (map-last (evaluation_of l) os o)
    ∙ draw_all-last orders (map (evaluation_of l) os) (evaluation_of l o) d

-- the places that were filled, and those that remain
pub record ArePlaced (l : Linked) (os order done rest later : List Operand) : Type 0 where
  pub draws :
      (orders : List ℕ) (d : Drawn) →
      draw orders (arranged_evaluation l os order) d
      ≡ draw_all orders (map (evaluation_of l) done) (draw orders (arranged_evaluation l rest later) d)

own_place : (b : Bool) (orders : List ℕ) (e : Evaluation) (vs : List Value) (es : List Evaluation) (d : Drawn) →
    b ≡ false →
    draw orders (if b then next_in es (arranged vs) else Then e (arranged vs es)) d
    ≡ draw orders e (draw orders (arranged vs es) d)
own_place false orders e vs es d h = refl
own_place true orders e vs es d h = absurd (cc)

order_place : (b : Bool) (orders : List ℕ) (f e : Evaluation) (vs : List Value) (es : List Evaluation) (d : Drawn) →
    b ≡ true →
    draw orders (if b then next_in (e ∷ es) (arranged vs) else Then f (arranged vs (e ∷ es))) d
    ≡ draw orders e (draw orders (arranged vs es) d)
order_place true orders f e vs es d h = refl
order_place false orders f e vs es d h = absurd (cc)

no_place : (b : Bool) (orders : List ℕ) (f : Evaluation) (vs : List Value) (d : Drawn) → b ≡ true →
    draw orders (if b then next_in [] (arranged vs) else Then f (arranged vs [])) d ≡ draw orders (arranged vs []) d
no_place true orders f vs d h = refl
no_place false orders f vs d h = absurd (cc)

pub placed-itself : (l : Linked) (os order done rest later : List Operand) (o : Operand) →
    ArePlaced l os order done (o ∷ rest) later → (value_of l o).facts.holds_call ≡ false →
    ArePlaced l os order (done ++ (o ∷ [])) rest later
placed-itself l os order done rest later o so h =
    record {
      draws = λ orders d.
          so.draws orders d
          ∙ ap (draw_all orders (map (evaluation_of l) done))
          (own_place (value_of l o).facts.holds_call orders (evaluation_of l o) (map (value_of l) rest)
          (map (evaluation_of l) later) d h)
          ∙ sym (draw_all-map_last l orders done o (draw orders (arranged_evaluation l rest later) d));
    }

pub placed-in_order : (l : Linked) (os order done rest later : List Operand) (o next : Operand) →
    ArePlaced l os order done (o ∷ rest) (next ∷ later) → (value_of l o).facts.holds_call ≡ true →
    ArePlaced l os order (done ++ (next ∷ [])) rest later
placed-in_order l os order done rest later o next so h =
    record {
      draws = λ orders d.
          so.draws orders d
          ∙ ap (draw_all orders (map (evaluation_of l) done))
          (order_place (value_of l o).facts.holds_call orders (evaluation_of l o) (evaluation_of l next)
          (map (value_of l) rest) (map (evaluation_of l) later) d h)
          ∙ sym (draw_all-map_last l orders done next (draw orders (arranged_evaluation l rest later) d));
    }

pub placed-nothing : (l : Linked) (os order done rest : List Operand) (o : Operand) →
    ArePlaced l os order done (o ∷ rest) [] → (value_of l o).facts.holds_call ≡ true →
    ArePlaced l os order done rest []
placed-nothing l os order done rest o so h =
    record {
      draws = λ orders d.
          so.draws orders d
          ∙ ap (draw_all orders (map (evaluation_of l) done))
          (no_place (value_of l o).facts.holds_call orders (evaluation_of l o) (map (value_of l) rest) d h);
    }

-- where all places are filled
pub placed-all : (l : Linked) (os order done rest later : List Operand) → rest ≡ [] →
    ArePlaced l os order done rest later → IsPlaced l os order done
placed-all l os order done rest later none so =
    record {
      draws = λ orders d.
          so.draws orders d
          ∙ ap (λ xs. draw_all orders (map (evaluation_of l) done)
          (draw orders (arranged_evaluation l xs later) d)) none;
    }

-- an operand of a list ------------------------------------------------------------------------------------------------

pub AllFit-get : (l : Linked) (os : List Operand) (i : ℕ) (o : Operand) → i < length os → o ≡ get_or os i o →
    AllFit l os → Fits l o
AllFit-get l [] i o h same all = absurd (omega arith)
AllFit-get l (p ∷ os) zero o h same all = subst (Fits l) (sym same) all.0
AllFit-get l (p ∷ os) (suc i) o h same all = AllFit-get l os i o (omega arith) same all.1

pub depth-get : (os : List Operand) (i : ℕ) (o : Operand) → i < length os → o ≡ get_or os i o →
    depth o ≤ most_depth os
depth-get [] i o h same = absurd (omega arith)
depth-get (p ∷ os) zero o h same = let e = ap depth same in omega arith
depth-get (p ∷ os) (suc i) o h same = let later = depth-get os i o (omega arith) same in omega arith

pub take-next : {X : Type 0} (xs : List X) (i : ℕ) (x : X) → i < length xs → x ≡ get_or xs i x →
    take (i + 1) xs ≡ take i xs ++ (x ∷ [])
take-next [] i x h same = absurd (omega arith)
take-next (y ∷ xs) zero x h same = ap (λ z. z ∷ []) (sym same)
take-next (y ∷ xs) (suc i) x h same =
    let e : suc i + 1 ≡ suc (i + 1) = omega arith in
    ap (λ j. take j (y ∷ xs)) e ∙ ap (λ zs. y ∷ zs) (take-next xs i x (omega arith) same)

pub not-true : (b : Bool) → not b ≡ true → b ≡ false
not-true false h = refl
not-true true h = absurd (cc)

pub not-false : (b : Bool) → not b ≡ false → b ≡ true
not-false true h = refl
not-false false h = absurd (cc)

pub length-map : {X Y : Type 0} (f : X → Y) (xs : List X) → length (map f xs) ≡ length xs
length-map f [] = refl
length-map f (x ∷ xs) = ap suc (length-map f xs)

-- tests of lengths ----------------------------------------------------------------------------------------------------

pub less_apart : (n k j : ℕ) → nat_lt n k ≡ true → k ≤ j → n ≡ j → ⊥
less_apart n k j h most same = let less : n < k = grind (arith, h) in omega arith

pub more_apart : (n k j : ℕ) → nat_lt n k ≡ false → j < k → n ≡ j → ⊥
more_apart n k j h less same = let most : k ≤ n = grind (arith, h) in omega arith
