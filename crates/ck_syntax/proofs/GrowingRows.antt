-- Rows that a loop pushes, as a parser's loop or a walk's lets them grow. A parser's invariant: what its reader gives
-- from the start is what was pushed so far before what the reader gives from here (`row_before-push`). A walk's
-- invariant: what was pushed so far, before what the rest of the source row stands for, is what the whole row stands
-- for (`row_step`, and `row_done` at the end).
use Rattle.std.proofs.Common.{◌≡◌, ℕ, suc, ◌+◌, ◌<◌, ◌≤◌, List, [], ◌∷◌, ◌++◌, length, drop, get_or, refl, ap, subst}
use Rattle.std.proofs.Common.{arith, sym, ◌∙◌, add-one}
use Rattle.std.proofs.Math.Seq.{drop-cons, drop-length}
use Rattle.ck_syntax.specs.Rows.{row_before}

pub row_before-append : {X Y : Type 0} (before : X → Y → Y) (xs ys : List X) (rest : Y)
    → row_before before (xs ++ ys) rest ≡ row_before before xs (row_before before ys rest)
row_before-append before [] ys rest = refl
row_before-append before (x ∷ xs) ys rest = ap (before x) (row_before-append before xs ys rest)

-- What a row stands for after a loop pushed an element: what it stood for before that element and the others.
pub row_before-push : {X Y : Type 0} (before : X → Y → Y) (xs : List X) (x : X) (rest : Y)
    → row_before before (xs ++ (x ∷ [])) rest ≡ row_before before xs (before x rest)
row_before-push before xs x rest = row_before-append before xs (x ∷ []) rest

-- A step of a walk's loop from a row `xs` to a row of its own. `source` puts an element of `xs` before others, and
-- `bare` turns what the source row stands for into what the target row stands for; `before` and `after` put a pushed
-- element before others, as it is read before and after this step's walk.
pub row_step : {X P T Q : Type 0} (source : X → P → P) (bare : P → Q) (before after : T → Q → Q) (none : P)
    {xs ys : List X} (old new : List T) (all : Q) (i : ℕ) (x : X) (t : T)
    → ys ≡ xs → i < length ys → x ≡ get_or ys i x → new ≡ old ++ t ∷ []
    → ((rest : Q) → row_before after old rest ≡ row_before before old rest)
    → ((rest : P) → after t (bare rest) ≡ bare (source x rest))
    → row_before before old (bare (row_before source (drop i xs) none)) ≡ all
    → row_before after new (bare (row_before source (drop (i + 1) xs) none)) ≡ all
row_step source bare before after none {xs} {ys} old new all i x t same in_range is pushed stays one so_far =
    ap (λ l. row_before after l (bare (row_before source (drop (i + 1) xs) none))) pushed
    ∙ row_before-push after old t (bare (row_before source (drop (i + 1) xs) none))
    ∙ ap (row_before after old) (one (row_before source (drop (i + 1) xs) none))
    ∙ ap (λ k. row_before after old (bare (source x (row_before source (drop k xs) none)))) (add-one i)
    ∙ ap (λ y. row_before after old (bare (source y (row_before source (drop (suc i) xs) none))))
    (is ∙ ap (λ l. get_or l i x) same)
    ∙ ap (λ l. row_before after old (bare (row_before source l none)))
    (sym (drop-cons xs i x (subst (λ l. i < length l) same in_range)))
    ∙ stays (bare (row_before source (drop i xs) none))
    ∙ so_far

-- the end of such a loop
pub row_done : {X P T Q : Type 0} (source : X → P → P) (bare : P → Q) (now : T → Q → Q) (none : P) (end : Q)
    {xs ys : List X} (row : List T) (all : Q) (i : ℕ) → bare none ≡ end
    → ys ≡ xs → i ≤ length ys → length ys ≤ i
    → row_before now row (bare (row_before source (drop i xs) none)) ≡ all
    → row_before now row end ≡ all
row_done source bare now none end {xs} {ys} row all i ends same most least so_far =
    let e : i ≡ length ys = omega arith in
    ap (row_before now row) (sym ends)
    ∙ ap (λ l. row_before now row (bare (row_before source l none))) (sym (drop-length xs))
    ∙ ap (λ k. row_before now row (bare (row_before source (drop k xs) none))) (sym (e ∙ ap length same))
    ∙ so_far
