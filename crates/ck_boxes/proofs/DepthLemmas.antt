-- How deep trees and rows nest, from how deep their parts do, all as it is kept.
use Rattle.std.proofs.Common.{◌≡◌, ℕ, suc, min, max, List, [], ◌∷◌, ◌++◌, ◌<◌, ◌^◌, ap, sym, refl, ◌∙◌, arith}
use Rattle.std.proofs.lemmas.Bool.Decides.{nat_tests}
use Rattle.std.specs.Prelude.{Bool, true, false, nat_le, if◌then◌else◌, Option, Some, None, Result, Ok, Err, OnOk}
use Rattle.ck_base.specs.declared.tokens.Token.{Token}
use Rattle.ck_boxes.specs.Depths.{kept, NestBefore}
use Rattle.ck_grammar.specs.Fitting.{is_written}
use Rattle.ck_grammar.specs.Nesting.{abstract_nesting, more_params_nesting}
use Rattle.ck_grammar.specs.Trees as plain
use Rattle.ck_grammar.specs.Trees.{Dims, NoDims, Open, Sized, Function}
use Rattle.ck_syntax.specs.ExpressionViews.{ellipsis_tree}
use Rattle.ck_syntax.specs.Rows.{row_before}
use Rattle.ck_syntax.specs.declared.declarators.Ellipsis.{Ellipsis}
use Rattle.ck_syntax.proofs.GrowingRows.{row_before-push}

pub kept-max : (m n : ℕ) → kept (max m n) ≡ max (kept m) (kept n)
kept-max m n = omega arith

pub kept-suc : (n : ℕ) → kept (suc (kept n)) ≡ kept (suc n)
kept-suc n = omega arith

-- a tree with one part inside
pub around_one : (whole part d depth : ℕ) → whole ≡ suc part → d ≡ kept part → depth ≡ kept (suc d)
    → depth ≡ kept whole
around_one whole part d depth is kept_part made = omega arith

-- the deeper of two parts
pub both : (a b d e depth : ℕ) → d ≡ kept a → e ≡ kept b → depth ≡ max d e → depth ≡ kept (max a b)
both a b d e depth first second made = made ∙ ap (λ n. max n e) first ∙ ap (max (kept a)) second ∙ sym (kept-max a b)

-- the depth of a row with nothing after it
pub alone : {P : Type 0} (nests : P → ℕ) (before : P → P) (none : P) (depth : ℕ) → nests none ≡ 0
    → NestBefore nests before depth → depth ≡ kept (nests (before none))
alone nests before none depth empty row =
    let e : kept (nests (before none)) ≡ max depth (kept (nests none)) = row none in
    let k : kept (nests none) ≡ 0 = ap kept empty in
    omega arith

-- a row without elements
pub nothing_before : {P : Type 0} (nests : P → ℕ) (before : P → P) → ((rest : P) → before rest ≡ rest)
    → NestBefore nests before 0
nothing_before nests before same rest =
    let e : kept (nests (before rest)) ≡ kept (nests rest) = ap (λ r. kept (nests r)) (same rest) in
    omega arith

-- one element that nests so deep before others
pub element : {P : Type 0} (nests : P → ℕ) (before : P → P) (part depth : ℕ) → depth ≡ kept part
    → ((rest : P) → nests (before rest) ≡ max part (nests rest)) → NestBefore nests before depth
element nests before part depth is one rest =
    ap kept (one rest) ∙ kept-max part (nests rest) ∙ ap (λ n. max n (kept (nests rest))) (sym is)

-- one element in which nothing nests before others
pub leaf : {P : Type 0} (nests : P → ℕ) (before : P → P) → ((rest : P) → nests (before rest) ≡ nests rest)
    → NestBefore nests before 0
leaf nests before one rest =
    let e : kept (nests (before rest)) ≡ kept (nests rest) = ap kept (one rest) in
    omega arith

-- a row after an element was pushed
pub pushed : {X P : Type 0} (nests : P → ℕ) (before : X → P → P) (old new : List X) (x : X) (row depth all : ℕ)
    → new ≡ old ++ (x ∷ []) → NestBefore nests (row_before before old) row → NestBefore nests (before x) depth
    → all ≡ max row depth → NestBefore nests (row_before before new) all
pushed nests before old new x row depth all is so_far one made rest =
    let e : kept (nests (row_before before new rest)) ≡ kept (nests (row_before before old (before x rest))) =
    ap (λ l. kept (nests (row_before before l rest))) is
    ∙ ap (λ r. kept (nests r)) (row_before-push before old x rest) in
    let f : kept (nests (row_before before old (before x rest))) ≡ max row (kept (nests (before x rest))) =
    so_far (before x rest) in
    let g : kept (nests (before x rest)) ≡ max depth (kept (nests rest)) = one rest in
    omega arith

-- an abstract declarator, by whether something of it is written
pub abstract_nesting-is : (stars : List Token) (ds : Dims) (n : ℕ)
    → abstract_nesting stars ds n ≡ (if is_written (plain.Abstract stars ds) then suc n else 0)
abstract_nesting-is [] NoDims n = refl
abstract_nesting-is [] (Open o c rest) n = refl
abstract_nesting-is [] (Sized o e c rest) n = refl
abstract_nesting-is [] (Function o p c rest) n = refl
abstract_nesting-is (t ∷ ts) ds n = refl

-- a nesting is compared with a depth of eight bits as it is kept
pub within-is : (n d depth : ℕ) → d ≡ kept n → depth < 2 ^ 8 → nat_le d depth ≡ nat_le n depth
within-is n d depth is fits = grind (arith, nat_tests)

-- an abstract declarator of which something is written
pub shown : (stars : List Token) (ds : Dims) (n d depth : ℕ) (written : Bool)
    → written ≡ is_written (plain.Abstract stars ds) → written ≡ true → d ≡ kept n → depth ≡ kept (suc d)
    → depth ≡ kept (abstract_nesting stars ds n)
shown stars ds n d depth written is there inner made =
    around_one (abstract_nesting stars ds n) n d depth
    (abstract_nesting-is stars ds n ∙ ap (λ b. if b then suc n else 0) (sym is ∙ there)) inner made

-- one of which nothing is written
pub hidden : (stars : List Token) (ds : Dims) (n : ℕ) (written : Bool) → written ≡ is_written (plain.Abstract stars ds)
    → written ≡ false → 0 ≡ kept (abstract_nesting stars ds n)
hidden stars ds n written is none =
    sym (ap kept (abstract_nesting-is stars ds n ∙ ap (λ b. if b then suc n else 0) (sym is ∙ none)))

-- what ends parameters doesn't nest
pub end-nesting : (e : Option Ellipsis) → more_params_nesting (ellipsis_tree e) ≡ 0
end-nesting None = refl
end-nesting (Some e) = refl

pub max-assoc : (a b c : ℕ) → max a (max b c) ≡ max (max a b) c
max-assoc a b c = omega arith

-- what a push says of the element that was made, it says of the element's plain tree
pub grown : {X E P : Type 0} (pushing : Result X E) (old new made whole : P → P)
    → ((rest : P) → made rest ≡ whole rest) → OnOk pushing ((rest : P) → new rest ≡ old (made rest))
    → OnOk pushing ((rest : P) → new rest ≡ old (whole rest))
grown (Ok x) old new made whole same h = λ rest. h rest ∙ ap old (same rest)
grown (Err e) old new made whole same h = tt
