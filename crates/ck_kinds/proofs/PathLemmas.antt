-- The order of paths by their steps.
use Rattle.std.proofs.Common.{◌≡◌, ℕ, suc, ◌<◌, [], ◌∷◌, ◌++◌, length, take, drop, refl, sym, ap, ◌∙◌, arith}
use Rattle.std.specs.Cmp.Lexicographic.{slice_cmp}
use Rattle.std.specs.Ordering.{nat_cmp, ordering_then}
use Rattle.std.specs.declared.cmp.Ordering.{Ordering}
use Rattle.std.specs.declared.cmp.Ordering.TheVariants.{Less, Equal, Greater}
use Rattle.std.proofs.lemmas.Bool.{lt-ltb, le-ltb, ne_eqb, cond-true, cond-false}
use Rattle.std.proofs.lemmas.Cmp.{nat_cmp_total, tied_itself}
use Rattle.ck_prog.specs.PathOrder.{IsBefore, Whole, Smaller, Deeper}
use Rattle.ck_prog.specs.Paths.{Path}

pub then_assoc : (a b c : Ordering) → ordering_then a (ordering_then b c) ≡ ordering_then (ordering_then a b) c
then_assoc Less b c = refl
then_assoc Equal b c = refl
then_assoc Greater b c = refl

pub nat_cmp-less : (x y : ℕ) → x < y → nat_cmp x y ≡ Less
nat_cmp-less x y less = cond-true _ _ _ (lt-ltb x y less)

pub nat_cmp-greater : (x y : ℕ) → y < x → nat_cmp x y ≡ Greater
nat_cmp-greater x y more =
    cond-false _ _ _ (le-ltb x y (omega arith)) ∙ cond-false _ _ _ (ne_eqb x y (λ same. omega arith))

pub nat_cmp-itself : (x : ℕ) → nat_cmp x x ≡ Equal
nat_cmp-itself x = tied_itself nat_cmp_total x

-- the empty path against another
pub slice_cmp-empty : (ρ : Path) → slice_cmp nat_cmp [] ρ ≡ nat_cmp 0 (length ρ)
slice_cmp-empty [] = refl
slice_cmp-empty (k ∷ ρ) = sym (nat_cmp-less 0 (suc (length ρ)) (omega arith))

-- a path that goes on, against another
pub slice_cmp-split : (π : Path) (s : ℕ) (ρ : Path)
    → ordering_then (slice_cmp nat_cmp π (take (length π) ρ)) (slice_cmp nat_cmp (s ∷ []) (drop (length π) ρ))
    ≡ slice_cmp nat_cmp (π ++ s ∷ []) ρ
slice_cmp-split [] s ρ = refl
slice_cmp-split (j ∷ π) s [] = refl
slice_cmp-split (j ∷ π) s (k ∷ ρ) =
    sym (then_assoc (nat_cmp j k) _ _) ∙ ap (ordering_then (nat_cmp j k)) (slice_cmp-split π s ρ)

-- a path that comes before another is less
pub slice_cmp-before : (π ρ : Path) → IsBefore π ρ → slice_cmp nat_cmp π ρ ≡ Less
slice_cmp-before π ρ (Whole k rest) = refl
slice_cmp-before π ρ (Smaller j k r s less) =
    ap (λ o. ordering_then o (slice_cmp nat_cmp r s)) (nat_cmp-less j k less)
slice_cmp-before π ρ (Deeper k r s before) =
    ap (λ o. ordering_then o (slice_cmp nat_cmp r s)) (nat_cmp-itself k) ∙ slice_cmp-before r s before

-- no path is less than the empty one
pub never_less : (π : Path) → slice_cmp nat_cmp π [] ≡ Less → ⊥
never_less [] e = cc
never_less (k ∷ π) e = cc
