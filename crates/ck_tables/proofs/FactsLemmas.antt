-- The facts of chains and of rows of suffixes are those of their ends.
use Rattle.std.proofs.Common.{◌≡◌, ℕ, suc, ◌-◌, List, [], ◌∷◌, length, refl, ap, subst, arith, ◌∙◌}
use Rattle.std.specs.Prelude.{Some, slice_get}
use Rattle.ck_prog.specs.TypedTrees as trees
use Rattle.ck_prog.specs.TypedTrees.{Typed, last_link, last_step}
use Rattle.ck_tables.specs.ExprFacts.{HasFacts, step_facts, OwnFacts, NamedFacts}
use Rattle.ck_tables.specs.ExprTable.{make, step_before, steps_of, links_of, tree_at, IsNode}
use Rattle.ck_tables.specs.Readings.{Readings, plain_facts}
use Rattle.ck_tables.specs.declared.exprs.ExprNode.{ExprNode}
use Rattle.ck_tables.specs.declared.exprs.Link.{Link}
use Rattle.ck_tables.specs.declared.exprs.Step.{Step}
use Rattle.ck_tables.specs.declared.exprs.Step.TheVariants as steps
use Rattle.ck_tables.specs.declared.facts.Facts.{Facts}

last-of : {X : Type 0} (x y : X) (xs : List X) (z : X) → slice_get (x ∷ (y ∷ xs)) (length (x ∷ (y ∷ xs)) - 1) ≡ Some z
    → slice_get (y ∷ xs) (length (y ∷ xs) - 1) ≡ Some z
last-of x y xs z h =
    let e : length (x ∷ (y ∷ xs)) - 1 ≡ suc (length (y ∷ xs) - 1) = omega arith in
    subst (λ k. slice_get (x ∷ (y ∷ xs)) k ≡ Some z) e h

one-of : {X : Type 0} (x z : X) → slice_get (x ∷ []) (length (x ∷ []) - 1) ≡ Some z → slice_get (x ∷ []) 0 ≡ Some z
one-of x z h =
    let e : length (x ∷ []) - 1 ≡ 0 = omega arith in
    subst (λ k. slice_get (x ∷ []) k ≡ Some z) e h

links-last : (w : Readings) (f : ℕ → Typed) (g : trees.Facts) (ls : List Link) (l : Link)
    → slice_get ls (length ls - 1) ≡ Some l → last_link g (links_of w f ls) ≡ plain_facts w l.facts
links-last w f g [] l h = grind arith
links-last w f g (m ∷ []) l h = let one = one-of m l h in grind (arith, one)
links-last w f g (m ∷ (k ∷ ls)) l h = links-last w f (plain_facts w m.facts) (k ∷ ls) l (last-of m k ls l h)

step-last : (w : Readings) (f : ℕ → Typed) (g : trees.Facts) (s : Step) (rest : trees.Steps)
    → last_step g (step_before w f s rest) ≡ last_step (plain_facts w (step_facts s)) rest
step-last w f g (steps.Index opening index facts) rest = refl
step-last w f g (steps.Call opening function arguments facts) rest = refl
step-last w f g (steps.Access is_dot name member facts) rest = refl
step-last w f g (steps.PostIncrement token operator facts) rest = refl

steps-last : (w : Readings) (f : ℕ → Typed) (g : trees.Facts) (ss : List Step) (s : Step)
    → slice_get ss (length ss - 1) ≡ Some s → last_step g (steps_of w f ss) ≡ plain_facts w (step_facts s)
steps-last w f g [] s h = grind arith
steps-last w f g (m ∷ []) s h =
    let one = one-of m s h in
    step-last w f g m trees.NoSteps ∙ grind (arith, one)
steps-last w f g (m ∷ (k ∷ ss)) s h =
    step-last w f g m (steps_of w f (k ∷ ss))
    ∙ steps-last w f (plain_facts w (step_facts m)) (k ∷ ss) s (last-of m k ss s h)

pub own_facts_of_postfix : (n : ExprNode) (primary : ℕ) (s : Step) (row : List Step)
    → ((w : Readings) (f : ℕ → Typed) → make w f n ≡ trees.Postfix (f primary) (steps_of w f row))
    → slice_get row (length row - 1) ≡ Some s → OwnFacts n (step_facts s)
own_facts_of_postfix n primary s row is h =
    record { are = λ w f. ap trees.facts (is w f) ∙ steps-last w f (trees.facts (f primary)) row s h }

pub own_facts_of_chain : (n : ExprNode) (first : ℕ) (l : Link) (links : List Link)
    → ((w : Readings) (f : ℕ → Typed) → make w f n ≡ trees.Chain (f first) (links_of w f links))
    → slice_get links (length links - 1) ≡ Some l → OwnFacts n l.facts
own_facts_of_chain n first l links is h =
    record { are = λ w f. ap trees.facts (is w f) ∙ links-last w f (trees.facts (f first)) links l h }

pub has_facts_own : (ns : List ExprNode) (i : ℕ) (n : ExprNode) (facts : Facts) → IsNode ns i n → OwnFacts n facts
    → HasFacts ns i facts
has_facts_own ns i n facts here own =
    record { are = λ w. ap trees.facts (here.tree w) ∙ own.are w (tree_at w ns) }

pub has_facts_named : (ns : List ExprNode) (i j : ℕ) (n : ExprNode) (facts : Facts) → IsNode ns i n
    → NamedFacts n j → HasFacts ns j facts → HasFacts ns i facts
has_facts_named ns i j n facts here named there =
    record { are = λ w. ap trees.facts (here.tree w) ∙ named.are w (tree_at w ns) ∙ there.are w }

pub ruleset telling = (has_facts_own, has_facts_named)
