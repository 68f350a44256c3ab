-- The call of an expression that has a path is the only one: calls ascend by their paths.
use Rattle.std.proofs.Common.{◌≡◌, ◌<◌, ℕ, Bool, true, false, List, [], ◌∷◌, ◌++◌, Some, cond}
use Rattle.std.proofs.Common.{refl, sym, ap, subst, ◌∙◌, arith}
use Rattle.std.proofs.lemmas.Slice.Eq.{bytes_eq-Decides}
use Rattle.std.specs.List.{find}
use Rattle.std.specs.Str.{bytes_eq}
use Rattle.ck_call_rows.specs.Walks.{AreAmong}
use Rattle.ck_call_rows.proofs.ExpressionsAscend.{expression_ascends}
use Rattle.ck_prog.specs.Calls.{CallSite, calls_in}
use Rattle.ck_prog.specs.PathOrder.{IsBefore, Whole, Smaller, Deeper, Each, Ascend}
use Rattle.ck_prog.specs.Paths.{Path}
use Rattle.ck_prog.specs.TypedTrees.{Typed}
use Rattle.ck_tables.specs.ProgramRows.{has_path}

-- paths ---------------------------------------------------------------------------------------------------------------

apart : (π ρ : Path) → IsBefore π ρ → ρ ≡ π → ⊥
apart π ρ (Whole k rest) e = cc
apart π ρ (Smaller j k r s less) e = let same : k ≡ j = cc in absurd (omega arith)
apart π ρ (Deeper k r s before) e = let same : s ≡ r = cc in apart r s before same

false_from : (b : Bool) → (b ≡ true → ⊥) → b ≡ false
false_from true h = absurd (h refl)
false_from false h = refl

same_path : (π : Path) → bytes_eq π π ≡ true
same_path π = (bytes_eq-Decides π π).1 refl

-- a path differs from those before it
later_path : (π ρ : Path) → IsBefore π ρ → bytes_eq ρ π ≡ false
later_path π ρ before = false_from (bytes_eq ρ π) (λ h. apart π ρ before ((bytes_eq-Decides ρ π).0 h))

-- calls ---------------------------------------------------------------------------------------------------------------

last_each : (P : CallSite → Type 0) (xs : List CallSite) (c : CallSite) (ys : List CallSite)
    → Each P (xs ++ (c ∷ ys)) → P c
last_each P [] c ys each = each.0
last_each P (x ∷ xs) c ys each = last_each P xs c ys each.1

found_after : (c : CallSite) (xs ys : List CallSite) → Ascend (xs ++ (c ∷ ys))
    → find (has_path c.path) (xs ++ (c ∷ ys)) ≡ Some c
found_after c [] ys up = ap (λ b. cond b (Some c) (find (has_path c.path) ys)) (same_path c.path)
found_after c (x ∷ xs) ys up =
    ap (λ b. cond b (Some x) (find (has_path c.path) (xs ++ (c ∷ ys))))
    (later_path x.path c.path (last_each (λ d. IsBefore x.path d.path) xs c ys up.0))
    ∙ found_after c xs ys up.1

pub found_among : (π : Path) (x : Typed) (c : CallSite) (cs : List CallSite) → AreAmong (c ∷ cs) (calls_in π x)
    → find (has_path c.path) (calls_in π x) ≡ Some c
found_among π x c cs among =
    subst (λ all. find (has_path c.path) all ≡ Some c) (sym among.are)
    (found_after c among.earlier (cs ++ among.later) (subst Ascend among.are (expression_ascends π x).ascend))
