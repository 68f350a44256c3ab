-- The order of paths, as lists of numbers: a path comes before those of its parts, and parts come in the order of their
-- steps. The evaluated calls of a function are listed in this order.
use Rattle.std.specs.Prelude.{ℕ, ◌<◌, List, [], ◌∷◌}
use Rattle.ck_prog.specs.Calls.{CallSite, calls_of_function}
use Rattle.ck_prog.specs.Paths.{Path}
use Rattle.ck_prog.specs.TypedBodies.{TypedFunction}

pub data IsBefore : Path → Path → Type 0 where
  Whole : (k : ℕ) (rest : Path) → IsBefore [] (k ∷ rest)
  Smaller : (j k : ℕ) (r s : Path) → j < k → IsBefore (j ∷ r) (k ∷ s)
  Deeper : (k : ℕ) (r s : Path) → IsBefore r s → IsBefore (k ∷ r) (k ∷ s)

-- each call of a list
abbrev pub Each : (CallSite → Type 0) → List CallSite → Type 0
Each P [] = Unit {0}
Each P (c ∷ cs) = P c × Each P cs

-- each path comes before all those after it
abbrev pub Ascend : List CallSite → Type 0
Ascend [] = Unit {0}
Ascend (c ∷ cs) = Each (λ d. IsBefore c.path d.path) cs × Ascend cs

abbrev pub CallsAscend : Type 0
CallsAscend = (f : TypedFunction) → Ascend (calls_of_function f)
