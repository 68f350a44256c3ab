-- What holds of each environment that follows the first one: which scopes had opened before a declaration, and what is
-- in sight.
use Rattle.std.specs.Prelude.{◌≡◌, ℕ, ◌≤◌, ◌<◌, Bool, true, false, List, [], ◌∷◌, length, Option}
use Rattle.ck_prog.specs.Growing.{AreAtMost}
use Rattle.ck_scopes.specs.Environments.{Declared, Environment, is_open}
use Rattle.ck_scopes.specs.Seen.{Seen, see}
use Rattle.ck_scopes.specs.declared.spaces.Space.{Space}

-- each declaration is in scopes that had opened before it
abbrev pub AreScoped : List Declared → Type 0
AreScoped [] = Unit {0}
AreScoped (d ∷ ds) = AreAtMost (length ds) d.scope × AreScoped ds

-- those in sight from these scopes have numbers below this one
abbrev pub AreBefore : ℕ → ℕ → List ℕ → List Declared → Type 0
AreBefore n file scope [] = Unit {0}
AreBefore n file scope (d ∷ ds) = (is_open file scope d ≡ true → length ds < n) × AreBefore n file scope ds

-- for each open scope, those in sight from the scopes around it were declared before it opened
abbrev pub AreNested : ℕ → List ℕ → List Declared → Type 0
AreNested file [] ds = Unit {0}
AreNested file (n ∷ scope) ds = AreBefore n file scope ds × AreNested file scope ds

-- each declaration is of a file up to this one
abbrev pub AreUpTo : ℕ → List Declared → Type 0
AreUpTo file [] = Unit {0}
AreUpTo file (d ∷ ds) = (d.file ≤ file) × AreUpTo file ds

pub record IsOrdered (v : Environment) : Type 0 where
  pub scoped : AreScoped v.declared
  pub at_most : AreAtMost (length v.declared) v.scope
  pub nested : AreNested v.file v.scope v.declared
  pub files : AreUpTo v.file v.declared

-- how many declarations are before the innermost scope
abbrev pub start_of : List ℕ → ℕ
start_of [] = 0
start_of (n ∷ ns) = n

-- one more is shown, where a test holds
abbrev pub see_where : Bool → Option Space → ℕ → ℕ → List Seen → List Seen
see_where true space name number xs = see space name number xs
see_where false space name number xs = xs

-- what is in sight of these declarations from a file and its scopes
abbrev pub seen : ℕ → List ℕ → List Declared → List Seen
seen file scope [] = []
seen file scope (d ∷ ds) = see_where (is_open file scope d) d.space d.name (length ds) (seen file scope ds)

abbrev pub seen_in : Environment → List Seen
seen_in v = seen v.file v.scope v.declared
