-- How memory keeps an environment: rows of declarations, each with its innermost scope, and rows of scopes, each with
-- the one around it.
use Rattle.std.specs.Prelude.{◌≡◌, ℕ, ◌<◌, ◌==◌, List, [], ◌∷◌, length, map, Option, Some, None, if◌then◌else◌}
use Rattle.ck_scopes.specs.Environments.{Declared, Environment}
use Rattle.ck_scopes.specs.Ordered.{IsOrdered, seen_in}
use Rattle.ck_scopes.specs.Seen.{Seen}
use Rattle.ck_scopes.specs.declared.scopes.Opened.{Opened}
use Rattle.ck_scopes.specs.declared.scopes.Row.{Row}

-- The scopes that are open in one, the innermost first, of scopes that have opened, the latest first. The number of a
-- scope is how many opened before it.
abbrev pub path : List Opened → Option ℕ → List ℕ
path [] scope = []
path (o ∷ os) None = []
path (o ∷ os) (Some k) = if k == length os then o.start ∷ path os o.outer else path os (Some k)

abbrev pub declared_of : List Opened → Row → Declared
declared_of os r = record { file = r.file; scope = path os r.scope; name = r.name.0; space = r.space }

-- the environment that rows stand for, the latest first
unfoldable pub environment_of : List Row → List Opened → ℕ → Option ℕ → Environment
environment_of rows os file scope =
    record { declared = map (declared_of os) rows; file = file; scope = path os scope }

-- a scope is one of so many that have opened, or none
abbrev pub HasOpened : ℕ → Option ℕ → Type 0
HasOpened n None = Unit {0}
HasOpened n (Some k) = k < n

-- each scope is in one that opened before it
abbrev pub AreOpened : List Opened → Type 0
AreOpened [] = Unit {0}
AreOpened (o ∷ os) = HasOpened (length os) o.outer × AreOpened os

-- each declaration is in one of so many scopes that have opened, or in none
abbrev pub AreIn : ℕ → List Row → Type 0
AreIn n [] = Unit {0}
AreIn n (r ∷ rows) = HasOpened n r.scope × AreIn n rows

-- each row names rows of scopes alone, and what is in sight is what the environment shows
pub record IsKept (rows : List Row) (os : List Opened) (file : ℕ) (scope : Option ℕ) (sight : List Seen) : Type 0 where
  pub opened : AreOpened os
  pub in_opened : AreIn (length os) rows
  pub innermost : HasOpened (length os) scope
  pub ordered : IsOrdered (environment_of rows os file scope)
  pub sight_is : sight ≡ seen_in (environment_of rows os file scope)
