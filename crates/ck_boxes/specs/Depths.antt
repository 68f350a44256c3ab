-- How deep a tree nests (ck_grammar's Nesting.antt), as it is kept beside the tree.
use Rattle.std.specs.Prelude.{◌≡◌, ℕ, min, max}

-- the greatest number that is kept
abbrev pub greatest : ℕ
greatest = 65535

-- a nesting as it is kept: what is greater is kept as the greatest
abbrev pub kept : ℕ → ℕ
kept n = min n greatest

-- Of elements that come before others, the deepest nests so deep. `before` puts them before the others, and `nests`
-- says how deep a row nests, which is as deep as its deepest element.
abbrev pub NestBefore : {P : Type 0} → (P → ℕ) → (P → P) → ℕ → Type 0
NestBefore nests before depth = (rest : _) → kept (nests (before rest)) ≡ max depth (kept (nests rest))
