-- Choices, which settle what the machine leaves open. An event brings a list of them.
use Rattle.std.specs.Prelude.{ℕ, ◌%◌, ◌==◌, Bool, List, [], ◌∷◌}

-- Choices are taken in order. After the last, each further choice is 0.
abbrev pub first : List ℕ → ℕ
first [] = 0
first (choice ∷ choices) = choice

abbrev pub later : List ℕ → List ℕ
later [] = []
later (choice ∷ choices) = choices

-- a choice among n things is the number modulo n; a choice between two is whether it is odd
abbrev pub odd : ℕ → Bool
odd choice = choice % 2 == 1
