-- Which calls on memory fail by their number.
use Rattle.std.specs.Prelude.{ℕ, ◌+◌, ◌<◌, List, Contains}
use Rattle.ck_io.specs.Environment.{last_count}

-- after this many calls the next one fails by its number: the numbers to fail have it, and the count of calls isn't at
-- its last value yet
abbrev pub FailsNext : List ℕ → ℕ → Type 0
FailsNext fail calls = (calls < last_count) × Contains fail (calls + 1)
