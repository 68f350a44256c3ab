-- Which words are which command (docs/COMMANDS.md, "The words"). The first word is the program's name and isn't
-- looked at. The others are spelled as here, and no other words are a command.
use Rattle.std.specs.Prelude.{◌≡◌, ◌≤◌, ◌⊎◌, ℕ, List, [], ◌∷◌, ◌++◌, codes}
use Rattle.std.specs.Fmt.{decimal}
use Rattle.ck_words.specs.declared.commands.Command.{Command}
use Rattle.ck_words.specs.declared.commands.Command.TheVariants.{Check, Bench, Upgrade}

abbrev pub Words : Type 0
Words = List (List ℕ)

-- the greatest number of a benchmark
abbrev pub most_number : ℕ
most_number = 8000

-- the mode and the option with the number in decimal digits, in either order; the option is two words or one
abbrev pub IsBench : Words → ℕ → Type 0
IsBench words number =
    let digits = decimal number in
    (1 ≤ number) × (number ≤ most_number) × (
    (words ≡ codes "bench" ∷ codes "--number" ∷ digits ∷ [])
    ⊎ (words ≡ codes "--number" ∷ digits ∷ codes "bench" ∷ [])
    ⊎ (words ≡ codes "bench" ∷ (codes "--number=" ++ digits) ∷ [])
    ⊎ (words ≡ (codes "--number=" ++ digits) ∷ codes "bench" ∷ []))

-- the words after the program's name spell the command
abbrev pub IsSpelled : Words → Command → Type 0
IsSpelled words Check = words ≡ codes "check" ∷ []
IsSpelled words Upgrade = words ≡ codes "upgrade" ∷ []
IsSpelled words (Bench number) = IsBench words number

-- the words, from the program's name on, are the command
abbrev pub IsCommand : Words → Command → Type 0
IsCommand [] command = ⊥
IsCommand (name ∷ words) command = IsSpelled words command

-- the words are no command
abbrev pub HasNoCommand : Words → Type 0
HasNoCommand words = (command : Command) → IsCommand words command → ⊥

-- no words are two commands
abbrev pub HaveOneCommand : Type 0
HaveOneCommand = (words : Words) (c d : Command) → IsCommand words c → IsCommand words d → c ≡ d
