-- What `clap` finds in words that are a command.
use Rattle.std.specs.Prelude.{◌≡◌, ◌<◌, ◌^◌, ⊤, ℕ, List, Option, Some, None, codes}
use Rattle.std.specs.Fmt.{decimal}
use Rattle.clap.specs.Words.{first_value}
use Rattle.clap.specs.declared.parser.matches.Found.{Found}
use Rattle.ck_words.specs.declared.commands.Command.{Command}
use Rattle.ck_words.specs.declared.commands.Command.TheVariants.{Check, Bench, Upgrade}
use Rattle.ck_words.specs.Commands.{Words, IsCommand}

abbrev pub mode_text : Command → List ℕ
mode_text Check = codes "check"
mode_text (Bench number) = codes "bench"
mode_text Upgrade = codes "upgrade"

abbrev pub number_text : Command → Option (List ℕ)
number_text (Bench number) = Some (decimal number)
number_text _ = None

-- the number, where there is one, fits 32 bits
abbrev pub FitsWord : Command → Type 0
FitsWord (Bench number) = number < 2 ^ 32
FitsWord _ = ⊤

-- the mode and the number are the command's
abbrev pub IsNamed : List ℕ → Option (List ℕ) → Command → Type 0
IsNamed mode number command = (mode ≡ mode_text command) × (number ≡ number_text command) × FitsWord command

-- whichever command the words are, its mode and its number were found
abbrev pub AreMatches : Words → Found → Type 0
AreMatches words found = (command : Command) → IsCommand words command
    → (first_value found (codes "mode") ≡ Some (mode_text command))
    × (first_value found (codes "number") ≡ number_text command)
