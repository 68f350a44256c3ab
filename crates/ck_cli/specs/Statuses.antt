-- The exit statuses by number. docs/REPORT.md, "The statuses", has the same rows.
use Rattle.std.specs.Prelude.{◌≡◌, ◌≢◌, ◌≤◌, ◌⊎◌, ℕ}
use Rattle.ck_cli.specs.declared.statuses.Status.{Status}
use Rattle.ck_cli.specs.declared.statuses.Status.TheVariants.{Accepted, Rejected, Refused, Usage}
use Rattle.ck_cli.specs.declared.statuses.Status.TheVariants.{ReadFault, WriteFault, OutOfMemory}

-- the number of a status; 4 is kept for faults of the settings
abbrev pub code_of : Status → ℕ
code_of Accepted = 0
code_of Rejected = 1
code_of Refused = 2
code_of Usage = 3
code_of ReadFault = 5
code_of WriteFault = 6
code_of OutOfMemory = 7

-- the numbers of the statuses
abbrev pub IsStatus : ℕ → Type 0
IsStatus code = (code ≤ 7) × (code ≢ 4)

-- the statuses that come with a whole report
abbrev pub HasReport : ℕ → Type 0
HasReport code = (code ≡ code_of Accepted) ⊎ (code ≡ code_of Rejected) ⊎ (code ≡ code_of Refused)

-- the statuses at which nothing is written
abbrev pub IsSilent : ℕ → Type 0
IsSilent code = (code ≡ code_of Usage) ⊎ (code ≡ code_of ReadFault) ⊎ (code ≡ code_of OutOfMemory)
