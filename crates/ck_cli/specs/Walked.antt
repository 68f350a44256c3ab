-- The verdict on a file of the form, by the walk from its first call on.
-- proofs/VerdictLemmas.antt joins it with Verdict.
use Rattle.std.specs.Prelude.{◌≡◌, ℕ, List, [], Option, Some, None}
use Rattle.ck_base.specs.declared.states.Kind.{Kind}
use Rattle.ck_base.specs.declared.states.State.TheVariants.{TI}
use Rattle.ck_cli.specs.declared.form.Call.{Call}
use Rattle.ck_cli.specs.declared.statuses.Status.{Status}
use Rattle.ck_cli.specs.declared.statuses.Status.TheVariants.{Accepted, Rejected}
use Rattle.ck_cli.specs.Placed.{IsAlarmText}
use Rattle.ck_cli.specs.Texts.{accepted_text}
use Rattle.ck_cli.specs.Walking.{walk}

-- by the first alarm of its walk, with the calls before it; the name `main` begins at an offset
abbrev pub answered_by : List ℕ → ℕ → Option (List Call × Call × Kind) → Status → List ℕ → Type 0
answered_by bytes main None status text = (status ≡ Accepted) × (text ≡ accepted_text)
answered_by bytes main (Some found) status text =
    (status ≡ Rejected) × IsAlarmText bytes main found.0 found.1 found.2 text

abbrev pub IsWalked : List ℕ → ℕ → List Call → Status → List ℕ → Type 0
IsWalked bytes main calls status text = answered_by bytes main (walk TI [] calls) status text
