-- The texts of the report. docs/REPORT.md has them with examples.
use Rattle.std.specs.Prelude.{ℕ, List, [], ◌∷◌, ◌++◌, codes}
use Rattle.std.specs.List.{flat_map}
use Rattle.std.specs.Fmt.{decimal}
use Rattle.ck_base.specs.declared.states.Kind.{Kind}
use Rattle.ck_base.specs.declared.states.Kind.TheVariants.{Sv, Order, P}
use Rattle.ck_base.specs.declared.refusals.Unsupported.{Unsupported}
use Rattle.ck_base.specs.Refusals.{refusal_number, refusal_words}
use Rattle.ck_lexer.specs.Places.{Place}
use Rattle.ck_cli.specs.declared.calls.KernelCall.{KernelCall}
use Rattle.ck_cli.specs.Calls.{name_of}

-- a call, and the place at which it begins
pub record PlacedCall : Type 0 where
  pub call : KernelCall
  pub place : Place

abbrev pub line : List ℕ → List ℕ
line text = text ++ 10 ∷ []

-- every text begins with this line
abbrev pub first_line : List ℕ
first_line = line (codes "rtcheck 1")

abbrev pub accepted_text : List ℕ
accepted_text = first_line ++ (line (codes "accepted") ++ line (codes "files 1 functions 1 entries 1"))

-- name:line:column
abbrev pub place_text : Place → List ℕ
place_text place = place.name ++ (codes ":" ++ (decimal place.line ++ (codes ":" ++ decimal place.column)))

-- `place` is what is printed for the refusal's place
abbrev pub unsupported_text : Unsupported → List ℕ → List ℕ
unsupported_text kind place =
    first_line ++ line (codes "unsupported U" ++ (decimal (refusal_number kind) ++
    (codes " " ++ (place ++ (codes " " ++ refusal_words kind)))))

-- the end of a line that has a place and a name
abbrev pub at_place : Place → List ℕ → List ℕ
at_place place name = line (codes " " ++ (place_text place ++ (codes " " ++ name)))

abbrev pub kind_text : Kind → List ℕ
kind_text (Sv number) = codes "SV#" ++ decimal number
kind_text Order = codes "ORDER"
kind_text (P number) = codes "P#" ++ decimal number

abbrev pub act_line : PlacedCall → List ℕ
act_line c = codes "  act" ++ at_place c.place (name_of c.call)

-- the alarm, which is the first and only one
abbrev pub alarm_line : PlacedCall → Kind → List ℕ
alarm_line c kind = codes "alarm 1 " ++ (kind_text kind ++ at_place c.place (name_of c.call))

-- the way from the entry into `main`
abbrev pub entry_lines : Place → List ℕ
entry_lines main =
    line (codes "entry main") ++ (line (codes "segment 1 [main]") ++ (codes "  enter" ++ at_place main (codes "main")))

-- an alarm, with the walk to it: from the entry through `main` over the calls before it
abbrev pub rejected_text : Place → List PlacedCall → PlacedCall → Kind → List ℕ
rejected_text main before call kind =
    first_line ++ (line (codes "rejected 1") ++ (alarm_line call kind ++ (entry_lines main ++
    (line (codes "segment 2 main") ++ (flat_map act_line before ++ line (codes "  alarm"))))))
