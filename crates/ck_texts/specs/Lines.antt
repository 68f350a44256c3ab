-- Lines, and what stands in them. docs/REPORT.md has them with examples.
use Rattle.std.specs.Prelude.{ℕ, ◌+◌, ◌-◌, List, [], ◌∷◌, ◌++◌, codes, length, take, drop}
use Rattle.std.specs.Fmt.{decimal}
use Rattle.ck_base.specs.declared.refusals.Spot.{Spot}
use Rattle.ck_base.specs.declared.refusals.Spot.TheVariants.{Nowhere, File, At}
use Rattle.ck_base.specs.declared.spans.Span.{Span}
use Rattle.ck_base.specs.declared.states.Kind.{Kind}
use Rattle.ck_base.specs.declared.states.Kind.TheVariants.{Sv, Order, P}
use Rattle.ck_lexer.specs.Places.{Place}

abbrev pub line : List ℕ → List ℕ
line text = text ++ codes "\n"

-- every text begins with this line
abbrev pub first_line : List ℕ
first_line = line (codes "rtcheck 1")

-- name:line:column
abbrev pub place_text : Place → List ℕ
place_text place = place.name ++ (codes ":" ++ (decimal place.line ++ (codes ":" ++ decimal place.column)))

-- the place of a point, where `at` says where spans are; `-` is printed for none
abbrev pub site_text : (Span → Place) → Spot → List ℕ
site_text at Nowhere = codes "-"
site_text at (File file) = codes "-"
site_text at (At span) = place_text (at span)

-- the kind of an alarm
abbrev pub kind_text : Kind → List ℕ
kind_text (Sv number) = codes "SV#" ++ decimal number
kind_text Order = codes "ORDER"
kind_text (P number) = codes "P#" ++ decimal number

-- a text without the brackets round it
abbrev pub within_brackets : List ℕ → List ℕ
within_brackets text = take (length text - 2) (drop 1 text)

-- the texts of these things one after the other, which are numbered from `n` on
abbrev pub numbered : {A : Type 0} → (ℕ → A → List ℕ) → ℕ → List A → List ℕ
numbered text n [] = []
numbered text n (x ∷ xs) = text n x ++ numbered text (n + 1) xs
