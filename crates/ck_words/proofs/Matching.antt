-- What clap takes, and what it finds in words that are a command.
use Rattle.std.proofs.Common.{◌≡◌, ◌<◌, ◌≤◌, ◌^◌, ℕ, suc, Bool, true, [], ◌∷◌, ◌++◌, get_or}
use Rattle.std.proofs.Common.{Option, Some, None, inl, inr, length, refl, subst, arith, ap, ◌∙◌}
use Rattle.std.specs.Prelude.{codes}
use Rattle.std.specs.Fmt.{decimal}
use Rattle.std.proofs.Math.Nat.{eq-or-lt_of_le}
use Rattle.std.proofs.lemmas.Fmt.{decimal_is_IsNumeral, decimal_nonempty, first_decimal}
use Rattle.std.proofs.lemmas.Str.Parse.{digit_at}
use Rattle.clap.specs.Words.{App, HasMatchesOf, Rule, Text, first_of, found_of, is_simple, matches_of, new_app}
use Rattle.clap.specs.Words.{new_rule, rows_of, takes, with_rule}
use Rattle.clap.specs.declared.builder.action.ArgAction.TheVariants.{Set}
use Rattle.clap.specs.declared.error.kind.ErrorKind.{ErrorKind}
use Rattle.clap.specs.declared.error.kind.ErrorKind.TheVariants.{OutOfMemory}
use Rattle.clap.specs.declared.parser.matches.ArgMatches.{ArgMatches}
use Rattle.clap.proofs.WalkLemmas.{first_value-rows}
use Rattle.clap.proofs.OnLiterals.{clap_on_literals}
use Rattle.ck_words.specs.declared.commands.Command.{Command}
use Rattle.ck_words.specs.declared.commands.Command.TheVariants.{Check, Bench, Upgrade}
use Rattle.ck_words.specs.Commands.{Words, IsCommand}
use Rattle.ck_words.specs.Matched.{AreMatches, mode_text, number_text}

abbrev pub mode_rule : Rule
mode_rule = record (new_rule (codes "mode")) { action = Some Set; required = true }

abbrev pub number_rule : Rule
number_rule = record (new_rule (codes "number")) { long = Some (codes "number"); action = Some Set }

abbrev pub rtcheck_app : App
rtcheck_app = with_rule (with_rule (new_app (codes "rtcheck")) mode_rule) number_rule

-- whether the words are taken, their mode and their number
abbrev pub Reading : Type 0
Reading = Bool × Option Text × Option Text

abbrev pub reading : Words → Reading
reading words = (
  takes rtcheck_app words,
  first_of (codes "mode") (matches_of rtcheck_app words),
  first_of (codes "number") (matches_of rtcheck_app words),
)

abbrev pub taken : Text → Option Text → Reading
taken mode number = (true, Some mode, number)

-- ---- words that are written out, but for the program's name and the number

reading-check : (name : Text) → reading (name ∷ codes "check" ∷ []) ≡ taken (codes "check") None
unfolding clap_on_literals
reading-check name = refl

reading-upgrade : (name : Text) → reading (name ∷ codes "upgrade" ∷ []) ≡ taken (codes "upgrade") None
unfolding clap_on_literals
reading-upgrade name = refl

reading-bench_equals : (name number : Text)
    → reading (name ∷ codes "bench" ∷ (codes "--number=" ++ number) ∷ [])
    ≡ taken (codes "bench") (Some number)
unfolding clap_on_literals
reading-bench_equals name number = refl

reading-equals_bench : (name number : Text)
    → reading (name ∷ (codes "--number=" ++ number) ∷ codes "bench" ∷ [])
    ≡ taken (codes "bench") (Some number)
unfolding clap_on_literals
reading-equals_bench name number = refl

-- ---- the number as a word of its own, which begins with a digit from 1 to 9

from : (P : ℕ → Type 0) (n : ℕ) → P n → ((b : ℕ) → suc n ≤ b → b ≤ 57 → P b)
    → (b : ℕ) → n ≤ b → b ≤ 57 → P b
from P n here above b low high = elim (eq-or-lt_of_le low) [
  | inl same ↦ subst P same here
  | inr less ↦ above b less high
]

each_digit : (P : ℕ → Type 0) → P 49 → P 50 → P 51 → P 52 → P 53 → P 54 → P 55 → P 56 → P 57
    → (b : ℕ) → 49 ≤ b → b ≤ 57 → P b
each_digit P p1 p2 p3 p4 p5 p6 p7 p8 p9 =
    from P 49 p1 (from P 50 p2 (from P 51 p3 (from P 52 p4 (from P 53 p5 (from P 54 p6 (from P 55 p7 (from P 56 p8
    (from P 57 p9 (λ b low high. absurd (omega arith))))))))))

reading-bench_number : (name number : Text)
    → 0 < length number → 49 ≤ get_or number 0 0 → get_or number 0 0 ≤ 57
    → reading (name ∷ codes "bench" ∷ codes "--number" ∷ number ∷ []) ≡ taken (codes "bench") (Some number)
unfolding clap_on_literals
reading-bench_number name [] long low high = absurd (omega arith)
reading-bench_number name (b ∷ rest) long low high =
    each_digit (λ b. reading (name ∷ codes "bench" ∷ codes "--number" ∷ (b ∷ rest) ∷ [])
    ≡ taken (codes "bench") (Some (b ∷ rest))) refl refl refl refl refl refl refl refl refl b low high

reading-number_bench : (name number : Text)
    → 0 < length number → 49 ≤ get_or number 0 0 → get_or number 0 0 ≤ 57
    → reading (name ∷ codes "--number" ∷ number ∷ codes "bench" ∷ []) ≡ taken (codes "bench") (Some number)
unfolding clap_on_literals
reading-number_bench name [] long low high = absurd (omega arith)
reading-number_bench name (b ∷ rest) long low high =
    each_digit (λ b. reading (name ∷ codes "--number" ∷ (b ∷ rest) ∷ codes "bench" ∷ [])
    ≡ taken (codes "bench") (Some (b ∷ rest))) refl refl refl refl refl refl refl refl refl b low high

-- ---- all commands

first_digit : (n : ℕ) → 1 ≤ n → n < 2 ^ 64
    → (0 < length (decimal n)) × (49 ≤ get_or (decimal n) 0 0) × (get_or (decimal n) 0 0 ≤ 57)
first_digit n low fits =
    let long = decimal_nonempty n fits in
    (long, omega (arith, first_decimal n low fits), (digit_at (decimal n) 0 (decimal_is_IsNumeral n fits).0.1 long).1)

pub reading-command : (words : Words) (c : Command) → IsCommand words c
    → reading words ≡ taken (mode_text c) (number_text c)
reading-command [] c is = absurd is
reading-command (name ∷ words) Check is = rw is (reading-check name)
reading-command (name ∷ words) Upgrade is = rw is (reading-upgrade name)
reading-command (name ∷ words) (Bench n) is =
    let digit = first_digit n is.0 (omega (arith, is.1)) in
    elim is.2 [
      | inl e ↦ rw e (reading-bench_number name (decimal n) digit.0 digit.1 digit.2)
      | inr (inl e) ↦ rw e (reading-number_bench name (decimal n) digit.0 digit.1 digit.2)
      | inr (inr (inl e)) ↦ rw e (reading-bench_equals name (decimal n))
      | inr (inr (inr e)) ↦ rw e (reading-equals_bench name (decimal n))
    ]

-- ---- a parse of rtcheck's command

-- at `Ok`
pub AreMatches-parsed : (a : App) (words : Words) (m : ArgMatches) → a ≡ rtcheck_app → HasMatchesOf a words m
    → AreMatches words (found_of m)
AreMatches-parsed a words m same parsed c is =
    let rows : rows_of (found_of m) ≡ matches_of rtcheck_app words =
    (parsed (ap is_simple same)).0 ∙ ap (λ b. matches_of b words) same in
    let found = reading-command words c is in (
      first_value-rows (found_of m) (codes "mode") ∙ (ap (first_of (codes "mode")) rows ∙ ap (λ r. r.1) found),
      first_value-rows (found_of m) (codes "number") ∙ (ap (first_of (codes "number")) rows ∙ ap (λ r. r.2) found),
    )

-- at `Err`
pub memory_alone : (a : App) (words : Words) (c : Command) (kind : ErrorKind)
    → a ≡ rtcheck_app → IsCommand words c → (takes a words ≡ true → kind ≡ OutOfMemory)
    → kind ≡ OutOfMemory
memory_alone a words c kind same is fails =
    fails (ap (λ b. takes b words) same ∙ ap (λ r. r.0) (reading-command words c is))
