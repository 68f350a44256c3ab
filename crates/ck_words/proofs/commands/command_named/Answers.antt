use Rattle.std.proofs.Common.{◌≡◌, ◌∙◌, true, Some, rules}
use Rattle.std.specs.Prelude.{codes}
use Rattle.std.specs.Str.{bytes_eq}
use Rattle.ck_words.specs.Matched.{IsNamed}
use Rattle.ck_words.proofs.Numbers.{parsed_number}
use Rattle.ck_words.proofs.commands.command_named.Goals as goal

pub returns-in_err-number-2 : goal.returns-in_err-number-2
returns-in_err-number-2 c = λ command named.
    let bench : bytes_eq c.args.mode.now (codes "bench") ≡ true = search rules in
    let given : IsNamed c.args.mode.now (Some c.in_ok-number.field-0.now) command = rw c.in_ok-number.was at named in
    let read = parsed_number c.args.mode.now c.in_ok-number.field-0.now command c.parse.result c.ok.result bench given
    c.parse.ensures.value.0 c.ok.ensures.value in
    c.from_residual-in_err-number-2.ensures ∙ rw c.in_err-number-2.was at read

pub returns-in_ok-number-2 : goal.returns-in_ok-number-2
returns-in_ok-number-2 c = λ command named.
    let bench : bytes_eq c.args.mode.now (codes "bench") ≡ true = search rules in
    let given : IsNamed c.args.mode.now (Some c.in_ok-number.field-0.now) command = rw c.in_ok-number.was at named in
    let read = parsed_number c.args.mode.now c.in_ok-number.field-0.now command c.parse.result c.ok.result bench given
    c.parse.ensures.value.0 c.ok.ensures.value in
    rw c.in_ok-number-2.was at read
