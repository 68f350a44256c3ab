-- The number of the benchmark, parsed.
use Rattle.std.proofs.Common.{◌≡◌, ℕ, true, List, get_or, ap, sym, ◌∙◌, Option, Some, Result, Ok, arith}
use Rattle.std.specs.Prelude.{codes, option_map}
use Rattle.std.specs.Fmt.{decimal}
use Rattle.std.specs.Result.{result_ok}
use Rattle.std.specs.Str.{bytes_eq}
use Rattle.std.specs.Str.Parse.{ParsesUnsigned}
use Rattle.std.proofs.lemmas.Fmt.{parse-decimal}
use Rattle.std.proofs.lemmas.Slice.Eq.{bytes_eq-Decides}
use Rattle.ck_words.specs.declared.commands.Command.{Command}
use Rattle.ck_words.specs.declared.commands.Command.TheVariants.{Bench}
use Rattle.ck_words.specs.Matched.{IsNamed, mode_text}

-- a command of the mode `bench` is the benchmark of the number that its text is parsed to
pub parsed_number : {E : Type 0} (mode text : List ℕ) (c : Command) (r : Result ℕ E) (parsed : Option ℕ)
    → bytes_eq mode (codes "bench") ≡ true → IsNamed mode (Some text) c → ParsesUnsigned 32 10 text r
    → parsed ≡ result_ok r → option_map (λ n. Bench n) parsed ≡ Some c
parsed_number mode text (Bench n) r parsed bench named parses is =
    let digits : text ≡ decimal n = let same = named.1 in cc in
    let ok : r ≡ Ok n = parse-decimal 32 n text r named.2 (omega (arith, named.2)) digits parses in
    ap (option_map (λ n. Bench n)) (is ∙ ap result_ok ok)
parsed_number mode text c r parsed bench named parses is =
    let same : codes "bench" ≡ mode_text c = sym ((bytes_eq-Decides mode (codes "bench")).0 bench) ∙ named.0 in
    let letter : 98 ≡ get_or (mode_text c) 0 0 = ap (λ t. get_or t 0 0) same in
    absurd (omega (arith, letter))
