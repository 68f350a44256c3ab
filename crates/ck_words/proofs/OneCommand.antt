-- No words are two commands: clap reads the mode and the number of a command from them.
use Rattle.std.proofs.Common.{◌≡◌, ◌∷◌, [], get_or, ap, sym, ◌∙◌, Some, arith}
use Rattle.std.specs.Prelude.{unwrap_or}
use Rattle.std.specs.Fmt.{decimal}
use Rattle.std.proofs.lemmas.Fmt.{decimal_injective}
use Rattle.ck_words.specs.declared.commands.Command.{Command}
use Rattle.ck_words.specs.declared.commands.Command.TheVariants.{Check, Bench, Upgrade}
use Rattle.ck_words.specs.Commands.{HaveOneCommand, Words, IsCommand}
use Rattle.ck_words.specs.Matched.{FitsWord, mode_text, number_text}
use Rattle.ck_words.proofs.Matching.{Reading, reading-command, taken}

FitsWord-command : (words : Words) (c : Command) → IsCommand words c → FitsWord c
FitsWord-command [] c is = absurd is
FitsWord-command (name ∷ words) Check is = tt
FitsWord-command (name ∷ words) Upgrade is = tt
FitsWord-command (name ∷ words) (Bench n) is = omega (arith, is.1)

-- a mode and a number are those of one command
same_command : (c d : Command) → FitsWord c → FitsWord d
    → taken (mode_text c) (number_text c) ≡ taken (mode_text d) (number_text d) → c ≡ d
same_command (Bench m) (Bench n) small large same =
    let digits : Some (decimal m) ≡ Some (decimal n) = ap (λ (r : Reading). r.2) same in
    ap (λ k. Bench k) (decimal_injective m n (omega (arith, small)) (omega (arith, large)) cc)
same_command Check Check small large same = cc
same_command Upgrade Upgrade small large same = cc
same_command c d small large same =
    let letter : get_or (mode_text c) 0 0 ≡ get_or (mode_text d) 0 0 =
    ap (λ (r : Reading). get_or (unwrap_or r.1 []) 0 0) same in
    absurd (omega (arith, letter))

pub one_command : HaveOneCommand
one_command words c d is_c is_d =
    same_command c d (FitsWord-command words c is_c) (FitsWord-command words d is_d)
    (sym (reading-command words c is_c) ∙ reading-command words d is_d)
