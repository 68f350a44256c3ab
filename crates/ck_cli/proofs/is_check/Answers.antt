use Rattle.std.proofs.Common.{◌≡◌, length, string_bytes, arith, ap, ◌∙◌}
use Rattle.std.specs.Prelude.{codes}
use Rattle.std.specs.Str.{bytes_eq}
use Rattle.ck_cli.proofs.WordLemmas.{check_words}
use Rattle.ck_cli.proofs.is_check.Goals as goal

pub returns-in-len2 : goal.returns-in-len2
returns-in-len2 c =
    let two : length c.args.words.now ≡ 2 = omega arith in
    check_words string_bytes c.args.words.now c.word-item.result c.eq.result two c.word-item.is
    (c.eq.ensures ∙ ap (λ w. bytes_eq w (codes "check")) c.as_str.ensures.value)
