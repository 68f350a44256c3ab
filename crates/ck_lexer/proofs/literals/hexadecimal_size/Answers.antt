use Rattle.std.proofs.Common.{arith}
use Rattle.std.proofs.lemmas.List.Sums.{prefix_len-le-length}
use Rattle.ck_base.specs.Characters.{is_hexadecimal_digit}
use Rattle.ck_lexer.proofs.literals.hexadecimal_size.Goals as goal

pub overflow_add-length : goal.overflow_add-length
overflow_add-length c = omega
    (arith, prefix_len-le-length is_hexadecimal_digit c.args.text.now, c.digits_length-length.ensures)
