use Rattle.std.proofs.Common.{arith}
use Rattle.std.proofs.lemmas.List.Sums.{prefix_len-le-length}
use Rattle.ck_base.specs.Characters.{is_octal_digit}
use Rattle.ck_lexer.proofs.literals.octal_length.Goals as goal

pub returns-clause-within : goal.returns-clause-within
returns-clause-within c = omega (arith, prefix_len-le-length is_octal_digit c.args.text.now, c.digits_length.ensures)
