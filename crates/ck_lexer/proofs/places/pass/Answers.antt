use Rattle.std.proofs.Common.{◌≡◌, false, get_or, sym, ◌∙◌, arith}
use Rattle.ck_lexer.specs.Scanning.{may_end_line}
use Rattle.ck_lexer.proofs.WithinLine.{mapped_within}
use Rattle.ck_lexer.proofs.places.pass.Goals as goal

pub returns-else-may_end_line-clause-lines : goal.returns-else-may_end_line-clause-lines
returns-else-may_end_line-clause-lines c = λ name lexeme is mapped.
    let within : may_end_line (get_or c.args.bytes.now c.args.at 0) ≡ false = sym c.may_end_line.ensures
    ∙ c.if-may_end_line.false in
    mapped_within name c.args.bytes.now c.args.map.now c.args.on c.args.at c.args.end lexeme
    (omega arith) c.requires.within within is mapped
