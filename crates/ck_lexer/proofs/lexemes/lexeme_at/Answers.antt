use Rattle.std.proofs.Common.{◌+◌, arith}
use Rattle.ck_lexer.proofs.Sizes.{IsLexeme-lies}
use Rattle.ck_lexer.proofs.lexemes.lexeme_at.Goals as goal

pub returns-clause-some : goal.returns-clause-some
returns-clause-some c = omega (
  arith,
  (IsLexeme-lies c.args.bytes.now c.args.at
      (c.args.at + c.scanned_at.result.size) c.scanned_at.result.lexeme c.scanned_at.ensures).rises,
)

pub returns-clause-within : goal.returns-clause-within
returns-clause-within c = (IsLexeme-lies c.args.bytes.now c.args.at
    (c.args.at + c.scanned_at.result.size) c.scanned_at.result.lexeme c.scanned_at.ensures).within
