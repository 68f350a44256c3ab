use Rattle.std.proofs.Common.{◌≡◌, Some, None, ap, ◌∙◌}
use Rattle.ck_base.specs.declared.tokens.Token.{Token}
use Rattle.ck_base.specs.declared.tokens.TokenKind.TheVariants.{Word}
use Rattle.ck_cli.specs.Lexemes.{lexeme_of}
use Rattle.ck_cli.specs.Readers.{progress}
use Rattle.ck_cli.specs.Reading.{after}
use Rattle.ck_cli.proofs.ReadingLemmas.{IsReading-stopped, IsReading-whole, of_true, of_false, over-take}
use Rattle.ck_cli.proofs.form.read.Goals as goal

abbrev no_token : Token
no_token = record { kind = Word; span = record { file = 0; start = 0; end = 0 } }

pub returns-then-not-branch : goal.returns-then-not-branch
returns-then-not-branch c =
    let stop : None ≡ after (progress c.loop-token.reader) c.lexeme_for-lexeme.result _ = of_false
    c.in_ok-take.field-0 (Some (progress c.take.new.self)) None _ c.if-not-branch.true c.in_ok-take.ensures in
    IsReading-stopped c.args.bytes.now c.args.tokens.now c.loop-token.token-index no_token
    (progress c.loop-token.reader) c.loop-token-test.true c.loop-token.invariant
    (over-take c.args.bytes.now c.args.tokens.now c.loop-token.token-index no_token (progress c.loop-token.reader)
    c.lexeme_for-lexeme.result None c.loop-token-test.true c.loop-token.invariant
    (c.lexeme_for-lexeme.ensures ∙ ap lexeme_of c.text_of.ensures) stop)

pub loop-token-preserved : goal.loop-token-preserved
loop-token-preserved c =
    over-take c.args.bytes.now c.args.tokens.now c.loop-token.token-index no_token (progress c.loop-token.reader)
    c.lexeme_for-lexeme.result (Some (progress c.take.new.self)) c.loop-token-test.true c.loop-token.invariant
    (c.lexeme_for-lexeme.ensures ∙ ap lexeme_of c.text_of.ensures)
    (of_true c.in_ok-take.field-0 (Some (progress c.take.new.self)) None _ c.if-not-branch.false c.in_ok-take.ensures)

pub returns : goal.returns
returns c =
    IsReading-whole c.args.bytes.now c.args.tokens.now c.loop-token.token-index (progress c.loop-token.reader)
    c.end.result c.loop-token-test.false c.loop-token.invariant c.end.ensures
