use Rattle.std.proofs.Common.{◌+◌, ◌++◌, ◌∷◌, [], List, Option, refl, ap, sym, ◌∙◌, subst}
use Rattle.ck_base.specs.declared.refusals.Refusal.{Refusal}
use Rattle.ck_base.specs.declared.tokens.Token.{Token}
use Rattle.ck_lexer.specs.Cuts.{IsLexeme}
use Rattle.ck_lexer.specs.Scanning.{IsReadTo}
use Rattle.ck_lexer.specs.Tokens.{AreTokensBetween}
use Rattle.ck_lexer.specs.declared.lexemes.Lexeme.{Lexeme}
use Rattle.ck_lexer.proofs.Kept.{first-fault, tokens-push, tokens-trivia}
use Rattle.ck_lexer.proofs.files.note.Goals as goal

pub returns-in-Trivia : goal.returns-in-Trivia
returns-in-Trivia c = λ bytes is read.
    let P : Lexeme → Type 0 = IsLexeme bytes c.args.at (c.args.at + c.args.scanned.size) in
    let Q : Option Refusal → Type 0 = λ f. IsReadTo c.args.file bytes c.args.tokens.now.items f c.args.at in
    tokens-trivia c.args.file bytes 0 c.args.at (c.args.at + c.args.scanned.size) c.args.tokens.now.items
    (subst Q c.in-None.is read) (subst P c.in-Trivia.is is)

pub returns-in_ok-push-in-Token : goal.returns-in_ok-push-in-Token
returns-in_ok-push-in-Token c = λ bytes is read.
    let end = c.args.at + c.args.scanned.size in
    let tokens = c.args.tokens.now.items in
    let P : Lexeme → Type 0 = IsLexeme bytes c.args.at end in
    let Q : Option Refusal → Type 0 = λ f. IsReadTo c.args.file bytes tokens f c.args.at in
    let R : List Token → Type 0 = λ items. AreTokensBetween c.args.file bytes 0 items end in
    let t : Token = record {
      kind = c.in-Token.kind;
      span = record
          { file = c.args.file; start = c.args.at; end = end };
    } in
    let pushed = c.in_ok-push-in-Token.ensures.items ∙ ap (λ x. tokens ++ x ∷ []) c.token.ensures in
    subst R (sym pushed) (tokens-push c.args.file bytes 0 tokens t (subst Q c.in-None.is read)
    (record { of_file = refl; there = subst P c.in-Token.is is }))

pub returns-in-Fault : goal.returns-in-Fault
returns-in-Fault c = λ bytes is read.
    let P : Lexeme → Type 0 = IsLexeme bytes c.args.at (c.args.at + c.args.scanned.size) in
    let Q : Option Refusal → Type 0 = λ f. IsReadTo c.args.file bytes c.args.tokens.now.items f c.args.at in
    first-fault c.args.file bytes c.args.at c.args.scanned.size c.in-Fault.kind c.args.tokens.now.items
    c.refusal.result (subst Q c.in-None.is read) (subst P c.in-Fault.is is) c.refusal.ensures
