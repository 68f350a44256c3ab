use Rattle.std.proofs.Common.{◌≡◌, ◌+◌, ◌++◌, ◌∷◌, [], List, inr, sym, ap, ◌∙◌, refl, subst}
use Rattle.ck_base.specs.declared.tokens.Token.{Token as FileToken}
use Rattle.ck_lexer.specs.Cuts.{IsLexeme}
use Rattle.ck_lexer.specs.Tokens.{AreTokensBetween}
use Rattle.ck_lexer.specs.declared.lexemes.Lexeme.{Lexeme}
use Rattle.ck_lexer.proofs.Kept.{first-fault, tokens-trivia, tokens-push, tokens-end}
use Rattle.ck_lexer.proofs.OneCut.{one_list, tokens_or_fault, one_fault}
use Rattle.ck_lexer.proofs.lexer.lex.Goals as goal

pub returns-in-Fault-clause-only_tokens : goal.returns-in-Fault-clause-only_tokens
returns-in-Fault-clause-only_tokens c = λ tokens are.
    let at = c.loop-at.at in
    let P : Lexeme → Type 0 = IsLexeme c.args.bytes.now at (at + c.lexeme_at-scanned.result.size) in
    absurd (tokens_or_fault c.args.file c.args.bytes.now tokens c.refusal.result are
    (first-fault c.args.file c.args.bytes.now at c.lexeme_at-scanned.result.size c.in-Fault.kind
    c.loop-at.tokens.items c.refusal.result c.loop-at.invariant.cut
    (subst P c.in-Fault.is c.lexeme_at-scanned.ensures.found) c.refusal.ensures))

pub returns-in-Fault-clause-only_fault : goal.returns-in-Fault-clause-only_fault
returns-in-Fault-clause-only_fault c = λ refusal is.
    let at = c.loop-at.at in
    let P : Lexeme → Type 0 = IsLexeme c.args.bytes.now at (at + c.lexeme_at-scanned.result.size) in
    let e : c.refusal.result ≡ refusal = one_fault c.args.file c.args.bytes.now c.refusal.result refusal
    (first-fault c.args.file c.args.bytes.now at c.lexeme_at-scanned.result.size c.in-Fault.kind
    c.loop-at.tokens.items c.refusal.result c.loop-at.invariant.cut
    (subst P c.in-Fault.is c.lexeme_at-scanned.ensures.found) c.refusal.ensures) is in
    inr (rw e refl)

pub loop-at-preserved-in-Trivia : goal.loop-at-preserved-in-Trivia
loop-at-preserved-in-Trivia c =
    let at = c.loop-at.at in
    let P : Lexeme → Type 0 = IsLexeme c.args.bytes.now at (at + c.lexeme_at-scanned.result.size) in
    record {
      within = c.lexeme_at-scanned.ensures.within;
      cut = tokens-trivia c.args.file c.args.bytes.now 0 at
          (at + c.lexeme_at-scanned.result.size) c.loop-at.tokens.items c.loop-at.invariant.cut
          (subst P c.in-Trivia.is c.lexeme_at-scanned.ensures.found);
    }

pub loop-at-preserved : goal.loop-at-preserved
loop-at-preserved c =
    let bytes = c.args.bytes.now in
    let at = c.loop-at.at in
    let end = at + c.lexeme_at-scanned.result.size in
    let P : Lexeme → Type 0 = IsLexeme bytes at end in
    let t : FileToken = record {
      kind = c.in-Token.kind;
      span = record
          { file = c.args.file; start = at; end = end };
    } in
    let Q : List FileToken → Type 0 = λ items. AreTokensBetween c.args.file bytes 0 items end in
    record {
      within = c.lexeme_at-scanned.ensures.within;
      cut = subst Q (sym (c.in_ok-push-in-Token.ensures.added
          ∙ ap (λ x. c.loop-at.tokens.items ++ x ∷ []) c.token.ensures))
          (tokens-push c.args.file bytes 0 c.loop-at.tokens.items t c.loop-at.invariant.cut
          (record { of_file = refl; there = subst P c.in-Token.is c.lexeme_at-scanned.ensures.found }));
    }

pub returns-clause-only_tokens : goal.returns-clause-only_tokens
returns-clause-only_tokens c = λ tokens are. inr (one_list c.args.file c.args.bytes.now c.loop-at.tokens.items tokens
    (tokens-end c.args.file c.args.bytes.now c.loop-at.at c.loop-at.tokens.items c.loop-at.invariant.cut
    c.loop-at.invariant.within c.loop-at-test.false) are)

pub returns-clause-only_fault : goal.returns-clause-only_fault
returns-clause-only_fault c = λ refusal is.
    absurd (tokens_or_fault c.args.file c.args.bytes.now c.loop-at.tokens.items refusal
    (tokens-end c.args.file c.args.bytes.now c.loop-at.at c.loop-at.tokens.items c.loop-at.invariant.cut
    c.loop-at.invariant.within c.loop-at-test.false) is)
