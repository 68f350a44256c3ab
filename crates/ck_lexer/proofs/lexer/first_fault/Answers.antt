use Rattle.std.proofs.Common.{◌≡◌, ◌+◌, ◌++◌, ◌∷◌, [], Some, refl, ap, subst}
use Rattle.ck_base.specs.declared.tokens.Token.{Token}
use Rattle.ck_lexer.specs.Cuts.{IsLexeme}
use Rattle.ck_lexer.specs.Tokens.{IsFirstFault}
use Rattle.ck_lexer.specs.declared.lexemes.Lexeme.{Lexeme}
use Rattle.ck_lexer.proofs.Kept.{first-fault, tokens-end, tokens-push, tokens-trivia}
use Rattle.ck_lexer.proofs.OneCut.{one_fault, tokens_or_fault}
use Rattle.ck_lexer.proofs.lexer.first_fault.Goals as goal
use Rattle.ck_lexer.proofs.lexer.first_fault.Goals.{in-Trivia, in-Token}

pub loop-at-preserved : goal.loop-at-preserved
loop-at-preserved c =
    let bytes = c.args.bytes.now in
    let at = c.loop-at.at in
    let end = at + c.lexeme_at-scanned.result.size in
    let P : Lexeme → Type 0 = IsLexeme bytes at end in
    let read = c.loop-at.invariant.read in
    elim c.match-scanned.branch [
      | in-Trivia w ↦ record {
        within = c.lexeme_at-scanned.ensures.within;
        read = (
          read.0,
          tokens-trivia c.args.file bytes 0 at end read.0 read.1
              (subst P w.in-Trivia.is c.lexeme_at-scanned.ensures.found),
        );
      }
      | in-Token w ↦
          let t : Token = record {
            kind = w.in-Token.field-0;
            span = record
                { file = c.args.file; start = at; end = end };
          } in
          record {
            within = c.lexeme_at-scanned.ensures.within;
            read = (
              read.0 ++ t ∷ [],
              tokens-push c.args.file bytes 0 read.0 t read.1
                  (record { of_file = refl; there = subst P w.in-Token.is c.lexeme_at-scanned.ensures.found }),
            );
          }
    ]

pub returns-in-Fault-clause-tokens : goal.returns-in-Fault-clause-tokens
returns-in-Fault-clause-tokens c =
    let bytes = c.args.bytes.now in
    let at = c.loop-at.at in
    let read = c.loop-at.invariant.read in
    let P : Lexeme → Type 0 = IsLexeme bytes at (at + c.lexeme_at-scanned.result.size) in
    let first = first-fault c.args.file bytes at c.lexeme_at-scanned.result.size c.in-Fault.kind read.0
    c.refusal.result read.1 (subst P c.in-Fault.is c.lexeme_at-scanned.ensures.found) c.refusal.ensures in
    (λ none. absurd (cc), λ has. absurd (tokens_or_fault c.args.file bytes has.0 c.refusal.result has.1 first))

pub returns-in-Fault-clause-fault : goal.returns-in-Fault-clause-fault
returns-in-Fault-clause-fault c = λ refusal.
    let bytes = c.args.bytes.now in
    let at = c.loop-at.at in
    let read = c.loop-at.invariant.read in
    let P : Lexeme → Type 0 = IsLexeme bytes at (at + c.lexeme_at-scanned.result.size) in
    let first = first-fault c.args.file bytes at c.lexeme_at-scanned.result.size c.in-Fault.kind read.0
    c.refusal.result read.1 (subst P c.in-Fault.is c.lexeme_at-scanned.ensures.found) c.refusal.ensures in (
      λ same. let e : c.refusal.result ≡ refusal = cc in subst (IsFirstFault c.args.file bytes) e first,
      λ is. ap Some (one_fault c.args.file bytes c.refusal.result refusal first is),
    )

pub returns-clause-tokens : goal.returns-clause-tokens
returns-clause-tokens c =
    let read = c.loop-at.invariant.read in (
      λ none. (
        read.0,
        tokens-end c.args.file c.args.bytes.now c.loop-at.at read.0 read.1 c.loop-at.invariant.within
            c.loop-at-test.false,
      ),
      λ has. refl,
    )

pub returns-clause-fault : goal.returns-clause-fault
returns-clause-fault c = λ refusal.
    let bytes = c.args.bytes.now in
    let read = c.loop-at.invariant.read in
    let ended = tokens-end c.args.file bytes c.loop-at.at read.0 read.1 c.loop-at.invariant.within
    c.loop-at-test.false in
    (λ same. absurd (cc), λ is. absurd (tokens_or_fault c.args.file bytes read.0 refusal ended is))
