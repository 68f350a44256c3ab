use Rattle.std.proofs.Common.{◌≡◌, ◌+◌, Option, refl, subst}
use Rattle.ck_base.specs.declared.refusals.Refusal.{Refusal}
use Rattle.ck_lexer.specs.Scanning.{IsReadTo}
use Rattle.ck_lexer.proofs.Kept.{read-feed, tokens-end}
use Rattle.ck_lexer.proofs.OneCut.{one_fault, one_list, tokens_or_fault}
use Rattle.ck_lexer.proofs.files.scan.Goals as goal

pub loop-at-preserved : goal.loop-at-preserved
loop-at-preserved c =
    let scanned = c.lexeme_at-scanned.result in
    let is = c.lexeme_at-scanned.ensures.found in
    record {
      mapped = c.in_ok-next.ensures.lines c.args.name.now scanned.lexeme is c.loop-at.invariant.mapped;
      read = read-feed c.args.file c.args.bytes.now c.note.new.tokens.items c.in_ok-fault.fault
          (c.loop-at.at + scanned.size) c.in_ok-next.next.at
          (c.in_ok-fault.ensures c.args.bytes.now is c.loop-at.invariant.read)
          (c.in_ok-next.ensures.feed scanned.lexeme is);
    }

pub returns-in-None-clause-only_tokens : goal.returns-in-None-clause-only_tokens
returns-in-None-clause-only_tokens c = λ tokens are.
    let l = c.loop-at in
    let P : Option Refusal → Type 0 = λ f. IsReadTo c.args.file c.args.bytes.now l.tokens.items f l.at in
    let ended = tokens-end c.args.file c.args.bytes.now l.at l.tokens.items
    (subst P c.in-None.is l.invariant.read) l.invariant.mapped.found.within c.loop-at-test.false in
    one_list c.args.file c.args.bytes.now l.tokens.items tokens ended are

pub returns-in-None-clause-only_fault : goal.returns-in-None-clause-only_fault
returns-in-None-clause-only_fault c = λ refusal is.
    let l = c.loop-at in
    let P : Option Refusal → Type 0 = λ f. IsReadTo c.args.file c.args.bytes.now l.tokens.items f l.at in
    let ended = tokens-end c.args.file c.args.bytes.now l.at l.tokens.items
    (subst P c.in-None.is l.invariant.read) l.invariant.mapped.found.within c.loop-at-test.false in
    absurd (tokens_or_fault c.args.file c.args.bytes.now l.tokens.items refusal ended is)

pub returns-in-Some-clause-only_tokens : goal.returns-in-Some-clause-only_tokens
returns-in-Some-clause-only_tokens c = λ tokens are.
    let l = c.loop-at in
    let P : Option Refusal → Type 0 = λ f. IsReadTo c.args.file c.args.bytes.now l.tokens.items f l.at in
    tokens_or_fault c.args.file c.args.bytes.now tokens c.in-Some.refusal are (subst P c.in-Some.is l.invariant.read)

pub returns-in-Some-clause-only_fault : goal.returns-in-Some-clause-only_fault
returns-in-Some-clause-only_fault c = λ refusal is.
    let l = c.loop-at in
    let P : Option Refusal → Type 0 = λ f. IsReadTo c.args.file c.args.bytes.now l.tokens.items f l.at in
    let e : c.in-Some.refusal ≡ refusal = one_fault c.args.file c.args.bytes.now c.in-Some.refusal refusal
    (subst P c.in-Some.is l.invariant.read) is in
    rw e refl
