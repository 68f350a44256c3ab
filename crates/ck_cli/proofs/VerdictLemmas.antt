-- What the reader and the walk found is what the bytes are answered.
use Rattle.std.proofs.Common.{◌≡◌, ℕ, zero, suc, ◌<◌, ◌≤◌, List, [], ◌∷◌, ◌++◌, length, get_or, Option, Some, None}
use Rattle.std.proofs.Common.{refl, sym, subst, arith}
use Rattle.std.specs.Prelude.{All}
use Rattle.ck_base.specs.declared.refusals.Refusal.{Refusal}
use Rattle.ck_base.specs.declared.refusals.Spot.TheVariants.{At}
use Rattle.ck_base.specs.declared.refusals.Unsupported.TheVariants.{U7}
use Rattle.ck_base.specs.declared.spans.Span.{Span}
use Rattle.ck_base.specs.declared.states.Kind.{Kind}
use Rattle.ck_base.specs.declared.states.State.TheVariants.{TI}
use Rattle.ck_base.specs.declared.tokens.Token.{Token}
use Rattle.ck_lexer.specs.Tokens.{AreTokens, IsFirstFault}
use Rattle.ck_cli.specs.declared.form.Call.{Call}
use Rattle.ck_cli.specs.declared.statuses.Status.{Status}
use Rattle.ck_cli.specs.declared.statuses.Status.TheVariants.{Accepted, Refused}
use Rattle.ck_cli.specs.FileForm.{FileForm, Spells, main_start, made_calls}
use Rattle.ck_cli.specs.Placed.{IsRefusalText}
use Rattle.ck_cli.specs.Stray.{IsStray}
use Rattle.ck_cli.specs.Walking.{walk}
use Rattle.ck_cli.specs.Walked.{answered_by, IsWalked}
use Rattle.ck_cli.specs.Verdict.{IsVerdict, faulty, stray, accepted, rejected}
use Rattle.ck_lexer.proofs.Rising.{tokens-below}
use Rattle.ck_cli.proofs.PlaceLemmas.{start-within, calls-within, stray-within}
use Rattle.ck_cli.proofs.ReadingLemmas.{IsForm}
use Rattle.ck_cli.proofs.WalkLemmas.{Alarms-from_walk, Passes-from_walk}

pub faulty_verdict : (bytes : List ℕ) (refusal : Refusal) (span : Span) (status : Status) (text : List ℕ)
    → IsFirstFault 0 bytes refusal → refusal.at ≡ At span → status ≡ Refused
    → IsRefusalText bytes refusal.kind span.start text → IsVerdict bytes status text
faulty_verdict bytes refusal span status text first at is_refused refused =
    subst (λ s. IsVerdict bytes s text) (sym is_refused) (faulty refusal span first at refused)

pub stray_verdict : (bytes : List ℕ) (tokens : List Token) (offset : ℕ) (status : Status) (text : List ℕ)
    → AreTokens 0 bytes tokens → IsStray bytes tokens offset → status ≡ Refused → IsRefusalText bytes U7 offset text
    → IsVerdict bytes status text
stray_verdict bytes tokens offset status text of_bytes is is_refused refused =
    subst (λ s. IsVerdict bytes s text) (sym is_refused) (stray tokens offset of_bytes is refused)

walked_by : (bytes : List ℕ) (tokens : List Token) (form : FileForm) (found : Option (List Call × Call × Kind))
    (status : Status) (text : List ℕ)
    → AreTokens 0 bytes tokens → Spells form bytes tokens → walk TI [] (made_calls form tokens) ≡ found
    → answered_by bytes (main_start form tokens) found status text → IsVerdict bytes status text
walked_by bytes tokens form None status text of_bytes spells walked answer =
    subst (λ s. IsVerdict bytes s text) (sym answer.0) (subst (IsVerdict bytes Accepted) (sym answer.1)
    (accepted tokens form of_bytes spells (Passes-from_walk (made_calls form tokens) walked)))
walked_by bytes tokens form (Some found) status text of_bytes spells walked answer =
    subst (λ s. IsVerdict bytes s text) (sym answer.0) (rejected tokens form found.0 found.1 found.2 of_bytes spells
    (Alarms-from_walk (made_calls form tokens) found.0 found.1 found.2 walked) answer.1)

pub walked_verdict : (bytes : List ℕ) (tokens : List Token) (main : ℕ) (calls : List Call) (status : Status)
    (text : List ℕ)
    → AreTokens 0 bytes tokens → IsForm bytes tokens main calls → IsWalked bytes main calls status text
    → IsVerdict bytes status text
walked_verdict bytes tokens main calls status text of_bytes is answer =
    walked_by bytes tokens is.form (walk TI [] (made_calls is.form tokens)) status text of_bytes is.spells refl
    (subst (λ m. IsWalked bytes m (made_calls is.form tokens) status text) is.main_is
    (subst (λ cs. IsWalked bytes main cs status text) is.calls_are answer))

-- main and the calls begin in the file
pub main-inside : (bytes : List ℕ) (tokens : List Token) (main : ℕ) (calls : List Call)
    → AreTokens 0 bytes tokens → IsForm bytes tokens main calls → main ≤ length bytes
main-inside bytes tokens main calls of_bytes is =
    subst (λ m. m ≤ length bytes) (sym is.main_is) (start-within (length bytes) tokens _
    (tokens-below 0 bytes tokens of_bytes))

pub calls-inside : (bytes : List ℕ) (tokens : List Token) (main : ℕ) (calls : List Call)
    → AreTokens 0 bytes tokens → IsForm bytes tokens main calls → All (λ c. c.start ≤ length bytes) calls
calls-inside bytes tokens main calls of_bytes is =
    subst (All (λ c. c.start ≤ length bytes)) (sym is.calls_are) (calls-within (length bytes) tokens _ is.form.calls
    (tokens-below 0 bytes tokens of_bytes))

-- the alarm's call and those before it begin in the file
all_cons : (P : Call → Type 0) (c : Call) (calls : List Call)
    → P c → All P calls → (k : ℕ) (d : Call) → k < length (c ∷ calls) → P (get_or (c ∷ calls) k d)
all_cons P c calls first rest zero d within = first
all_cons P c calls first rest (suc k) d within = rest k d (omega arith)

all_split : (P : Call → Type 0) (before after : List Call) (call : Call)
    → All P (before ++ call ∷ after) → All P before × P call
all_split P [] after call all = (λ k d within. absurd (omega arith), all 0 call (omega arith))
all_split P (b ∷ before) after call all =
    let rest = all_split P before after call (λ k d within. all (suc k) d (omega arith)) in
    (all_cons P b before (all 0 b (omega arith)) rest.0, rest.1)

pub alarm-inside : (size : ℕ) (calls before : List Call) (call : Call) (kind : Kind)
    → walk TI [] calls ≡ Some (before, call, kind) → All (λ c. c.start ≤ size) calls
    → All (λ c. c.start ≤ size) before × (call.start ≤ size)
alarm-inside size calls before call kind walked all =
    let alarms = Alarms-from_walk calls before call kind walked in
    all_split (λ c. c.start ≤ size) before alarms.after call (subst (All (λ c. c.start ≤ size)) alarms.split all)

-- each span is a run of the file's bytes
pub spans-inside : (bytes : List ℕ) (tokens : List Token)
    → AreTokens 0 bytes tokens → All (λ t. (t.span.start ≤ t.span.end) × (t.span.end ≤ length bytes)) tokens
spans-inside bytes tokens of_bytes k t within =
    let inside = tokens-below 0 bytes tokens of_bytes k t within in (omega (arith, inside.0), inside.1)

-- a stray token begins in the file
pub stray-inside : (bytes : List ℕ) (tokens : List Token) (offset : ℕ)
    → AreTokens 0 bytes tokens → IsStray bytes tokens offset → offset ≤ length bytes
stray-inside bytes tokens offset of_bytes is =
    stray-within bytes tokens offset (tokens-below 0 bytes tokens of_bytes) is
