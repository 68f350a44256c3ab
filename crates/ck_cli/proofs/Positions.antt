-- The position and the declared calls alone, over the lexemes of texts: what does not look at where a token stands.
use Rattle.std.proofs.Common.{◌≡◌, ℕ, Bool, true, false, cond, List, [], ◌∷◌, ◌++◌, map, Option, Some, None, refl, ap}
use Rattle.std.proofs.Common.{◌∙◌}
use Rattle.std.specs.Prelude.{option_and_then}
use Rattle.std.specs.Option.{option_map}
use Rattle.ck_base.specs.declared.tokens.Token.{Token}
use Rattle.ck_cli.specs.declared.declared.Declared.{Declared}
use Rattle.ck_cli.specs.declared.lexemes.Lexeme.{Lexeme}
use Rattle.ck_cli.specs.declared.position.Position.{Position}
use Rattle.ck_cli.specs.declared.position.Role.{Role}
use Rattle.ck_cli.specs.declared.position.Role.TheVariants.{Prototype, Main, Call, Other}
use Rattle.ck_base.specs.TokenText.{text_of}
use Rattle.ck_cli.specs.FileForm.{texts_of}
use Rattle.ck_cli.specs.Lexemes.{lexeme_of}
use Rattle.ck_cli.specs.Reading.{Progress, declared_with, is_declared, next_position, role_at, noted, after, over}

abbrev pub Stage : Type 0
Stage = Position × Declared

abbrev pub stage : Progress → Stage
stage p = (p.position, p.declared)

abbrev pub marked : Role → Position → Declared → Option Stage
marked (Prototype call) next d = Some (next, declared_with d call)
marked Main next d = Some (next, d)
marked (Call call) next d = cond (is_declared d call) (Some (next, d)) None
marked Other next d = Some (next, d)

abbrev pub steps : Position → Declared → Lexeme → Option Stage
steps position d lexeme =
    option_and_then (λ next. marked (role_at position lexeme) next d) (next_position position lexeme)

abbrev pub goes : Position → Declared → List Lexeme → Option Stage
goes position d [] = Some (position, d)
goes position d (lexeme ∷ lexemes) = option_and_then (λ s. goes s.0 s.1 lexemes) (steps position d lexeme)

abbrev pub lexemes_of : List (List ℕ) → List Lexeme
lexemes_of texts = map lexeme_of texts

map-test : (v : Bool) (p : Progress) → option_map stage (cond v (Some p) None) ≡ cond v (Some (stage p)) None
map-test true p = refl
map-test false p = refl

noted-stage : (role : Role) (start : ℕ) (next : Position) (p : Progress)
    → option_map stage (noted role start next p) ≡ marked role next p.declared
noted-stage (Prototype call) start next p = refl
noted-stage Main start next p = refl
noted-stage (Call call) start next p = map-test (is_declared p.declared call) _
noted-stage Other start next p = refl

after-stage_by : (role : Role) (start : ℕ) (p : Progress) (next : Option Position)
    → option_map stage (option_and_then (λ n. noted role start n p) next) ≡ option_and_then
    (λ n. marked role n p.declared) next
after-stage_by role start p None = refl
after-stage_by role start p (Some next) = noted-stage role start next p

after-stage : (p : Progress) (lexeme : Lexeme) (start : ℕ)
    → option_map stage (after p lexeme start) ≡ steps p.position p.declared lexeme
after-stage p lexeme start = after-stage_by (role_at p.position lexeme) start p (next_position p.position lexeme)

over-stage_by : (bytes : List ℕ) (tokens : List Token) (next : Option Progress)
    → ((p : Progress) → option_map stage (over bytes tokens p) ≡ goes p.position p.declared
    (lexemes_of (texts_of bytes tokens)))
    → option_map stage (option_and_then (over bytes tokens) next) ≡ option_and_then
    (λ s. goes s.0 s.1 (lexemes_of (texts_of bytes tokens))) (option_map stage next)
over-stage_by bytes tokens None rest = refl
over-stage_by bytes tokens (Some p) rest = rest p

pub over-stage : (bytes : List ℕ) (tokens : List Token) (p : Progress)
    → option_map stage (over bytes tokens p) ≡ goes p.position p.declared (lexemes_of (texts_of bytes tokens))
over-stage bytes [] p = refl
over-stage bytes (t ∷ tokens) p =
    over-stage_by bytes tokens (after p (lexeme_of (text_of bytes t)) t.span.start) (over-stage bytes tokens) ∙
    ap (option_and_then (λ s. goes s.0 s.1 (lexemes_of (texts_of bytes tokens))))
    (after-stage p (lexeme_of (text_of bytes t)) t.span.start)

goes-append_by : (more lexemes : List Lexeme) (next : Option Stage)
    → ((s : Stage) → goes s.0 s.1 (lexemes ++ more) ≡ option_and_then (λ r. goes r.0 r.1 more) (goes s.0 s.1 lexemes))
    → option_and_then (λ s. goes s.0 s.1 (lexemes ++ more)) next ≡ option_and_then (λ r. goes r.0 r.1 more)
    (option_and_then (λ s. goes s.0 s.1 lexemes) next)
goes-append_by more lexemes None rest = refl
goes-append_by more lexemes (Some s) rest = rest s

pub goes-append : (position : Position) (d : Declared) (lexemes more : List Lexeme)
    → goes position d (lexemes ++ more) ≡ option_and_then (λ r. goes r.0 r.1 more) (goes position d lexemes)
goes-append position d [] more = refl
goes-append position d (lexeme ∷ lexemes) more =
    goes-append_by more lexemes (steps position d lexeme) (λ s. goes-append s.0 s.1 lexemes more)
