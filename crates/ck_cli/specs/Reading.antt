-- How the file form is read, token by token. proofs/FormSound.antt and
-- proofs/FormComplete.antt join it with FileForm and Stray, in both directions.
use Rattle.std.specs.Prelude.{◌≡◌, ◌<◌, ℕ, ◌+◌, Bool, true, false, List, [], ◌∷◌, ◌++◌, length, take, Option, Some}
use Rattle.std.specs.Prelude.{None, option_and_then, if◌then◌else◌}
use Rattle.ck_base.specs.declared.tokens.Token.{Token}
use Rattle.ck_cli.specs.declared.calls.KernelCall.{KernelCall}
use Rattle.ck_cli.specs.declared.calls.KernelCall.TheVariants.{Init, Disable, Suspend, Enable, Lock, Unlock}
use Rattle.ck_cli.specs.declared.declared.Declared.{Declared}
use Rattle.ck_cli.specs.declared.form.Call.{Call}
use Rattle.ck_cli.specs.declared.form.Reading.{Reading}
use Rattle.ck_cli.specs.declared.form.Reading.TheVariants.{Form, Stray}
use Rattle.ck_cli.specs.declared.lexemes.Lexeme.{Lexeme}
use Rattle.ck_cli.specs.declared.lexemes.Lexeme.TheVariants as L
use Rattle.ck_cli.specs.declared.position.Position.{Position}
use Rattle.ck_cli.specs.declared.position.Position.TheVariants.{Outside, PrototypeName, PrototypeOpen, PrototypeVoid}
use Rattle.ck_cli.specs.declared.position.Position.TheVariants.{PrototypeClose, PrototypeEnd, MainName, MainOpen}
use Rattle.ck_cli.specs.declared.position.Position.TheVariants.{MainVoid, MainClose, MainBrace, Body, CallOpen}
use Rattle.ck_cli.specs.declared.position.Position.TheVariants.{CallClose, CallEnd, End}
use Rattle.ck_cli.specs.declared.position.Role.{Role}
use Rattle.ck_cli.specs.declared.position.Role.TheVariants as R
use Rattle.ck_base.specs.TokenText.{text_of}
use Rattle.ck_cli.specs.FileForm.{token_start}
use Rattle.ck_cli.specs.Lexemes.{lexeme_of}

-- which calls have a prototype
abbrev pub none_declared : Declared
none_declared = record { init = false; disable = false; suspend = false; enable = false; lock = false; unlock = false }

abbrev pub declared_with : Declared → KernelCall → Declared
declared_with d Init = record d { init = true }
declared_with d Disable = record d { disable = true }
declared_with d Suspend = record d { suspend = true }
declared_with d Enable = record d { enable = true }
declared_with d Lock = record d { lock = true }
declared_with d Unlock = record d { unlock = true }

abbrev pub is_declared : Declared → KernelCall → Bool
is_declared d Init = d.init
is_declared d Disable = d.disable
is_declared d Suspend = d.suspend
is_declared d Enable = d.enable
is_declared d Lock = d.lock
is_declared d Unlock = d.unlock

abbrev pub declared_by : Declared → List KernelCall → Declared
declared_by d [] = d
declared_by d (call ∷ calls) = declared_by (declared_with d call) calls

-- the position after a token
abbrev pub next_position : Position → Lexeme → Option Position
next_position Outside L.Void = Some PrototypeName
next_position PrototypeName (L.Kernel call) = Some PrototypeOpen
next_position PrototypeOpen L.Open = Some PrototypeVoid
next_position PrototypeVoid L.Void = Some PrototypeClose
next_position PrototypeClose L.Close = Some PrototypeEnd
next_position PrototypeEnd L.Semicolon = Some Outside
next_position Outside L.Int = Some MainName
next_position MainName L.Main = Some MainOpen
next_position MainOpen L.Open = Some MainVoid
next_position MainVoid L.Void = Some MainClose
next_position MainClose L.Close = Some MainBrace
next_position MainBrace L.LeftBrace = Some Body
next_position Body (L.Kernel call) = Some CallOpen
next_position CallOpen L.Open = Some CallClose
next_position CallClose L.Close = Some CallEnd
next_position CallEnd L.Semicolon = Some Body
next_position Body L.RightBrace = Some End
next_position _ _ = None

-- what a token says
abbrev pub role_at : Position → Lexeme → Role
role_at PrototypeName (L.Kernel call) = R.Prototype call
role_at MainName L.Main = R.Main
role_at Body (L.Kernel call) = R.Call call
role_at _ _ = R.Other

-- what is read of a file so far
pub record Progress : Type 0 where
  pub position : Position
  pub declared : Declared
  pub main : ℕ
  pub calls : List Call

abbrev pub beginning : Progress
beginning = record { position = Outside; declared = none_declared; main = 0; calls = [] }

-- with a token of this role that begins at an offset, at a new position
abbrev pub noted : Role → ℕ → Position → Progress → Option Progress
noted (R.Prototype call) start next p =
    Some (record { position = next; declared = declared_with p.declared call; main = p.main; calls = p.calls })
noted R.Main start next p = Some (record { position = next; declared = p.declared; main = start; calls = p.calls })
noted (R.Call call) start next p =
    if is_declared p.declared call
    then Some (record p { position = next; calls = p.calls ++ record { call = call; start = start } ∷ [] })
    else None
noted R.Other start next p = Some (record { position = next; declared = p.declared; main = p.main; calls = p.calls })

-- with a token more, where a file of the form can go on after it
abbrev pub after : Progress → Lexeme → ℕ → Option Progress
after p lexeme start =
    option_and_then (λ next. noted (role_at p.position lexeme) start next p) (next_position p.position lexeme)

-- over the tokens of some bytes
abbrev pub over : List ℕ → List Token → Progress → Option Progress
over bytes [] p = Some p
over bytes (t ∷ tokens) p = option_and_then (over bytes tokens) (after p (lexeme_of (text_of bytes t)) t.span.start)

-- the end of a file at an offset
abbrev pub IsEnded : Progress → ℕ → Reading → Type 0
IsEnded p offset (Form form) = (p.position ≡ End) × (p.main ≡ form.main) × (p.calls ≡ form.calls.items)
IsEnded p offset (Stray start) = (p.position ≡ End → ⊥) × (start ≡ offset)

-- what the tokens of some bytes are read as: to their end, or up to one that can't be read
pub data IsReading (bytes : List ℕ) (tokens : List Token) (reading : Reading) : Type 0 where
  whole : (p : Progress) → over bytes tokens beginning ≡ Some p → IsEnded p (length bytes) reading
      → IsReading bytes tokens reading
  stopped : (n : ℕ) (p : Progress) → n < length tokens → over bytes (take n tokens) beginning ≡ Some p
      → over bytes (take (n + 1) tokens) beginning ≡ None → reading ≡ Stray (token_start tokens n)
      → IsReading bytes tokens reading
