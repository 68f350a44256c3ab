-- The kernel's own counters over the calls of a file. docs/STATES.md, "The eleven halts".
-- Nothing here knows of system states.
use Rattle.std.specs.Prelude.{◌≡◌, ℕ, pos, List, [], ◌∷◌, None, map}
use Rattle.ck_base.specs.declared.ops.Op.{Op}
use Rattle.ck_base.specs.declared.tokens.Token.{Token}
use Rattle.ck_base.specs.Counters.{Counters, counters, halt_of, moved}
use Rattle.ck_lexer.specs.Tokens.{AreTokens}
use Rattle.ck_cli.specs.FileForm.{FileForm, Spells}
use Rattle.ck_cli.specs.Calls.{op_of}

-- no check of the kernel halts at any of these calls, taken in order from these counters
abbrev pub HaltsNowhere : Counters → List Op → Type 0
HaltsNowhere c [] = Unit {0}
HaltsNowhere c (op ∷ ops) = (halt_of op c ≡ None) × HaltsNowhere (moved op c) ops

-- lock_cnt and isr_cnt begin at 0
abbrev pub KernelHaltsNowhere : FileForm → Type 0
KernelHaltsNowhere form = HaltsNowhere (counters (pos 0) (pos 0)) (map op_of form.calls)

-- the tokens of the bytes are a file of the form, and the kernel halts nowhere on its calls
pub record KernelIsQuiet (bytes : List ℕ) : Type 0 where
  pub tokens : List Token
  pub of_bytes : AreTokens 0 bytes tokens
  pub form : FileForm
  pub spelled : Spells form bytes tokens
  pub halts_nowhere : KernelHaltsNowhere form
