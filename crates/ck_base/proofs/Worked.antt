-- Entries of the state table, as docs/TI, TN, OX, TS, TD, HO, TL, XL, HB, NP, HL, ON, NL, TP, FF, HE.md has them, and
-- the other definitions at work.
use Rattle.std.proofs.Common.{◌≡◌, true, false, pos, Some, None, refl, [], ◌∷◌}
use Rattle.std.specs.Prelude.{codes}
use Rattle.ck_base.specs.declared.ops.Op.TheVariants.{Init, Disable, Suspend, Enable, Lock, Unlock, LockIsr, UnlockIsr}
use Rattle.ck_base.specs.declared.ops.Op.TheVariants.{Prologue, Epilogue, IQuiet, IWakes, SPlain, SWakes, SSettles}
use Rattle.ck_base.specs.declared.ops.Op.TheVariants.{Normal, ExitNormal, ExitS, Free, Halt, HandlerReturn, GetStatus}
use Rattle.ck_base.specs.declared.ops.Op.TheVariants.{RestoreStatus, PairEnter, PairLeft}
use Rattle.ck_base.specs.declared.states.State.TheVariants.{TI, TN, OX, TS, TD, HO, TL, XL, HB, NP, HL, ON, NL, TP, FF}
use Rattle.ck_base.specs.declared.states.State.TheVariants.{HE}
use Rattle.ck_base.specs.declared.states.Kind.TheVariants.{Sv, Order, P}
use Rattle.ck_base.specs.declared.states.Outcome.TheVariants.{Next, Alarm, End}
use Rattle.ck_base.specs.declared.tokens.TokenKind.TheVariants.{Word}
use Rattle.ck_base.specs.Act.{act}
use Rattle.ck_base.specs.Counters.{Thread, Handler, counters, counters_after, kernel_halt}
use Rattle.ck_base.specs.KernelNames.{kernel_name}
use Rattle.ck_base.specs.TokenText.{text_of}
use Rattle.ck_base.specs.CharacterConstants.{character_constant_value, is_character_constant}
use Rattle.ck_base.specs.CharacterConstants.{is_string_literal, string_values}
use Rattle.ck_base.specs.IntegerConstants.{integer_value, is_integer_constant, suffix_of}

Init-TI : act Init TI ≡ Next TN
Init-TI = refl

Init-TN : act Init TN ≡ Alarm (P 4)
Init-TN = refl

Init-OX : act Init OX ≡ Alarm (P 2)
Init-OX = refl

Disable-TS : act Disable TS ≡ Next TD
Disable-TS = refl

Suspend-HO : act Suspend HO ≡ Alarm (Sv 2)
Suspend-HO = refl

Enable-TI : act Enable TI ≡ Alarm (P 4)
Enable-TI = refl

Lock-TN : act Lock TN ≡ Next TL
Lock-TN = refl

Lock-XL : act Lock XL ≡ Alarm (Sv 4)
Lock-XL = refl

Lock-HB : act Lock HB ≡ Alarm (P 2)
Lock-HB = refl

Unlock-TL : act Unlock TL ≡ Next TN
Unlock-TL = refl

Unlock-NP : act Unlock NP ≡ Alarm Order
Unlock-NP = refl

Unlock-XL : act Unlock XL ≡ Alarm (P 8)
Unlock-XL = refl

Unlock-TN : act Unlock TN ≡ Alarm (Sv 5)
Unlock-TN = refl

LockIsr-HO : act LockIsr HO ≡ Next HL
LockIsr-HO = refl

UnlockIsr-ON : act UnlockIsr ON ≡ Alarm (P 8)
UnlockIsr-ON = refl

Prologue-HB : act Prologue HB ≡ Next HO
Prologue-HB = refl

Prologue-NL : act Prologue NL ≡ Alarm (Sv 8)
Prologue-NL = refl

Epilogue-OX : act Epilogue OX ≡ Alarm (Sv 9)
Epilogue-OX = refl

IQuiet-OX : act IQuiet OX ≡ Next OX
IQuiet-OX = refl

IWakes-NL : act IWakes NL ≡ Next NP
IWakes-NL = refl

IWakes-XL : act IWakes XL ≡ Next XL
IWakes-XL = refl

SPlain-TP : act SPlain TP ≡ Next TP
SPlain-TP = refl

SWakes-HL : act SWakes HL ≡ Alarm (Sv 11)
SWakes-HL = refl

SSettles-NP : act SSettles NP ≡ Next NL
SSettles-NP = refl

Normal-TN : act Normal TN ≡ Next TN
Normal-TN = refl

ExitNormal-TN : act ExitNormal TN ≡ End
ExitNormal-TN = refl

ExitS-XL : act ExitS XL ≡ End
ExitS-XL = refl

Free-TS : act Free TS ≡ Next TS
Free-TS = refl

Free-FF : act Free FF ≡ Alarm (P 5)
Free-FF = refl

Halt-FF : act Halt FF ≡ End
Halt-FF = refl

HandlerReturn-HE : act HandlerReturn HE ≡ End
HandlerReturn-HE = refl

HandlerReturn-HO : act HandlerReturn HO ≡ Alarm (P 3)
HandlerReturn-HO = refl

GetStatus-TN : act GetStatus TN ≡ Next XL
GetStatus-TN = refl

GetStatus-TL : act GetStatus TL ≡ Next NL
GetStatus-TL = refl

GetStatus-TP : act GetStatus TP ≡ Next NP
GetStatus-TP = refl

GetStatus-HO : act GetStatus HO ≡ Next OX
GetStatus-HO = refl

GetStatus-HL : act GetStatus HL ≡ Next ON
GetStatus-HL = refl

GetStatus-NL : act GetStatus NL ≡ Alarm (P 6)
GetStatus-NL = refl

GetStatus-HB : act GetStatus HB ≡ Alarm (Sv 6)
GetStatus-HB = refl

GetStatus-TD : act GetStatus TD ≡ Alarm (P 4)
GetStatus-TD = refl

RestoreStatus-XL : act RestoreStatus XL ≡ Next TN
RestoreStatus-XL = refl

RestoreStatus-NL : act RestoreStatus NL ≡ Next TL
RestoreStatus-NL = refl

RestoreStatus-NP : act RestoreStatus NP ≡ Next TP
RestoreStatus-NP = refl

RestoreStatus-OX : act RestoreStatus OX ≡ Next HO
RestoreStatus-OX = refl

RestoreStatus-ON : act RestoreStatus ON ≡ Next HL
RestoreStatus-ON = refl

RestoreStatus-TN : act RestoreStatus TN ≡ Alarm (P 7)
RestoreStatus-TN = refl

PairEnter-HO : act PairEnter HO ≡ Next HO
PairEnter-HO = refl

PairEnter-ON : act PairEnter ON ≡ Alarm (P 6)
PairEnter-ON = refl

PairLeft-TP : act PairLeft TP ≡ Next TP
PairLeft-TP = refl

PairLeft-XL : act PairLeft XL ≡ Alarm (P 8)
PairLeft-XL = refl

PairLeft-FF : act PairLeft FF ≡ Next FF
PairLeft-FF = refl

-- A restore of a status that found nothing locked halts in a thread as chSchRescheduleS, in a handler as
-- chSysUnlockFromISR; of one that found a critical section it does nothing.
restore_in_a_thread : kernel_halt RestoreStatus Thread (Some false) (counters (pos 0) (pos 0)) ≡ Some 11
restore_in_a_thread = refl

restore_in_a_handler : kernel_halt RestoreStatus Handler (Some false) (counters (pos 1) (pos 0)) ≡ Some 7
restore_in_a_handler = refl

restore_of_locked : kernel_halt RestoreStatus Thread (Some true) (counters (pos 0) (pos 0)) ≡ None
restore_of_locked = refl

-- chSysGetStatusAndLockX enters a critical section where there is none
get_in_a_handler : counters_after GetStatus Handler None (counters (pos 1) (pos 0)) ≡ counters (pos 1) (pos 1)
get_in_a_handler = refl

a_kernel_name : kernel_name (codes "chSysLock") ≡ true
a_kernel_name = refl

an_interrupt_name : kernel_name (codes "CH_IRQ_EPILOGUE") ≡ true
an_interrupt_name = refl

no_kernel_name : kernel_name (codes "chair") ≡ false
no_kernel_name = refl

a_token : text_of (codes "int x;") (record { kind = Word; span = record { file = 0; start = 4; end = 5 } }) ≡ codes "x"
a_token = refl

-- integer constants: base, value and suffix
decimal_value : integer_value (codes "1024ul") ≡ 1024
decimal_value = refl

octal_value : integer_value (codes "0777") ≡ 511
octal_value = refl

hexadecimal_value : integer_value (codes "0xDeadBeefLLU") ≡ 3735928559
hexadecimal_value = refl

zero_value : integer_value (codes "0") ≡ 0
zero_value = refl

greatest_constant : is_integer_constant (codes "18446744073709551615u") ≡ true
unfolding is_integer_constant
greatest_constant = refl

too_great : is_integer_constant (codes "9223372036854775808") ≡ false
unfolding is_integer_constant
too_great = refl

no_octal : is_integer_constant (codes "09") ≡ false
unfolding is_integer_constant
no_octal = refl

no_digit : is_integer_constant (codes "0xu") ≡ false
unfolding is_integer_constant
no_digit = refl

suffix : suffix_of 16 (codes "0x1fuL") ≡ codes "uL"
suffix = refl

-- characters: plain, simple escapes, octal and hexadecimal ones up to 255
plain_character : character_constant_value (codes "'A'") ≡ 65
plain_character = refl

line_feed : character_constant_value (codes "'\\n'") ≡ 10
line_feed = refl

bell : character_constant_value (codes "'\\a'") ≡ 7
bell = refl

quote : character_constant_value (codes "'\\''") ≡ 39
quote = refl

octal_escape : character_constant_value (codes "'\\377'") ≡ 255
octal_escape = refl

hexadecimal_escape : character_constant_value (codes "'\\x0041'") ≡ 65
hexadecimal_escape = refl

past_a_byte : is_character_constant (codes "'\\400'") ≡ false
unfolding is_character_constant
past_a_byte = refl

unknown_escape : is_character_constant (codes "'\\q'") ≡ false
unfolding is_character_constant
unknown_escape = refl

two_characters : is_character_constant (codes "'\\1234'") ≡ false
unfolding is_character_constant
two_characters = refl

-- in a string literal an octal escape ends after three digits, and a hexadecimal one after all
octal_in_a_string : string_values (codes "\"\\1234\"") ≡ 83 ∷ 52 ∷ []
octal_in_a_string = refl

mixed_string : string_values (codes "\"a\\0\\x41g\\\"\"") ≡ 97 ∷ 0 ∷ 65 ∷ 103 ∷ 34 ∷ []
mixed_string = refl

long_escape : is_string_literal (codes "\"\\x100\"") ≡ false
unfolding is_string_literal
long_escape = refl

empty_string : string_values (codes "\"\"") ≡ []
empty_string = refl
