-- The kernel's call table: one line a call, in the order of the rows, which are numbered from 0. docs/KERNEL.md has the
-- same rows in the same order, with their prototypes (ChibiOS/RT Reference Manual).
use Rattle.std.specs.Prelude.{ℕ, List, [], ◌∷◌, Option, length, ◌<◌, codes, slice_get, position}
use Prim.Native.String.{String}
use Rattle.std.specs.Option.{option_map}
use Rattle.std.specs.Str.{bytes_eq}
use Rattle.ck_base.specs.declared.ops.Op.{Op}
use Rattle.ck_base.specs.declared.ops.Op.TheVariants.{Init, Halt, Disable, Suspend, Enable, Lock, Unlock, LockIsr}
use Rattle.ck_base.specs.declared.ops.Op.TheVariants.{UnlockIsr, Prologue, Epilogue, IQuiet, IWakes, SPlain, SWakes}
use Rattle.ck_base.specs.declared.ops.Op.TheVariants.{SSettles, Normal, ExitNormal, ExitS, Free, GetStatus}
use Rattle.ck_base.specs.declared.ops.Op.TheVariants.{RestoreStatus}
use Rattle.ck_base.specs.declared.spans.RowId.{RowId}
use Rattle.ck_kernel.specs.declared.entries.EntrySink.{EntrySink}
use Rattle.ck_kernel.specs.declared.entries.EntrySink.TheVariants.{Absent, Thread, Descriptor, Timer}

-- a kernel call: its name, what it does to the system state, its number of parameters, and the parameter that becomes
-- the function of a thread or of a timer
pub record KernelCall : Type 0 where
  pub name : List ℕ
  pub op : Op
  pub parameters : ℕ
  pub entry : EntrySink

abbrev pub call : String → Op → ℕ → EntrySink → KernelCall
call name op parameters entry = record { name = codes name; op = op; parameters = parameters; entry = entry }

unfoldable pub kernel_table : List KernelCall
kernel_table =
    -- the system, and the ends of a handler
    call "chSysInit" Init 0 Absent ∷
    call "chSysDisable" Disable 0 Absent ∷
    call "chSysSuspend" Suspend 0 Absent ∷
    call "chSysEnable" Enable 0 Absent ∷
    call "chSysLock" Lock 0 Absent ∷
    call "chSysUnlock" Unlock 0 Absent ∷
    call "chSysLockFromISR" LockIsr 0 Absent ∷
    call "chSysUnlockFromISR" UnlockIsr 0 Absent ∷
    call "CH_IRQ_PROLOGUE" Prologue 0 Absent ∷
    call "CH_IRQ_EPILOGUE" Epilogue 0 Absent ∷
    call "chSysHalt" Halt 1 Absent ∷
    -- the normal class
    call "chThdCreateStatic" Normal 5 (Thread 4) ∷
    call "chThdCreate" Normal 1 Descriptor ∷
    call "chThdCreateSuspended" Normal 1 Descriptor ∷
    call "chThdStart" Normal 1 Absent ∷
    call "chThdSetPriority" Normal 1 Absent ∷
    call "chThdSleepUntil" Normal 1 Absent ∷
    call "chThdSleepUntilWindowed" Normal 2 Absent ∷
    call "chThdTerminate" Normal 1 Absent ∷
    call "chThdSleep" Normal 1 Absent ∷
    call "chThdYield" Normal 0 Absent ∷
    call "chThdResume" Normal 2 Absent ∷
    call "chThdWait" Normal 1 Absent ∷
    call "chSemReset" Normal 2 Absent ∷
    call "chSemWait" Normal 1 Absent ∷
    call "chSemWaitTimeout" Normal 2 Absent ∷
    call "chSemSignal" Normal 1 Absent ∷
    call "chSemSignalWait" Normal 2 Absent ∷
    call "chBSemWait" Normal 1 Absent ∷
    call "chBSemWaitTimeout" Normal 2 Absent ∷
    call "chBSemReset" Normal 2 Absent ∷
    call "chBSemSignal" Normal 1 Absent ∷
    call "chMtxLock" Normal 1 Absent ∷
    call "chMtxTryLock" Normal 1 Absent ∷
    call "chMtxUnlock" Normal 1 Absent ∷
    call "chMtxUnlockAll" Normal 0 Absent ∷
    call "chCondSignal" Normal 1 Absent ∷
    call "chCondBroadcast" Normal 1 Absent ∷
    call "chCondWait" Normal 1 Absent ∷
    call "chEvtRegisterMask" Normal 3 Absent ∷
    call "chEvtUnregister" Normal 2 Absent ∷
    call "chEvtGetAndClearEvents" Normal 1 Absent ∷
    call "chEvtAddEvents" Normal 1 Absent ∷
    call "chEvtSignal" Normal 2 Absent ∷
    call "chEvtBroadcastFlags" Normal 2 Absent ∷
    call "chEvtBroadcast" Normal 1 Absent ∷
    call "chEvtWaitOne" Normal 1 Absent ∷
    call "chEvtWaitAny" Normal 1 Absent ∷
    call "chEvtWaitAll" Normal 1 Absent ∷
    call "chEvtWaitOneTimeout" Normal 2 Absent ∷
    call "chEvtWaitAnyTimeout" Normal 2 Absent ∷
    call "chEvtWaitAllTimeout" Normal 2 Absent ∷
    call "chMsgSend" Normal 2 Absent ∷
    call "chMsgWait" Normal 0 Absent ∷
    call "chMsgRelease" Normal 2 Absent ∷
    call "chMsgGet" Normal 1 Absent ∷
    call "chMBReset" Normal 1 Absent ∷
    call "chMBPostTimeout" Normal 3 Absent ∷
    call "chMBPostAheadTimeout" Normal 3 Absent ∷
    call "chMBFetchTimeout" Normal 3 Absent ∷
    call "chVTSet" Normal 4 (Timer 3) ∷
    call "chVTReset" Normal 1 Absent ∷
    call "chVTIsArmed" Normal 1 Absent ∷
    call "chVTGetSystemTime" Normal 0 Absent ∷
    call "chHeapAlloc" Normal 2 Absent ∷
    call "chHeapFree" Normal 1 Absent ∷
    call "chCoreAlloc" Normal 1 Absent ∷
    -- the ends of a thread
    call "chThdExit" ExitNormal 1 Absent ∷
    call "chThdExitS" ExitS 1 Absent ∷
    -- I-class calls that may wake a thread
    call "chThdCreateI" IWakes 1 Descriptor ∷
    call "chThdStartI" IWakes 1 Absent ∷
    call "chThdResumeI" IWakes 2 Absent ∷
    call "chThdDequeueNextI" IWakes 2 Absent ∷
    call "chThdDequeueAllI" IWakes 2 Absent ∷
    call "chSemResetI" IWakes 2 Absent ∷
    call "chSemSignalI" IWakes 1 Absent ∷
    call "chSemAddCounterI" IWakes 2 Absent ∷
    call "chBSemResetI" IWakes 2 Absent ∷
    call "chBSemSignalI" IWakes 1 Absent ∷
    call "chCondSignalI" IWakes 1 Absent ∷
    call "chCondBroadcastI" IWakes 1 Absent ∷
    call "chEvtSignalI" IWakes 2 Absent ∷
    call "chEvtBroadcastFlagsI" IWakes 2 Absent ∷
    call "chEvtBroadcastI" IWakes 1 Absent ∷
    call "chMBResetI" IWakes 1 Absent ∷
    call "chMBPostI" IWakes 2 Absent ∷
    call "chMBPostAheadI" IWakes 2 Absent ∷
    call "chMBFetchI" IWakes 2 Absent ∷
    -- I-class calls that wake none
    call "chThdCreateSuspendedI" IQuiet 1 Descriptor ∷
    call "chSemFastSignalI" IQuiet 1 Absent ∷
    call "chSemFastWaitI" IQuiet 1 Absent ∷
    call "chSemGetCounterI" IQuiet 1 Absent ∷
    call "chBSemGetStateI" IQuiet 1 Absent ∷
    call "chMBGetUsedCountI" IQuiet 1 Absent ∷
    call "chMBGetFreeCountI" IQuiet 1 Absent ∷
    call "chVTSetI" IQuiet 4 (Timer 3) ∷
    call "chVTDoSetI" IQuiet 4 (Timer 3) ∷
    call "chVTResetI" IQuiet 1 Absent ∷
    call "chVTDoResetI" IQuiet 1 Absent ∷
    call "chVTIsArmedI" IQuiet 1 Absent ∷
    call "chSchIsRescRequiredI" IQuiet 0 Absent ∷
    call "chCoreAllocI" IQuiet 1 Absent ∷
    -- S-class calls that always reschedule
    call "chSchRescheduleS" SSettles 0 Absent ∷
    call "chThdSleepS" SSettles 1 Absent ∷
    call "chThdSuspendS" SSettles 1 Absent ∷
    call "chCondWaitS" SSettles 1 Absent ∷
    -- S-class calls that may wake a thread and don't reschedule
    call "chMtxUnlockS" SWakes 1 Absent ∷
    -- S-class calls that leave a due reschedule due
    call "chThdSuspendTimeoutS" SPlain 2 Absent ∷
    call "chThdResumeS" SPlain 2 Absent ∷
    call "chThdEnqueueTimeoutS" SPlain 2 Absent ∷
    call "chSemWaitS" SPlain 1 Absent ∷
    call "chSemWaitTimeoutS" SPlain 2 Absent ∷
    call "chBSemWaitS" SPlain 1 Absent ∷
    call "chBSemWaitTimeoutS" SPlain 2 Absent ∷
    call "chMtxLockS" SPlain 1 Absent ∷
    call "chMtxTryLockS" SPlain 1 Absent ∷
    call "chMBPostTimeoutS" SPlain 3 Absent ∷
    call "chMBPostAheadTimeoutS" SPlain 3 Absent ∷
    call "chMBFetchTimeoutS" SPlain 3 Absent ∷
    -- calls that are allowed in any state
    call "chRegSetThreadName" Free 1 Absent ∷
    call "chThdGetSelfX" Free 0 Absent ∷
    call "chThdGetPriorityX" Free 0 Absent ∷
    call "chThdShouldTerminateX" Free 0 Absent ∷
    call "chThdTerminatedX" Free 1 Absent ∷
    call "chVTGetSystemTimeX" Free 0 Absent ∷
    call "chVTTimeElapsedSinceX" Free 1 Absent ∷
    call "chSemObjectInit" Free 2 Absent ∷
    call "chBSemObjectInit" Free 2 Absent ∷
    call "chMtxObjectInit" Free 1 Absent ∷
    call "chCondObjectInit" Free 1 Absent ∷
    call "chEvtObjectInit" Free 1 Absent ∷
    call "chMBObjectInit" Free 3 Absent ∷
    call "chVTObjectInit" Free 1 Absent ∷
    call "chThdQueueObjectInit" Free 1 Absent ∷
    -- the status pair
    call "chSysGetStatusAndLockX" GetStatus 0 Absent ∷
    call "chSysRestoreStatusX" RestoreStatus 1 Absent ∷
    []

-- a row of the table
abbrev pub IsRow : RowId → Type 0
IsRow row = row.0 < length kernel_table

-- the call of a row, if the table has that row
abbrev pub call_at : RowId → Option KernelCall
call_at row = slice_get kernel_table row.0

abbrev pub row_numbered : ℕ → RowId
row_numbered k = record { 0 = k }

-- the row of the call of this name, if there is one
abbrev pub row_named : List ℕ → Option RowId
row_named text = option_map row_numbered (position (λ c. bytes_eq c.name text) kernel_table)
