-- The kernel calls of the file form: their names in C, and their ops.
use Rattle.std.specs.Prelude.{ℕ, List, [], ◌∷◌, codes}
use Rattle.ck_base.specs.declared.ops.Op.{Op}
use Rattle.ck_base.specs.declared.ops.Op.TheVariants as OpVariant
use Rattle.ck_cli.specs.declared.calls.KernelCall.{KernelCall}
use Rattle.ck_cli.specs.declared.calls.KernelCall.TheVariants.{Init, Disable, Suspend, Enable, Lock, Unlock}

abbrev pub name_of : KernelCall → List ℕ
name_of Init = codes "chSysInit"
name_of Disable = codes "chSysDisable"
name_of Suspend = codes "chSysSuspend"
name_of Enable = codes "chSysEnable"
name_of Lock = codes "chSysLock"
name_of Unlock = codes "chSysUnlock"

abbrev pub op_of : KernelCall → Op
op_of Init = OpVariant.Init
op_of Disable = OpVariant.Disable
op_of Suspend = OpVariant.Suspend
op_of Enable = OpVariant.Enable
op_of Lock = OpVariant.Lock
op_of Unlock = OpVariant.Unlock

abbrev pub every_call : List KernelCall
every_call = Init ∷ Disable ∷ Suspend ∷ Enable ∷ Lock ∷ Unlock ∷ []
