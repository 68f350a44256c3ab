-- What a row of the code says, in the words of the definition. Private contracts alone speak of it.
use Rattle.ck_kernel.specs.declared.calls.Call.{Call}
use Rattle.ck_kernel.specs.KernelTable.{KernelCall}

abbrev pub shown : Call → KernelCall
shown c = record { name = c.name.now; op = c.op; parameters = c.parameters; entry = c.entry }
