use Rattle.std.proofs.Common.{◌≡◌, map, take, string_bytes}
use Rattle.ck_io.specs.Environment.{names_of}
use Rattle.ck_io.specs.MemoryFiles.{files_of}
use Rattle.ck_io.proofs.memory_folder.copy_names.Given as goal

abbrev pub invariant-loop-name : goal.invariant-loop-name
invariant-loop-name l = map string_bytes l.names.items ≡ names_of (files_of (take l.name-index l.files))
