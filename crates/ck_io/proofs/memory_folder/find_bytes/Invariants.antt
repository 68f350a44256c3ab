use Rattle.std.proofs.Common.{◌≡◌, drop}
use Rattle.ck_io.specs.Environment.{bytes_of}
use Rattle.ck_io.specs.MemoryFiles.{files_of}
use Rattle.ck_io.proofs.memory_folder.find_bytes.Given as goal

abbrev pub invariant-loop-file_name : goal.invariant-loop-file_name
invariant-loop-file_name l =
    bytes_of (files_of l.files) l.name ≡ bytes_of (files_of (drop l.file_name-index l.files)) l.name
