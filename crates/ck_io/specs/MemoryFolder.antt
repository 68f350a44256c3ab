-- A folder in memory: what it shows, and how much it reads.
use Rattle.std.specs.Prelude.{◌≡◌, ℕ, ◌-◌, min, List, length, IfSome}
use Rattle.ck_io.specs.Environment.{Files, bytes_of}
use Rattle.ck_io.specs.MemoryFiles.{files_of}
use Rattle.ck_io.specs.declared.memory_folder.MemoryFolder.{MemoryFolder}

-- its files, in the order in which they were given
abbrev pub folder_files : MemoryFolder → Files
folder_files folder = files_of folder.files.items

-- the numbers of the calls that fail, counted from 1 over all calls
abbrev pub folder_fail : MemoryFolder → List ℕ
folder_fail folder = folder.plan.fail.items

-- how many calls were made so far
abbrev pub folder_calls : MemoryFolder → ℕ
folder_calls folder = folder.plan.calls

-- how many calls failed so far
abbrev pub folder_faults : MemoryFolder → ℕ
folder_faults folder = folder.plan.faults

-- the count is the least of the room in a buffer and the bytes left of the file of this name, from the offset `at` on
abbrev pub FillsFully : Files → List ℕ → ℕ → ℕ → ℕ → Type 0
FillsFully files name at room count = IfSome (bytes_of files name) (λ bytes. count ≡ min room (length bytes - at))
