-- The files that pairs of a name and bytes stand for.
use Rattle.std.specs.Prelude.{ℕ, List, map, string_bytes}
use Rattle.std.specs.declared.string.String.{String}
use Rattle.std.specs.declared.vec.Vec.{Vec}
use Rattle.std.specs.Global.{Global}
use Rattle.ck_io.specs.Environment.{File, Files}

-- a pair of a name and bytes, as a file
abbrev pub file_of : String Global × Vec ℕ Global → File
file_of pair = record { name = string_bytes pair.0; bytes = pair.1.items }

-- the pairs, in order, as files
abbrev pub files_of : List (String Global × Vec ℕ Global) → Files
files_of pairs = map file_of pairs
