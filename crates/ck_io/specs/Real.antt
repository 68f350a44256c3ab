-- What the real folder and the standard output show.
use Rattle.std.specs.Prelude.{ℕ}
use Rattle.ck_io.specs.declared.real.RealFolder.{RealFolder}
use Rattle.ck_io.specs.declared.real.RealSink.{RealSink}

-- how many calls on the folder failed so far
abbrev pub real_folder_faults : {R F D : Type 0} → RealFolder R F D → ℕ
real_folder_faults folder = folder.faults

-- how many writes failed so far
abbrev pub real_sink_faults : {R : Type 0} → RealSink R → ℕ
real_sink_faults sink = sink.faults
