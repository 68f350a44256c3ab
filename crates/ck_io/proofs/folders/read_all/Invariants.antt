use Rattle.std.proofs.Common.{◌≡◌, ◌≤◌, ◌-◌, min, vec_len}
use Rattle.ck_io.proofs.Reading.{HasPrefix}
use Rattle.ck_io.proofs.folders.read_all.Given as goal

abbrev pub invariant-loop-chunk : goal.invariant-loop-chunk
invariant-loop-chunk g l = record {
  within : vec_len l.bytes ≤ l.most;
  chunk : vec_len l.chunk ≡ min 65536 l.most;
  kept : g.F.Folder.told l.folder ≡ g.F.Folder.told l.initial.folder;
  no_fault : g.F.Folder.faults l.folder ≡ g.F.Folder.faults l.initial.folder;
  prefix : HasPrefix (g.F.Folder.told l.initial.folder) l.name l.bytes.items;
}

abbrev pub decreases-loop-chunk : goal.decreases-loop-chunk
decreases-loop-chunk g l = l.most - vec_len l.bytes
