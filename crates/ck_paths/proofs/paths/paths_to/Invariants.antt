use Rattle.std.proofs.Common.{◌≡◌, map, take}
use Rattle.std.specs.List.{All}
use Rattle.ck_paths.specs.Promise.{HasPath, at_of}
use Rattle.ck_paths.proofs.paths.paths_to.Given as goal

-- the alarms so far, each with a path
abbrev pub invariant-loop-alarm : goal.invariant-loop-alarm
invariant-loop-alarm l = record {
  same : map at_of l.list.items ≡ take l.alarm-index l.alarms;
  paths : All (HasPath l.graph l.roots.list.items) l.list.items;
}
