use Rattle.std.proofs.Common.{◌≤◌, length}
use Rattle.ck_summary.specs.Alarms.{alarm_of}
use Rattle.ck_paths.proofs.Links.{LinksTo}
use Rattle.ck_paths.proofs.AlarmPlaces.{IsRaisedOrBelow}
use Rattle.ck_paths.proofs.raising.raised_at.Given as goal

-- the place so far raises the alarm, or one from the link on down does
abbrev pub invariant-links : goal.invariant-links
invariant-links l = record {
  within : l.link ≤ length l.found.places.items;
  there : LinksTo l.found.places.items l.alarm.point.0 l.link;
  raised : IsRaisedOrBelow l.graph l.found.places.items (alarm_of l.alarm) l.earliest l.link;
}

abbrev pub decreases-links : goal.decreases-links
decreases-links l = l.link
