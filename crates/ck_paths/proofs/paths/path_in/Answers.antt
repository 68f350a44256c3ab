use Rattle.std.proofs.Common.{◌≡◌, ◌++◌, ℕ, List, map, ap, ◌∙◌, subst}
use Rattle.std.proofs.lemmas.List.{map-append}
use Rattle.ck_segments.specs.declared.segments.Segment.{Segment}
use Rattle.ck_segments.specs.Plain.{PlainSegment, segment_of}
use Rattle.ck_summary.specs.Alarms.{alarm_of}
use Rattle.ck_paths.specs.Tracing.{AreToExits, AreOpen}
use Rattle.ck_paths.proofs.Arriving.{path-to}
use Rattle.ck_paths.proofs.paths.path_in.Goals as goal

pub returns : goal.returns
returns c =
    let flow = c.args.graph.now in
    let places = c.args.found.now.places.items in
    let n : ℕ = c.raised_at-number.result in
    let exits : List ℕ = c.in_ok-exits.exits.items in
    let finished : List PlainSegment = map segment_of c.in_ok-list.list.items in
    let unfinished : List PlainSegment = map segment_of c.in_ok-opened.opened.list.items in
    let entry : ℕ = c.in_ok-opened.opened.entry in
    let root = c.in_ok-opened.ensures.root in
    let to_exits : AreToExits flow places exits finished =
    subst (λ (xs : List ℕ). AreToExits flow places xs finished) c.deref.ensures.value c.in_ok-list.ensures in
    let are_open : AreOpen flow places exits entry unfinished n =
    subst (λ (xs : List ℕ). AreOpen flow places xs entry unfinished n) c.deref-2.ensures.value
    c.in_ok-opened.ensures.open_ones in
    let items : c.append.new.self.items ≡ c.in_ok-list.list.items ++ c.in_ok-opened.opened.list.items =
    c.in_ok-append.ensures.items in
    let parts : map segment_of c.append.new.self.items ≡ finished ++ unfinished =
    ap (λ (xs : List Segment). map segment_of xs) items ∙
    map-append segment_of c.in_ok-list.list.items c.in_ok-opened.opened.list.items in
    path-to flow c.points-points.ensures.sound c.args.roots.now places c.args.found.now.last.items c.requires.ready
    c.requires.justified n exits c.in_ok-exits.ensures finished to_exits (alarm_of c.args.alarm.now)
    c.raised_at-number.ensures unfinished entry c.in_ok-opened.opened.root root.0 root.1 root.2 are_open
    (map segment_of c.append.new.self.items) parts
