-- The segments of a path lead to the alarm that its last place raises.
use Rattle.std.proofs.Common.{◌≡◌, ℕ, ◌++◌, List, ap, ◌∙◌}
use Rattle.ck_base.specs.declared.states.State.{State}
use Rattle.ck_graph.specs.declared.entries.Root.{Root}
use Rattle.ck_graph.specs.Flow.{Flow}
use Rattle.ck_graph.specs.Faults.{IsSound}
use Rattle.ck_graph.specs.Steps.{kind_at}
use Rattle.ck_graph.specs.Forbidden.{PointAlarm, alarm_in}
use Rattle.ck_segments.specs.Plain.{PlainSegment}
use Rattle.ck_segments.specs.Paths.{IsPathToAlarm}
use Rattle.ck_segments.proofs.Fitting.{walks}
use Rattle.ck_paths.specs.declared.found.Place.{Place}
use Rattle.ck_paths.specs.declared.found.Reason.TheVariants.{AtRoot}
use Rattle.ck_paths.specs.Found.{IsAt}
use Rattle.ck_paths.specs.Justified.{AreJustified, StartsAt}
use Rattle.ck_paths.specs.Citing.{AreExitsFor}
use Rattle.ck_paths.specs.Search.{IsReady}
use Rattle.ck_paths.specs.Tracing.{AreToExits, AreOpen, IsRaisedAt}
use Rattle.ck_paths.proofs.Citations.{holds}
use Rattle.ck_paths.proofs.Whole.{in-form, fits}

pub path-to : (flow : Flow) (sound : IsSound flow) (roots : List Root) (places : List Place) (last : List ℕ)
    (ready : IsReady flow places last) (all : AreJustified flow roots places) (n : ℕ) (exits : List ℕ)
    (are : AreExitsFor flow places n exits) (finished : List PlainSegment)
    (to_exits : AreToExits flow places exits finished) (alarm : PointAlarm) → IsRaisedAt flow places alarm n →
    (unfinished : List PlainSegment) (entry k : ℕ) (start : Place) → IsAt places entry start →
    start.reason ≡ AtRoot k → AreOpen flow places exits entry unfinished n →
    (list : List PlainSegment) → list ≡ finished ++ unfinished →
    IsPathToAlarm flow roots (record { root = k; list = list }) alarm
unfolding in-form
path-to flow sound roots places last ready all n exits are finished to_exits alarm raised unfinished entry k start at
    root are_open list parts =
    let end : Place = raised.place in
    let starts : StartsAt flow roots k start = holds flow roots places all entry start (AtRoot k) at root in
    let form =
    in-form flow sound roots places last ready all n exits are finished to_exits end raised.at unfinished entry k start
    at root are_open list parts in
    let fit =
    fits flow sound roots places last ready all n exits are finished to_exits end raised.at unfinished entry k start at
    root starts are_open in
    let walk = walks flow sound starts.root list form end.point.0 end.to fit in
    record {
      form = form;
      leads = record {
        root = starts.root;
        listed = starts.listed;
        configuration = walk.configuration;
        walked = walk.walked;
        there = walk.point_is ∙ raised.there;
        forbidden =
            ap (λ (p : ℕ). alarm_in (kind_at flow p) walk.configuration.state) walk.point_is ∙
            (ap (λ (s : State). alarm_in (kind_at flow end.point.0) s) walk.state_is ∙ raised.raised);
      };
    }
