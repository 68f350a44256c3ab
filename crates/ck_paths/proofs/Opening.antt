-- The unfinished segments, as they are found from the last on.
use Rattle.std.proofs.Common.{◌≡◌, ℕ, ◌<◌, ◌++◌, true, false, List, [], ◌∷◌, length, map, reverse, refl, sym, ap, ◌∙◌}
use Rattle.std.proofs.Common.{subst}
use Rattle.std.proofs.lemmas.List.{reverse-append}
use Rattle.std.proofs.lemmas.Option.{slice_get_within}
use Rattle.ck_base.specs.declared.spans.FnId.{FnId}
use Rattle.ck_graph.specs.declared.entries.Root.{Root}
use Rattle.ck_graph.specs.Flow.{Flow}
use Rattle.ck_segments.specs.declared.segments.Segment.{Segment}
use Rattle.ck_segments.specs.Plain.{PlainSegment, segment_of}
use Rattle.ck_paths.specs.declared.found.Place.{Place}
use Rattle.ck_paths.specs.declared.found.Reason.TheVariants.{IntoCall}
use Rattle.ck_paths.specs.Justified.{AreJustified, Enters}
use Rattle.ck_paths.specs.Citing.{Cites, over, before, by_edge, in_caller}
use Rattle.ck_paths.specs.Tracing.{own_function, IsEntryAt, IsSegmentInto, IsEnteredFrom, AreOpen}
use Rattle.ck_paths.proofs.Citations.{one, holds}

-- what is cited inside a call is cited where the way goes on in the callers
pub widen : (places : List Place) (n x : ℕ) → Cites places false n x → Cites places true n x
widen places n x (over m c y place at is) = over n c x place at is
widen places n x (before m c e y place at is h) = before n c e x place at is (widen places c x h)
widen places n x (by_edge m b k y place at is h) = by_edge n b k x place at is (widen places b x h)
widen places n x (in_caller m c y place onward at is h) = absurd (cc)

pub caller-there : (flow : Flow) (roots : List Root) (places : List Place) (e c : ℕ) → AreJustified flow roots places →
    IsEnteredFrom places e c → (c < e) × (c < length places)
caller-there flow roots places e c all from =
    let enters : Enters flow places e c from.place = holds flow roots places all e from.place (IntoCall c) from.at
    from.cause in
    (enters.earlier, slice_get_within places c enters.caller enters.at)

pub cited-in_caller : (places : List Place) (e c x : ℕ) → IsEnteredFrom places e c → Cites places true c x →
    Cites places true e x
cited-in_caller places e c x from h = in_caller e c x from.place refl from.at from.cause h

-- one more segment at the front
pub open-more : (flow : Flow) (places : List Place) (exits : List ℕ) (entry e c n : ℕ) (target : FnId)
    (segment : PlainSegment) (segments : List PlainSegment) → (entered : IsEntryAt flow places e) →
    target ≡ own_function flow entered.place → IsEnteredFrom places e c →
    IsSegmentInto flow places exits entry c target segment → AreOpen flow places exits e segments n →
    AreOpen flow places exits entry (segment ∷ segments) n
open-more flow places exits entry e c n target segment [] entered named from into going_on = absurd going_on
open-more flow places exits entry e c n target segment (last ∷ []) entered named from into going_on =
    let same : going_on.entered.place ≡ entered.place =
    one places e going_on.entered.place entered.place going_on.entered.at entered.at in
    let function : target ≡ last.function = named ∙ sym (going_on.function ∙ ap (own_function flow) same) in
    (e, c, from, subst (λ f. IsSegmentInto flow places exits entry c f segment) function into, going_on)
open-more flow places exits entry e c n target segment (first ∷ (next ∷ rest)) entered named from into going_on =
    let here = going_on.3 in
    let same : here.entered.place ≡ entered.place =
    one places e here.entered.place entered.place here.entered.at entered.at in
    let function : target ≡ first.function = named ∙ sym (here.function ∙ ap (own_function flow) same) in
    (e, c, from, subst (λ f. IsSegmentInto flow places exits entry c f segment) function into, going_on)

-- a segment that is pushed comes first, the other way round
pub turned : (old new : List Segment) (segment : Segment) → new ≡ old ++ segment ∷ [] →
    map segment_of (reverse new) ≡ segment_of segment ∷ map segment_of (reverse old)
turned old new segment items =
    ap (λ (xs : List Segment). map segment_of (reverse xs)) items ∙
    ap (λ (xs : List Segment). map segment_of xs) (reverse-append old (segment ∷ []))
