use Rattle.std.proofs.Common.{◌≡◌, ℕ, get_or, slice_get, sym, ap, ◌∙◌, subst, inl, inr, arith}
use Rattle.std.proofs.lemmas.Bool.{cases_lt}
use Rattle.std.proofs.lemmas.Option.{slice_get_within, slice_get-get_or, same_Some}
use Rattle.ck_base.specs.declared.spans.FnId.{FnId}
use Rattle.ck_graph.specs.Walk.{names_target}
use Rattle.ck_summary.proofs.Targets.{MayEnter-from_place, named-place}
use Rattle.ck_paths.specs.Search.{HasCalled}
use Rattle.ck_paths.proofs.Growing.{Grows-then}
use Rattle.ck_paths.proofs.Chains.{called-kept, called-before}
use Rattle.ck_paths.proofs.search.pass_call.Goals as goal

pub call_one-requires-clause-target : goal.call_one-requires-clause-target
call_one-requires-clause-target c =
    MayEnter-from_place c.args.graph.now c.args.calls.point.0 c.targets-targets.result.now c.loop-target.target-index
    _ c.requires.call c.targets-targets.ensures (slice_get-get_or c.targets-targets.result.now
    c.loop-target.target-index _ c.loop-target-test.true)

pub loop-target-preserved : goal.loop-target-preserved
loop-target-preserved c =
    let flow = c.args.graph.now in
    let old = c.args.found.now.places.items in
    let mid = c.loop-target.found.places.items in
    let new = c.call_one.new.found.places.items in
    let targets = c.targets-targets.result.now in
    let n = c.loop-target.target-index in
    let grew = c.in_ok-call_one.ensures.grows in
    record {
      grows = Grows-then flow old mid new c.loop-target.found.last.items c.call_one.new.found.last.items
          c.loop-target.invariant.grows grew;
      passed = λ k f below there. elim (cases_lt k n) [
        | inl before ↦ called-kept flow old mid new c.args.calls f.0 grew.kept
            (c.loop-target.invariant.passed k f before there)
        | inr last ↦
            let number : k ≡ n = omega (arith, last, below) in
            let same : f ≡ get_or targets n _ = same_Some f (get_or targets n _)
            (sym there ∙ (ap (slice_get targets) number ∙ slice_get-get_or targets n _ c.loop-target-test.true)) in
            subst (λ (g : FnId). HasCalled flow old new c.args.calls g.0) (sym same)
            (called-before flow old mid new c.args.calls _ c.loop-target.invariant.grows.kept
            c.in_ok-call_one.ensures.passed)
      ];
    }

pub returns-clause-passed : goal.returns-clause-passed
returns-clause-passed c = λ target may.
    let flow = c.args.graph.now in
    let targets = c.targets-targets.result.now in
    let place = named-place targets target (ap (λ ts. names_target ts target) c.targets-targets.ensures ∙ may.named) in
    subst (λ (t : ℕ). HasCalled flow c.args.found.now.places.items c.loop-target.found.places.items c.args.calls t)
    place.3
    (c.loop-target.invariant.passed place.0 place.1 (omega (
      arith,
      c.loop-target-test.false,
      slice_get_within targets
          place.0 place.1 place.2,
    )) place.2)
